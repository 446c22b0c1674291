-- `words::numbers::of_decimals` meets its contract, by what the tests say of the decimals.
use mathlib.Core.Path.{◌≡◌, sym, ap, ◌∙◌}
use Prim.Native.Nat.{ℕ, ◌+◌, ◌-◌, ◌*◌, ◌^◌, ◌≤◌}
use native.Mathlib.Omega.{arith}
use borrow.Author.Tests.{eqb-true, eqb-false}
use lib.ListN.{length, take}
use lib.Seq.{take-length}
use mir.Syntax.{w64}
use mir.Facts.{to_z-of_z}
use Rattle.std.proofs.Common.{Some}
use Rattle.arith.specs.Signed.{signed_by}
use Rattle.text.specs.Text.{value}
use Rattle.words.specs.Leading.{leading}
use Rattle.words.specs.Number.{most_decimals, parts}
use Rattle.words.specs.Pieces.{digit}
use Rattle.words.proofs.LeadingLaws.{length_leading, take_leading}
use Rattle.words.proofs.NumberLaws.{all_digits, decimals_few, decimals_many, decimals_other, decimals_are, power_below}
use Rattle.words.proofs.SizeLaws.{value_small}
use Rattle.words.proofs.numbers.of_decimals.Goals as goal
use Rattle.words.proofs.numbers.of_decimals.Goals.{Else-digits-s, then-is_empty-via-then-is_empty, then-is_empty-via-else-is_empty+then-s-gt-MOST_DECIMALS}

pub returns-then-is_empty : goal.returns-then-is_empty
returns-then-is_empty c = elim c.then-is_empty.branch [
  | then-is_empty-via-then-is_empty w ↦ sym (decimals_few _ _ _ (eqb-true _ 0 (sym c.is_empty.ensures ∙ w.if-is_empty.true)))
  | then-is_empty-via-else-is_empty+then-s-gt-MOST_DECIMALS w ↦ sym (decimals_many _ _ _ w.if-s-gt-MOST_DECIMALS.true)
]

pub returns-then-digits-s : goal.returns-then-digits-s
returns-then-digits-s c = sym (decimals_other _ _ _ (omega (arith, c.read_digits-digits.ensures.counted, c.if-digits-s.true)))

-- the bytes are digits alone, so the number that is read is that of all
module _ (c : Else-digits-s) where
  all : length (leading digit c.args.s.now) ≡ length c.args.s.now
  all = omega (arith, length_leading digit c.args.s.now, c.read_digits-digits.ensures.counted, c.if-digits-s.false)

  reads : c.read_digits-digits.result.value ≡ value c.args.s.now
  reads = c.read_digits-digits.ensures.reads ∙ ap value (sym (take_leading digit c.args.s.now) ∙ ap (λ (n : ℕ). take n c.args.s.now) all ∙ take-length c.args.s.now)

pub in_parts-parts-requires : goal.in_parts-parts-requires
in_parts-parts-requires c =
    let here = (goal.at.in_parts-parts-requires c).Else-digits-s in
    (omega (arith, reads here, value_small c.args.s.now (all_digits c.args.s.now (all here)), power_below (length c.args.s.now) (omega arith)), omega arith)

pub returns : goal.returns
returns c =
    let a = c.args in
    let here = (goal.at.returns c).Else-digits-s in
    let result = to_z-of_z {w = w64} (record { sfits = c.signed_by.type_inv }) ∙ c.signed_by.ensures in
    let decimals = c.in_parts-parts.ensures.0 ∙ ap (λ (v : ℕ). v * 10 ^ (most_decimals - length c.args.s.now)) (reads here) in
    let some : 1 ≤ length a.s.now = omega (arith, eqb-false (length a.s.now) 0 (sym c.is_empty.ensures ∙ c.if-is_empty.false)) in
    ap Some (result ∙ ap (λ (n : ℕ). signed_by a.negative (a.whole * parts + n)) decimals)
    ∙ sym (decimals_are a.negative a.whole a.s.now some (omega arith) (all here))
