-- `words::numbers::after_sign` meets its contract: one to five digits, and what follows them.
use mathlib.Core.Logic.{inl, inr}
use mathlib.Core.Path.{◌≡◌, sym, ap, ◌∙◌}
use mathlib.Core.List.{List}
use Prim.Native.Nat.{ℕ, ◌≤◌, ◌<◌}
use native.Mathlib.Nat.{le_of_eq}
use native.Mathlib.Omega.{arith}
use lib.ListN.{length, take, drop, length-drop}
use lib.Seq.{take_all}
use Rattle.text.specs.Text.{value}
use Rattle.words.specs.Leading.{leading, behind}
use Rattle.words.specs.Number.{most_digits, with_decimals}
use Rattle.words.specs.Pieces.{digit}
use Rattle.words.proofs.LeadingLaws.{drop_leading}
use Rattle.words.proofs.NumberLaws.{digits_are, digits_few, digits_many, leading_digits, looked_few, looked_many, power_below}
use Rattle.words.proofs.SizeLaws.{value_small}
use Rattle.words.proofs.numbers.after_sign.Goals as goal
use Rattle.words.proofs.numbers.after_sign.Goals.{After-read_digits-digits}

-- the digits that are read, where they are not too many
module _ (c : After-read_digits-digits) where
  counted : c.read_digits-digits.result.count ≡ length (leading digit (take c.min.result c.args.s.now))
  counted = c.read_digits-digits.ensures.counted

  module _ (h : c.read_digits-digits.result.count ≤ most_digits) where
    front : leading digit (take c.min.result c.args.s.now) ≡ leading digit c.args.s.now
    front = looked_few c.args.s.now c.min.result c.min.ensures (omega (arith, counted, h))

    count : c.read_digits-digits.result.count ≡ length (leading digit c.args.s.now)
    count = counted ∙ ap (λ (l : List ℕ). length l) front

    rest : drop c.read_digits-digits.result.count c.args.s.now ≡ behind digit c.args.s.now
    rest = ap (λ (m : ℕ). drop m c.args.s.now) count ∙ drop_leading digit c.args.s.now

    reads : c.read_digits-digits.result.value ≡ value (leading digit c.args.s.now)
    reads = c.read_digits-digits.ensures.reads ∙ ap value front

    small : c.read_digits-digits.result.value < 100_000
    small = omega (arith, reads, value_small (leading digit c.args.s.now) (leading_digits c.args.s.now), power_below (length (leading digit c.args.s.now)) (omega (arith, count, h)))

pub returns-then-n-eq0 : goal.returns-then-n-eq0
returns-then-n-eq0 c =
    let here = (goal.at.returns-then-n-eq0 c).After-read_digits-digits in
    elim c.then-n-eq0.either [
      | inl e ↦
          let few : c.read_digits-digits.result.count ≤ most_digits = omega (arith, e) in
          sym (digits_few _ _ (sym (count here few) ∙ e))
      | inr h ↦ sym (digits_many _ _ (looked_many c.args.s.now c.min.result c.min.ensures (omega (arith, counted here, h.1))))
    ]

pub with_decimals-requires : goal.with_decimals-requires
with_decimals-requires c = small (goal.at.with_decimals-requires c).After-read_digits-digits (omega (arith, c.if-n-gt-MOST_DIGITS.false))

pub returns : goal.returns
returns c =
    let here = (goal.at.returns c).After-read_digits-digits in
    let few : c.read_digits-digits.result.count ≤ most_digits = omega (arith, c.if-n-gt-MOST_DIGITS.false) in
    let negative = c.args.negative in
    let whole = reads here few in
    let behind = take_all _ (drop c.read_digits-digits.result.count c.args.s.now) (le_of_eq (length-drop c.read_digits-digits.result.count c.args.s.now)) ∙ rest here few in
    c.with_decimals.ensures ∙ (λ i. with_decimals negative (whole i) (behind i))
    ∙ sym (digits_are negative c.args.s.now (omega (arith, count here few, c.if-n-eq0.false)) (omega (arith, count here few, few)))
