-- `words::scan::put_word` meets its contract, by what the number and the slot are. From `put_bad` and `put_of`.
use mathlib.Core.Path.{◌≡◌, sym, ap, subst, ◌∙◌}
use Rattle.std.proofs.Common.{rules, ℤ, Err}
use Rattle.arith.proofs.SignedLaws.{field_back}
use Rattle.display.specs.declared.Refusal.TheVariants as why
use Rattle.words.specs.Steps.{Puts}
use Rattle.words.specs.Words.{slot_of, with_slot, words_in}
use Rattle.words.proofs.SlotLaws.{put_bad, put_of}
use Rattle.words.proofs.scan.put_word.Goals as goal

pub returns-in_err-value : goal.returns-in_err-value
returns-in_err-value c =
    let none = c.in_err-value.ensures.ok_part in
    let e : c.from_residual.result ≡ Err c.in_err-value.field-0.0 = search rules in
    let number = rw none at c.in_err-value.ensures.value in
    let is : c.in_err-value.field-0.0 ≡ why.Number = cc in
    rw (e, is) (put_bad _ _ _ (sym c.read_number.ensures ∙ none))

pub returns : goal.returns
returns c =
    let a = c.args in
    let w = words_in a.words.now in
    let z = c.in_ok-value.value in
    let after = words_in c.put_slot.new.words in
    let back = field_back z (search rules) in
    put_of a.letter a.numerals.now w c.put_slot.result after z c.slot_of.result (sym c.read_number.ensures ∙ c.in_ok-value.ensures.ok_part)
    (c.slot_of.ensures.0 ∙ ap (slot_of a.letter) back)
    (subst (λ (v : ℤ). Puts (with_slot c.slot_of.result v w) w c.put_slot.result after) back c.put_slot.ensures)
