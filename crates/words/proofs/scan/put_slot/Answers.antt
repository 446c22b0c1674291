-- `words::scan::put_slot` meets its contract: the slot is none, taken or free. The last from `put_free`.
use mathlib.Core.Path.{sym, subst, ◌∙◌}
use Rattle.std.proofs.Common.{ℤ, Ok, Some, set}
use Rattle.arith.proofs.SignedLaws.{read_back_lem}
use Rattle.words.specs.Steps.{Puts}
use Rattle.words.specs.Words.{Words, with_slot, words_in}
use Rattle.words.proofs.SlotLaws.{filled_in, put_free, stands_in}
use Rattle.words.proofs.scan.put_slot.Goals as goal

pub returns : goal.returns
returns c =
    let a = c.args in
    let l = a.words.now in
    let k = c.in_ok-k.k in
    let free = stands_in l k ∙ sym c.is_some.ensures ∙ c.if-is_some.false in
    subst (λ (z : ℤ). Puts (with_slot a.slot a.value (words_in l)) (words_in l) (Ok tt) (words_in (set l k (Some z)))) (sym (read_back_lem c.ranges.value))
    (subst (λ (w : Words). Puts (with_slot a.slot a.value (words_in l)) (words_in l) (Ok tt) w) (sym (filled_in l k a.value))
    (put_free a.slot a.value (words_in l) k c.in_ok-k.ensures.ok_part free))
