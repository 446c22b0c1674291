-- `options::kinds::number_of`: a turn goes one digit further.
use Rattle.std.proofs.Common.{length, arith, sym, ◌∙◌, add-one}
use borrow.Author.Tests.{eqb-false}
use Rattle.options.proofs.Tests.{number_within, ten_next, value_stops, value_goes, value_ends}
use Rattle.options.proofs.kinds.number_of.Goals as goal

pub returns-then-not-is_ascii_digit : goal.returns-then-not-is_ascii_digit
returns-then-not-is_ascii_digit c =
    let w = c.args.word.now in
    let e = sym c.is_ascii_digit.ensures.value ∙ c.if-not-is_ascii_digit.true in
    sym (number_within w (omega arith) (omega arith) ∙ sym c.loop-byte.invariant.2 ∙ value_stops w c.loop-byte.byte-index c.loop-byte.value (omega arith) e)

pub loop-byte-preserved : goal.loop-byte-preserved
loop-byte-preserved c =
    let w = c.args.word.now in
    let e = sym c.is_ascii_digit.ensures.value ∙ c.if-not-is_ascii_digit.false in
    let d = rw c.if-not-is_ascii_digit.false at c.is_ascii_digit.ensures.cases in
    let g = value_goes w c.loop-byte.byte-index c.loop-byte.value (omega arith) e in
    (omega arith, ten_next c.loop-byte.byte-index c.loop-byte.value c.from.result c.loop-byte.invariant.1 (omega (arith, d)), rw (add-one c.loop-byte.byte-index, c.from.ensures) (sym g ∙ c.loop-byte.invariant.2))

pub returns : goal.returns
returns c =
    let w = c.args.word.now in
    let some = eqb-false (length w) 0 (sym c.is_empty.ensures ∙ c.if-is_empty.false) in
    sym (number_within w (omega (arith, some)) (omega arith) ∙ sym c.loop-byte.invariant.2 ∙ value_ends w c.loop-byte.byte-index c.loop-byte.value (omega arith))
