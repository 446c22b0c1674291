-- `words::numbers::read_digits` meets its contract: what is read and what is still to be read are the whole, by their number and by what they
-- write.
use Rattle.std.proofs.Common.{◌≡◌, ◌∙◌, sym, length, get_or, arith}
use lib.Dec.{leb}
use borrow.Author.Tests.{leb-true}
use Rattle.arith.proofs.Tests.{both}
use Rattle.words.specs.Pieces.{digit}
use Rattle.words.proofs.LeadingLaws.{counts_yes, counts_no, counts_end}
use Rattle.words.proofs.NumberLaws.{reads_yes, reads_no, reads_end, value_below}
use Rattle.words.proofs.numbers.read_digits.Goals as goal

pub returns-then-not-is_ascii_digit : goal.returns-then-not-is_ascii_digit
returns-then-not-is_ascii_digit c =
    let l = c.loop-count in
    let s = c.args.s.now in
    let no = sym c.is_ascii_digit.ensures.value ∙ c.if-not-is_ascii_digit.true in
    record {
      counted = sym (counts_no digit s l.count c.loop-count-test.true no) ∙ l.invariant.1.0;
      reads = sym (reads_no l.value s l.count c.loop-count-test.true no) ∙ l.invariant.1.1;
    }

pub loop-count-preserved : goal.loop-count-preserved
loop-count-preserved c =
    let l = c.loop-count in
    let s = c.args.s.now in
    let b = get_or s l.count 0 in
    let yes = sym c.is_ascii_digit.ensures.value ∙ c.if-not-is_ascii_digit.false in
    let most = leb-true b 57 (both (leb 48 b) (leb b 57) yes).1 in (
      rw c.from.ensures (value_below l.value b l.count l.invariant.0 most),
      (
        sym (counts_yes digit s l.count c.loop-count-test.true yes) ∙ l.invariant.1.0,
        rw c.from.ensures (sym (reads_yes l.value s l.count c.loop-count-test.true yes) ∙ l.invariant.1.1),
      ),
    )

pub returns : goal.returns
returns c =
    let l = c.loop-count in
    let s = c.args.s.now in
    let all : length s ≡ l.count = omega (arith, c.loop-count-test.false, l.auto.count-end) in
    record {
      counted = all ∙ sym (counts_end digit s l.count c.loop-count-test.false) ∙ l.invariant.1.0;
      reads = sym (reads_end l.value s l.count c.loop-count-test.false) ∙ l.invariant.1.1;
    }
