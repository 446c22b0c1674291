-- `rs274::line::take_line` meets its contract, by whether the line's words are right.
use mathlib.Core.Path.{◌≡◌, sym, subst}
use Rattle.std.proofs.Common.{rules, Err}
use Rattle.words.specs.Words.{Words, words_in}
use Rattle.words.proofs.SizeLaws.{words_small}
use Rattle.rs274.specs.Bounds.{WordsWithin}
use Rattle.rs274.specs.Text.{run_of}
use Rattle.rs274.proofs.Reading.{takes_passed, takes_faulty}
use Rattle.rs274.proofs.line.take_line.Goals as goal

pub returns-in_err-read_words : goal.returns-in_err-read_words
returns-in_err-read_words c blocks h =
    let why = c.in_err-read_words.field-0.0 in
    let e : c.from_residual.result ≡ Err why = search rules in
    rw e (takes_faulty c.args.place (run_of c.args.m blocks) c.args.line.now why c.args.kept.now (sym c.in_err-read_words.ensures.number))

pub take_words-requires : goal.take_words-requires
take_words-requires c =
    (subst (λ (w : Words). WordsWithin w) (sym c.in_ok-read_words.ensures.words) (words_small c.args.line.now), c.requires)

pub returns : goal.returns
returns c blocks h =
    let read = c.in_ok-read_words.ensures in
    takes_passed c.args.place (run_of c.args.m blocks) c.args.line.now c.take_words.result c.take_words.new.kept
    (words_in c.read_words.new.words) (sym read.number) read.words (c.take_words.ensures blocks h)
