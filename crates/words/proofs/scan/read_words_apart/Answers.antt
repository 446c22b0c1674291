-- `words::scan::read_words_apart` meets its contract: reading over the numbers of all slots is reading, laid over them. From `read_over`.
use mathlib.Core.Path.{◌≡◌, sym, ap, ◌∙◌}
use Rattle.words.specs.Words.{Scan, behind_words, over, words_by, words_in}
use Rattle.words.proofs.ApartLaws.{over_scan, read_over}
use Rattle.words.proofs.scan.read_words_apart.Goals as goal

pub returns : goal.returns
returns c =
    let line = c.args.line.now in
    let below = c.args.values.now in
    let read = c.read_words-answer.ensures in
    let all : over_scan below (behind_words line (words_in c.join-words.result)) ≡ behind_words line (words_by c.args.stands.now below) =
    sym (read_over below line (words_in c.join-words.result)) ∙ ap (behind_words line) c.join-words.ensures in
    record {
      number = read.number ∙ ap (λ (s : Scan). s.number) all;
      words = c.part.ensures ∙ ap (over below) read.words ∙ ap (λ (s : Scan). s.words) all;
      sized = record { told = c.part.array_long; numbers = c.part.array_long2 };
    }
