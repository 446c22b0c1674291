-- A text read line by line: what is still to be read leads to the end. From the laws of lines.
use mathlib.Core.Path.{◌≡◌, refl, sym, ap, subst, ◌∙◌}
use mathlib.Core.List.{List, [], ◌∷◌}
use Prim.Native.Nat.{ℕ, suc, ◌+◌, ◌≤◌, ◌<◌, min}
use native.Mathlib.Decide.{dec_le}
use native.Mathlib.Nat.{lt_of_not-le}
use native.Mathlib.Numerals.{add-one}
use native.Mathlib.Omega.{arith}
use lib.ListN.{length, take, drop, drop_of_length-le}
use lib.Seq.{drop-drop}
use Rattle.display.specs.Display.{refusal_number, Outcome, given, refused, Fault, ◌at◌}
use Rattle.display.specs.declared.Refusal.{Refusal}
use Rattle.display.proofs.Answers.{refusal_above, at_zero, above_zero}
use Rattle.machine.specs.declared.Block.{Block}
use Rattle.words.specs.Leading.{leading, behind}
use Rattle.words.specs.Lines.{lines_of, in_line, first_line, behind_line}
use Rattle.words.specs.Words.{Words, words_of}
use Rattle.words.proofs.LeadingLaws.{take_leading, drop_leading}
use Rattle.words.proofs.LineLaws.{lines_first}
use Rattle.rs274.specs.Kept.{Holds, Near, Takes, Reads}
use Rattle.rs274.specs.Modal.{begin, rounded_of}
use Rattle.rs274.specs.Text.{Run, run_of, with_words, with_line, with_lines, text_run}
use Rattle.rs274.specs.declared.Modal.{Modal}
use Rattle.rs274.specs.declared.kept.Kept.{Kept}
use Rattle.std.specs.Prelude.{Result, Ok, Err}

-- A line by its words, where they are right, and its refusal, where they are not.
module _ (p : ℕ) (r : Run) (line : List ℕ) (answer : Result Modal Refusal) (kept : Kept) where
  pub takes_passed : (w : Words) → (words_of line).number ≡ 0 → w ≡ (words_of line).words → Takes (with_words p r w) answer kept → Takes (with_line p r line) answer kept
  unfolding with_line
  takes_passed w e f h =
      subst (λ (o : Outcome ℕ Run). Takes o answer kept)
      (ap (with_words p r) f ∙ sym (at_zero (with_words p r (words_of line).words) (refused (words_of line).number) e)) h

pub takes_faulty : (p : ℕ) (r : Run) (line : List ℕ) (why : Refusal) (kept : Kept) → (words_of line).number ≡ refusal_number why
    → Takes (with_line p r line) (Err why) kept
unfolding with_line
takes_faulty p r line why kept e =
    let above : 0 < (words_of line).number = rw e (refusal_above why) in
    subst (λ (o : Outcome ℕ Run). Takes o (Err why) kept)
    (ap refused (sym e) ∙ sym (above_zero (with_words p r (words_of line).words) (refused (words_of line).number) (above))) refl

-- A text that is not empty has a first line; how it and what is behind it are found.
lines_next : (s : List ℕ) → 0 < length s → lines_of s ≡ first_line s ∷ lines_of (behind_line s)
lines_next [] h = absurd (omega arith)
lines_next (b ∷ s) h = lines_first b s

-- The rest of a text: its first line, by how many bytes that has, and what is behind it and its line feed.
module _ (rest : List ℕ) (size : ℕ) (counted : size ≡ length (leading in_line rest)) where
  pub line_is : take size rest ≡ first_line rest
  line_is = ap (λ (n : ℕ). take n rest) counted ∙ take_leading in_line rest

  pub behind_is : drop (min (length rest) (size + 1)) rest ≡ behind_line rest
  behind_is =
      drop_end ∙ sym (drop-drop 1 size rest)
      ∙ ap (λ (n : ℕ). drop 1 (drop n rest)) counted ∙ ap (drop 1) (drop_leading in_line rest)
    where
      drop_end : drop (min (length rest) (size + 1)) rest ≡ drop (size + 1) rest
      drop_end = elim (dec_le (size + 1) (length rest)) [
        | yes h ↦ let e : min (length rest) (size + 1) ≡ size + 1 = omega arith in ap (λ (n : ℕ). drop n rest) e
        | no h ↦
            let all : length rest ≤ min (length rest) (size + 1) = omega (arith, lt_of_not-le h) in
            let short : length rest ≤ size + 1 = omega (arith, lt_of_not-le h) in
            drop_of_length-le rest all ∙ sym (drop_of_length-le rest short)
      ]

-- The blocks of the lines so far, and what they and the rest of the text lead to.
pub record Reading (text : List ℕ) (kept : Kept) (m : Modal) (place : ℕ) (rest : List ℕ) : Type 0 where
  pub blocks : List Block
  pub holds : Holds kept.bytes kept.count blocks
  pub near : Near kept.count m
  pub leads : with_lines (place + 1) (run_of m blocks) (lines_of rest) ≡ text_run text

pub reading_begins : (text : List ℕ) (kept : Kept) (m : Modal) → m ≡ begin → Holds kept.bytes kept.count [] → Reading text kept m 0 text
unfolding text_run rounded_of
reading_begins text kept m e h =
    record {
      blocks = [];
      holds = h;
      near = subst (λ (n : Modal). Near kept.count n) (sym e) (record { x = omega arith; y = omega arith; z = omega arith });
      leads = ap (λ (n : Modal). with_lines 1 (run_of n []) (lines_of text)) e;
    }

module _ (text : List ℕ) (kept : Kept) (m : Modal) (place : ℕ) (rest : List ℕ) (r : Reading text kept m place rest) where
  -- At the end of the text all is read.
  pub reading_ends : length rest ≡ 0 → Reads (text_run text) (Ok tt) kept
  unfolding with_lines lines_of
  reading_ends h =
      subst (λ (o : Outcome Fault (List Block)). Reads o (Ok tt) kept)
      (ap (λ (s : List ℕ). with_lines (place + 1) (run_of m r.blocks) (lines_of s)) (sym (none rest h)) ∙ r.leads) r.holds
    where
      none : (s : List ℕ) → length s ≡ 0 → s ≡ []
      none [] h = refl
      none (b ∷ s) h = absurd (omega arith)

  -- The next line, by what it comes to.
  module _ (line : List ℕ) (is : line ≡ first_line rest) (here : 0 < length rest) (after : Kept) where
    abbrev follow : Outcome ℕ Run → Outcome Fault (List Block)
    follow o = elim o [ given next ↦ with_lines (suc (place + 1)) next (lines_of (behind_line rest)) | refused n ↦ refused (n at (place + 1)) ]

    leads_line : follow (with_line (place + 1) (run_of m r.blocks) line) ≡ text_run text
    unfolding with_lines
    leads_line =
        ap (λ (l : List ℕ). follow (with_line (place + 1) (run_of m r.blocks) l)) is
        ∙ ap (with_lines (place + 1) (run_of m r.blocks)) (sym (lines_next rest here)) ∙ r.leads

    pub reading_stops : (why : Refusal) → Takes (with_line (place + 1) (run_of m r.blocks) line) (Err why) after
        → Reads (text_run text) (Err record { why = why; place = place + 1 }) after
    reading_stops why h = by (with_line (place + 1) (run_of m r.blocks) line) h leads_line
      where
        by : (o : Outcome ℕ Run) → Takes o (Err why) after → follow o ≡ text_run text → Reads (text_run text) (Err record { why = why; place = place + 1 }) after
        by (given next) h e = absurd h
        by (refused n) h e =
            subst (λ (o : Outcome Fault (List Block)). Reads o (Err record { why = why; place = place + 1 }) after) e (ap (λ (k : ℕ). k at (place + 1)) h)

    pub reading_next : (next : Modal) (behind : List ℕ) → behind ≡ behind_line rest → Takes (with_line (place + 1) (run_of m r.blocks) line) (Ok next) after
        → Reading text after next (place + 1) behind
    reading_next next behind f h = by (with_line (place + 1) (run_of m r.blocks) line) h leads_line
      where
        by : (o : Outcome ℕ Run) → Takes o (Ok next) after → follow o ≡ text_run text → Reading text after next (place + 1) behind
        by (refused n) h e = absurd h
        by (given run) h e =
            record {
              blocks = run.blocks;
              holds = h.1.1;
              near = h.1.0;
              leads = (λ i. with_lines (add-one (place + 1) i) (run_of (sym h.0 i) run.blocks) (lines_of (f i))) ∙ e;
            }
