-- The kept records written into the lent list, and what a text is answered. From the laws of a stored text.
use mathlib.Core.Path.{◌≡◌, refl, sym, ap, ◌∙◌}
use mathlib.Core.Bool.{Bool, true, false, cond}
use mathlib.Core.List.{List, ◌++◌}
use Prim.Native.Nat.{ℕ, ◌+◌, ◌*◌, ◌<◌}
use native.Mathlib.Omega.{arith}
use borrow.Author.Tests.{le-ltb, leb-true}
use lib.Dec.{leb, ltb}
use lib.ListN.{length, take, drop}
use Rattle.display.specs.Display.{placed_outcome_of, Outcome, given, refused, Fault, ◌at◌}
use Rattle.display.proofs.Answers.{refusal_above, above_zero}
use Rattle.machine.specs.declared.Block.{Block}
use Rattle.tape.specs.Tape.{record_bytes}
use Rattle.tape.specs.Answers.{ragged_below}
use Rattle.text.specs.Store.{put, Answered}
use Rattle.std.specs.Prelude.{Option, Some, None, Result, Ok, Err}
use Rattle.rs274.specs.Answers.{blocks_in, text_blocks, lines_fault, records_of, text_fault, text_answer, text_written, WroteText}
use Rattle.rs274.specs.Kept.{Reads, WroteKept}
use Rattle.rs274.specs.Text.{text_run}
use Rattle.display.specs.declared.RefusedAt.{RefusedAt}
use Rattle.rs274.specs.declared.kept.Kept.{Kept}
use Rattle.rs274.proofs.Keeping.{length_records}

-- The kept records are written where they have room.
module _ (count : ℕ) (records lent : List ℕ) {answer : Option ℕ} {left : List ℕ} (w : Answered lent 0 records answer left) where
  put_front : put lent 0 records ≡ records ++ drop (length records) lent
  unfolding put
  put_front = ap (λ (n : ℕ). records ++ drop n lent) (none (length records))
    where
      none : (n : ℕ) → 0 + n ≡ n
      none n = omega arith

  pub kept_written : {n : ℕ} → answer ≡ Some n → WroteKept count records lent (Ok count) left
  kept_written {n} is = by (leb (0 + length records) (length lent)) refl w.next
    where
      by : (t : Bool) → leb (0 + length records) (length lent) ≡ t → answer ≡ cond t (Some (0 + length records)) None → WroteKept count records lent (Ok count) left
      by true e g =
          let room = le-ltb (length lent) (length records) (omega (arith, leb-true (0 + length records) (length lent) e)) in
          record { answer = rw room refl; bytes = rw room (w.bytes ∙ rw e put_front) }
      by false e g = let z : ◌≡◌ {A = ℕ} 0 1 = cc in absurd (omega arith)

-- A text whose lines have a fault is answered that, and nothing is written.
module _ (s lent : List ℕ) where
  text_faulty : (f : Fault) → text_run s ≡ refused f → 0 < f.number → text_fault s lent ≡ f
  unfolding text_fault lines_fault
  text_faulty f e h = rw e (above_zero (ragged_below (record_bytes * length (text_blocks s)) lent at 0) f h)

  pub text_refused : (r : RefusedAt) (kept : Kept) → Reads (text_run s) (Err r) kept → WroteText s lent (Err r) lent
  unfolding text_answer text_written
  text_refused r kept h = by (text_run s) refl h
    where
      by : (o : Outcome Fault (List Block)) → text_run s ≡ o → Reads o (Err r) kept → WroteText s lent (Err r) lent
      by (given blocks) e h = absurd h
      by (refused f) e h =
          let above : 0 < f.number = rw (sym h) (refusal_above r.why) in
          let fault = text_faulty f e above in
          record {
            answer = rw fault (ap refused h ∙ sym (above_zero (given (length (text_blocks s))) (refused f) above));
            bytes = rw fault (sym (above_zero (records_of (text_blocks s) ++ drop (record_bytes * length (text_blocks s)) lent) lent above));
          }

  -- A text without is answered the number of its blocks, and their records are written, where they have room.
  module _ (blocks : List Block) (e : text_run s ≡ given blocks) where
    blocks_are : text_blocks s ≡ blocks
    unfolding text_blocks
    blocks_are = ap blocks_in e

    text_faultless : text_fault s lent ≡ ragged_below (record_bytes * length blocks) lent at 0
    unfolding text_fault lines_fault
    text_faultless = rw (blocks_are, e)

    written_either : (t : Bool) → ltb (length lent) (record_bytes * length blocks) ≡ t → (r : Result ℕ RefusedAt) (left : List ℕ)
        → placed_outcome_of r ≡ cond t (refused (9 at 0)) (given (length blocks)) → left ≡ cond t lent (records_of blocks ++ drop (record_bytes * length blocks) lent)
        → WroteText s lent r left
    unfolding text_answer text_written
    written_either true f r left g h = record { answer = rw (text_faultless, f) g; bytes = rw (text_faultless, f) h }
    written_either false f r left g h = record { answer = rw (text_faultless, f, blocks_are) g; bytes = rw (text_faultless, f, blocks_are) h }

  pub text_written_lem : (kept : Kept) (r : Result ℕ RefusedAt) (left : List ℕ) → Reads (text_run s) (Ok tt) kept
      → WroteKept kept.count (take (record_bytes * kept.count) kept.bytes) lent r left → WroteText s lent r left
  text_written_lem kept r left h w = by (text_run s) refl h
    where
      by : (o : Outcome Fault (List Block)) → text_run s ≡ o → Reads o (Ok tt) kept → WroteText s lent r left
      by (refused f) e h = absurd h
      by (given blocks) e h =
          let size : length (take (record_bytes * kept.count) kept.bytes) ≡ record_bytes * length blocks = ap (λ (t : List ℕ). length t) h.stored ∙ length_records blocks in
          written_either blocks e (ltb (length lent) (record_bytes * length blocks)) refl r left
          (w.answer ∙ (λ i. cond (ltb (length lent) (size i)) (refused (9 at 0)) (given (sym h.counted i))))
          (w.bytes ∙ (λ i. cond (ltb (length lent) (size i)) lent (h.stored i ++ drop (size i) lent)))
