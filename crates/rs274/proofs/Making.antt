-- The tape of limits and a text, stored in the lent bytes: the records first, then the limits before them. From the laws of stored texts.
use mathlib.Core.Path.{◌≡◌, refl, sym, ap, subst, ◌∙◌}
use mathlib.Core.List.{List, ◌++◌, append_assoc, append-nil}
use Prim.Native.Nat.{ℕ, zero, suc, ◌+◌, ◌-◌, ◌*◌, ◌≤◌, ◌<◌}
use native.Mathlib.Nat.{le_of_eq}
use native.Mathlib.Omega.{arith}
use borrow.Author.Tests.{ltb-false}
use borrow.Rule.Slice.PartMut.{mid_of, put_mid, put_same, same_len_mid}
use lib.Dec.{ltb, lit<}
use lib.ListN.{length, take, drop, length-append, length-drop, drop_of_length-le}
use lib.Seq.{take_all, drop_at, drop-drop, length-take-le}
use Rattle.display.specs.Display.{given, refused, refusal_number, fault_of, placed_outcome_of, by_number, Fault, ◌at◌, ◌else◌}
use Rattle.display.specs.declared.Refusal.{Refusal}
use Rattle.display.proofs.Answers.{refusal_above, at_zero, above_zero, then_zero, not_picked, given_is, refused_is}
use Rattle.tape.specs.Tape.{limits_bytes, limits_at, record_bytes}
use Rattle.tape.specs.Answers.{ragged_below, limits_read_refusal, read_limits, most_blocks, most_bytes}
use Rattle.machine.specs.declared.Limits.{Limits}
use Rattle.tape.proofs.Answers.{enough}
use Rattle.text.specs.Store.{put, Stored}
use Rattle.text.specs.Text.{refused_at}
use Rattle.std.specs.Prelude.{Result, Ok, Err}
use Rattle.rs274.specs.Answers.{text_blocks, lines_fault, records_of, text_fault, text_answer, text_written, WroteText, tape_fault, tape_or_line}
use Rattle.display.specs.declared.RefusedAt.{RefusedAt}
use Rattle.rs274.proofs.Accepted.{text_few}
use Rattle.rs274.proofs.Keeping.{length_records}

-- Limits that are read, and limits that are refused.
pub limits_right : (head : List ℕ) {l : Limits} → given l ≡ read_limits head → limits_read_refusal head ≡ 0
unfolding read_limits
limits_right head {l} h = (given_is (limits_at head) (limits_read_refusal head) (limits_read_refusal head) h).0

pub limits_wrong : (head s : List ℕ) (why : Refusal) → refused (refusal_number why) ≡ read_limits head
    → refused_at (refusal_number why) 0 ≡ tape_or_line head s
unfolding read_limits tape_or_line tape_fault
limits_wrong head s why h =
    let is = refused_is (limits_at head) (limits_read_refusal head) (limits_read_refusal head) h in
    let fault : (limits_read_refusal head at 0 else lines_fault s) ≡ refusal_number why at 0 =
    above_zero (lines_fault s) (limits_read_refusal head at 0) is.0 ∙ ap (λ (n : ℕ). n at 0) (sym is.1) in
    sym ((λ i. by_number (fault i).number (take limits_bytes head ++ records_of (text_blocks s)) (refused_at (fault i).number (fault i).place))
    ∙ above_zero (take limits_bytes head ++ records_of (text_blocks s)) (refused_at (refusal_number why) 0) (refusal_above why))

-- A fault, and one behind it that has no number.
else_none : (f g : Fault) → g.number ≡ 0 → (f else g).number ≡ f.number
else_none f g e = by f.number refl
  where
    by : (k : ℕ) → f.number ≡ k → (by_number k g f).number ≡ f.number
    by zero h = e ∙ sym h
    by (suc k) h = refl

-- The records written into the lent bytes behind the limits' place.
module _ (head s out : List ℕ) (right : limits_read_refusal head ≡ 0) (size : length out ≡ most_bytes) where
  abbrev part : List ℕ
  part = mid_of limits_bytes (length out - limits_bytes) out

  part_is : part ≡ drop limits_bytes out
  part_is = take_all (length out - limits_bytes) (drop limits_bytes out) (le_of_eq (length-drop limits_bytes out))

  part_long : record_bytes * length (text_blocks s) ≤ length part
  part_long = rw part_is (rw length-drop (omega (arith, text_few s)))

  pub head_long : limits_bytes ≤ length head
  unfolding limits_read_refusal
  head_long =
      ltb-false (length head) limits_bytes (not_picked (ltb (length head) limits_bytes) (lit< tt) (then_zero (ragged_below limits_bytes head) right).0)

  fault_number : (text_fault s part).number ≡ (lines_fault s).number
  unfolding text_fault
  fault_number = else_none (lines_fault s) (ragged_below (record_bytes * length (text_blocks s)) part at 0) (enough (record_bytes * length (text_blocks s)) part part_long)

  tape_fault_lem : tape_fault head s ≡ lines_fault s
  unfolding tape_fault
  tape_fault_lem = at_zero (lines_fault s) (limits_read_refusal head at 0) right

  module _ (r : Result ℕ RefusedAt) (left : List ℕ) (w : WroteText s part r left) where
    abbrev after : List ℕ
    after = put_mid limits_bytes (length out - limits_bytes) out left

    -- The text is refused: nothing is written, and the line is the refusal's.
    module _ (q : RefusedAt) (is : r ≡ Err q) where
      why_is : (0 < (text_fault s part).number) × (fault_of q ≡ text_fault s part)
      unfolding text_answer
      why_is = refused_is (length (text_blocks s)) (text_fault s part) (text_fault s part).number (sym (ap placed_outcome_of is) ∙ w.answer)

      lines_fault_lem : lines_fault s ≡ fault_of q
      unfolding text_fault
      lines_fault_lem =
          let above : 0 < (lines_fault s).number = subst (λ (n : ℕ). 0 < n) fault_number why_is.0 in
          sym (above_zero (ragged_below (record_bytes * length (text_blocks s)) part at 0) (lines_fault s) above) ∙ sym why_is.1

      pub nothing_written : after ≡ out
      unfolding text_written
      nothing_written =
          ap (put_mid limits_bytes (length out - limits_bytes) out)
          (w.bytes ∙ above_zero (records_of (text_blocks s) ++ drop (record_bytes * length (text_blocks s)) part) part why_is.0)
          ∙ put_same limits_bytes (length out - limits_bytes) out

      pub line_is : refused_at (refusal_number q.why) q.place ≡ tape_or_line head s
      unfolding tape_or_line
      line_is =
          let fault = tape_fault_lem ∙ lines_fault_lem in
          sym ((λ i. by_number (fault i).number (take limits_bytes head ++ records_of (text_blocks s)) (refused_at (fault i).number (fault i).place))
          ∙ above_zero (take limits_bytes head ++ records_of (text_blocks s)) (refused_at (refusal_number q.why) q.place) (refusal_above q.why))

    -- The text is right: its records are written, and the limits before them.
    module _ (n : ℕ) (is : r ≡ Ok n) where
      n_is : ((text_fault s part).number ≡ 0) × (n ≡ length (text_blocks s))
      unfolding text_answer
      n_is = given_is (length (text_blocks s)) (text_fault s part) (text_fault s part).number (sym (ap placed_outcome_of is) ∙ w.answer)

      pub n_few : n ≤ most_blocks
      n_few = omega (arith, n_is.1, text_few s)

      abbrev records : List ℕ
      records = records_of (text_blocks s)

      records_length : length records ≡ record_bytes * n
      records_length = length_records (text_blocks s) ∙ ap (λ (k : ℕ). record_bytes * k) (sym n_is.1)

      left_is : left ≡ records ++ drop (record_bytes * n) part
      unfolding text_written
      left_is =
          w.bytes ∙ at_zero (records ++ drop (record_bytes * length (text_blocks s)) part) part n_is.0
          ∙ ap (λ (k : ℕ). records ++ drop (record_bytes * k) part) (sym n_is.1)

      left_length : length left ≡ length part
      left_length =
          ap (λ (t : List ℕ). length t) left_is ∙ length-append records (drop (record_bytes * n) part)
          ∙ (λ i. records_length i + length-drop (record_bytes * n) part i) ∙ whole
        where
          whole : record_bytes * n + (length part - record_bytes * n) ≡ length part
          whole = omega (arith, part_long, n_is.1)

      pub after_length : length after ≡ most_bytes
      after_length = same_len_mid limits_bytes (length out - limits_bytes) out left left_length ∙ size

      tape_is : take limits_bytes head ++ records ≡ tape_or_line head s
      unfolding tape_or_line
      tape_is =
          sym (at_zero (take limits_bytes head ++ records) (refused_at (tape_fault head s).number (tape_fault head s).place)
          (ap (λ (f : Fault). f.number) tape_fault_lem ∙ sym fault_number ∙ n_is.0))

      behind_limits : drop limits_bytes after ≡ records ++ drop (limits_bytes + record_bytes * n) out
      behind_limits =
          drop_at (take limits_bytes out) (left ++ drop (length out - limits_bytes) (drop limits_bytes out)) limits_bytes (length-take-le limits_bytes out (omega (arith, size)))
          ∙ (λ i. left_is i ++ drop_of_length-le (drop limits_bytes out) (le_of_eq (length-drop limits_bytes out)) i)
          ∙ append-nil (records ++ drop (record_bytes * n) part)
          ∙ ap (λ (t : List ℕ). records ++ drop (record_bytes * n) t) part_is
          ∙ ap (λ (t : List ℕ). records ++ t) (drop-drop (record_bytes * n) limits_bytes out)

      pub tape_stored : {end : ℕ} {last : List ℕ} → Stored after 0 (take limits_bytes head) limits_bytes last → end ≡ limits_bytes + record_bytes * n
          → Stored out 0 (tape_or_line head s) end last
      unfolding put
      tape_stored {end} {last} h e =
          let front = take limits_bytes head in
          let tape_length : length (front ++ records) ≡ limits_bytes + record_bytes * n =
          length-append front records ∙ (λ i. length-take-le limits_bytes head head_long i + records_length i) in
          record {
            bytes =
                h.bytes ∙ ap (λ (k : ℕ). front ++ drop k after) (sym h.next) ∙ ap (λ (t : List ℕ). front ++ t) behind_limits
                ∙ sym (append_assoc front records (drop (limits_bytes + record_bytes * n) out))
                ∙ (λ i. (front ++ records) ++ drop (none (sym tape_length i) i) out)
                ∙ ap (λ (t : List ℕ). t ++ drop (0 + length t) out) tape_is;
            next = e ∙ sym tape_length ∙ none (length (front ++ records)) ∙ ap (λ (t : List ℕ). 0 + length t) tape_is;
          }
        where
          none : (k : ℕ) → k ≡ 0 + k
          none k = omega arith
