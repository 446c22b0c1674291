-- The lines of rows, one behind the other: as they are stored, and that those of an accepted tape are its listing's. From the laws of texts stored and of
-- an accepted tape.
use mathlib.Core.Path.{◌≡◌, refl, sym, ap, ◌∙◌}
use mathlib.Core.Bool.{Bool, cond}
use mathlib.Core.List.{List, ◌++◌, append_assoc, []}
use Prim.Native.Nat.{ℕ, zero, suc, ◌+◌, ◌-◌, ◌*◌, ◌≤◌, ◌<◌, min}
use native.Mathlib.Decide.{dec_lt}
use native.Mathlib.Nat.{add-zero, zero-add}
use native.Mathlib.Numerals.{add-one}
use native.Mathlib.Omega.{arith}
use borrow.Author.Tests.{lt-ltb, le-ltb}
use lib.Dec.{ltb}
use lib.ListN.{length, drop, length-append}
use lib.Seq.{get_or-drop, drop-drop, drop-length}
use Rattle.profile.specs.Line.{number_at}
use Rattle.machine.specs.declared.Block.{Block}
use Rattle.line.specs.Answers.{given_of, ramp_between}
use Rattle.line.specs.declared.Given.{Given}
use Rattle.text.specs.Text.{decimal, row}
use Rattle.text.specs.Store.{put, Stored}
use Rattle.text.proofs.Lines.{length_line}
use Rattle.text.proofs.Store.{put_none, put_next}
use Rattle.given_text.specs.Given.{given_text, listed_numbers, listed_of, most_given, WroteLine}
use Rattle.tape.specs.Tape.{record_at, records_in, tape_blocks}
use Rattle.tape.specs.Answers.{tape_refusal}
use Rattle.tape.proofs.Faults.{length_blocks, drop_blocks}
use Rattle.tapeplan.specs.Planned.{tape_machine, tape_plan}
use Rattle.tapeplan.specs.Sheet.{measured_at, measured_of}
use Rattle.tape_rows.specs.Rows.{row_of}
use Rattle.listing.specs.Listing.{lines_of}
use Rattle.listing.specs.Parts.{line_of, listed_row, part_blocks, row_lines}
use Rattle.listing.proofs.Plans.{row_between}
use Rattle.tapeplan.specs.declared.Measured.{Measured}

module _ (blocks : ℕ) (sheet : List Measured) (plan : List ℕ) where
  -- the line of block k, and none behind the last
  abbrev pub line_at : ℕ → List ℕ
  line_at k = cond (ltb k blocks) (line_of sheet plan k) []

  line_here : (k : ℕ) → k < blocks → line_at k ≡ line_of sheet plan k
  line_here k h = ap (λ (t : Bool). cond t (line_of sheet plan k) []) (lt-ltb k blocks h)

  line_beyond : (k : ℕ) → blocks ≤ k → line_at k ≡ []
  line_beyond k h = ap (λ (t : Bool). cond t (line_of sheet plan k) []) (le-ltb k blocks h)

  pub lines_beyond : (k n : ℕ) → blocks ≤ k → row_lines blocks sheet plan k n ≡ []
  unfolding row_lines
  lines_beyond k zero h = refl
  lines_beyond k (suc n) h = λ i. line_beyond k h i ++ lines_beyond (suc k) n (omega arith) i

  -- some lines and more of them
  pub lines_both : (k n m : ℕ) → row_lines blocks sheet plan k (n + m) ≡ row_lines blocks sheet plan k n ++ row_lines blocks sheet plan (k + n) m
  unfolding row_lines
  lines_both k zero m = rw (zero-add m, add-zero k)
  lines_both k (suc n) m =
      let more : suc n + m ≡ suc (n + m) = omega arith in
      let next : suc k + n ≡ k + suc n = omega arith in
      rw more (
      ap (λ (t : List ℕ). line_at k ++ t) (lines_both (suc k) n m ∙ ap (λ (j : ℕ). row_lines blocks sheet plan (suc k) n ++ row_lines blocks sheet plan j m) next)
      ∙ sym (append_assoc (line_at k) (row_lines blocks sheet plan (suc k) n) (row_lines blocks sheet plan (k + suc n) m))
      )

  -- the lines of a part that begins at record `first`, from record k on; they begin with that of record k
  abbrev pub part_from : (first k : ℕ) → List ℕ
  part_from first k = row_lines blocks sheet plan k (first + part_blocks - k)

  part_cons : (first k : ℕ) → k < first + part_blocks → part_from first k ≡ line_at k ++ part_from first (k + 1)
  unfolding row_lines
  part_cons first k h =
      let more : first + part_blocks - k ≡ suc (first + part_blocks - (k + 1)) = omega arith in
      rw (more, add-one k)

  part_none : (first k : ℕ) → min (first + part_blocks) blocks ≤ k → part_from first k ≡ []
  unfolding row_lines
  part_none first k h = go (dec_lt k (first + part_blocks))
    where
      go : Dec (k < first + part_blocks) → part_from first k ≡ []
      go (yes g) = lines_beyond k (first + part_blocks - k) (omega arith)
      go (no g) = let none : first + part_blocks - k ≡ 0 = omega arith in rw none

  -- those before record k are stored: what is left leads to all of them, and they are no longer than so many lines may be
  pub record Storing (first : ℕ) (text₀ : List ℕ) (at : ℕ) (text : List ℕ) (end k : ℕ) : Type 0 where
    pub leads : put text end (part_from first k) ≡ put text₀ at (part_from first first)
    pub left : end + length (part_from first k) ≡ at + length (part_from first first)
    pub room : end ≤ at + most_given * (k - first)

  -- one line more
  pub storing_next : {first : ℕ} {text₀ text after : List ℕ} {at end next : ℕ} (k : ℕ) → Storing first text₀ at text end k → first ≤ k → k < first + part_blocks → k < blocks
      → end ≤ length text → WroteLine (line_of sheet plan k) text end next after → Storing first text₀ at after next (k + 1)
  storing_next {first} {text₀} {text} {after} {at} {end} {next} k v since h here room wrote =
      let cons : part_from first k ≡ line_at k ++ part_from first (k + 1) = part_cons first k h in
      let r : WroteLine (line_at k) text end next after = rw (line_here k here) wrote in
      record {
        leads = rw (r.stored.bytes, r.stored.next) (put_next text end (line_at k) (part_from first (k + 1)) room ∙ ap (put text end) (sym cons)) ∙ v.leads;
        left = omega (arith, v.left, r.stored.next, ap length cons, length-append (line_at k) (part_from first (k + 1)));
        room = omega (arith, v.room, r.few);
      }

  -- all of them
  pub storing_all : {first : ℕ} {text₀ text : List ℕ} {at end k : ℕ} → Storing first text₀ at text end k → min (first + part_blocks) blocks ≤ k
      → Stored text₀ at (row_lines blocks sheet plan first part_blocks) end text
  storing_all {first} {text₀} {text} {at} {end} {k} v h =
      let none : part_from first k ≡ [] = part_none first k h in
      let all : part_from first first ≡ row_lines blocks sheet plan first part_blocks = ap (row_lines blocks sheet plan first) (omega arith) in
      record {
        bytes = sym (put_none text end) ∙ ap (put text end) (sym none) ∙ v.leads ∙ ap (put text₀ at) all;
        next = omega (arith, v.left, ap length none, ap length all);
      }

-- the lines of an accepted tape: from block k on they begin with its row,
module _ (s loaded : List ℕ) where
  abbrev pub lines_from : ℕ → List ℕ
  lines_from k = lines_of (tape_machine s loaded) (drop k (tape_blocks s)) (drop k (tape_plan s loaded))

  pub rows_listed : (k : ℕ) → k < records_in s → lines_from k ≡ given_text (row_of s loaded k) ++ lines_from (k + 1)
  unfolding lines_of
  rows_listed k h =
      ap (λ (t : List Block). lines_of (tape_machine s loaded) t (drop k (tape_plan s loaded))) (drop_blocks s h)
      ∙ (λ i.
      given_text
      (given_of (tape_machine s loaded) (record_at s k) ((get_or-drop k (tape_plan s loaded) 0 0 ∙ ap (number_at (tape_plan s loaded)) (add-zero k)) i) (get_or-drop k (tape_plan s loaded) 1 0 i))
      ++ lines_of (tape_machine s loaded) (drop (k + 1) (tape_blocks s)) (drop-drop 1 k (tape_plan s loaded) i))

  pub rows_end : lines_from (records_in s) ≡ []
  unfolding lines_of
  rows_end =
      ap (λ (t : List Block). lines_of (tape_machine s loaded) t (drop (records_in s) (tape_plan s loaded)))
      (ap (λ (i : ℕ). drop i (tape_blocks s)) (sym (length_blocks s)) ∙ drop-length (tape_blocks s))

-- a line has at least its line feed
given_some : (g : Given) → 0 < length (given_text g)
unfolding given_text row
given_some g = omega (arith, length_line (decimal g.block.mark) (drop 1 (listed_numbers (listed_of g))))

-- and they are those of its rows, whatever follows them and its plan
module _ (s loaded : List ℕ) {blocks : ℕ} (sheet : List Measured) (plan : List ℕ) (passed : tape_refusal s ≡ 0) (count : blocks ≡ records_in s)
    (measured : (k : ℕ) → k < records_in s → measured_at sheet k ≡ measured_of (tape_machine s loaded) s k)
    (same : (k : ℕ) → k ≤ records_in s → number_at plan k ≡ number_at (tape_plan s loaded) k) where
  row_line : (k : ℕ) → k < records_in s → line_at blocks sheet plan k ≡ given_text (row_of s loaded k)
  row_line k h =
      line_here blocks sheet plan k (omega (arith, count))
      ∙ (λ i.
      row (listed_numbers (listed_row (measured k h i) (same k (omega arith) i) (same (k + 1) (omega arith) i) (ramp_between (measured k h i).numbers (same k (omega arith) i) (same (k + 1) (omega arith) i)))))
      ∙ row_between s loaded passed k h

  -- there is a byte where there is a block
  pub lines_some : (k n : ℕ) → k < records_in s → 0 < length (row_lines blocks sheet plan k (suc n))
  unfolding row_lines
  lines_some k n h =
      omega (arith, length-append (line_at blocks sheet plan k) (row_lines blocks sheet plan (suc k) n), ap length (row_line k h), given_some (row_of s loaded k))

  pub lines_accepted : (k n : ℕ) → k + n ≡ records_in s → row_lines blocks sheet plan k n ≡ lines_from s loaded k
  unfolding row_lines
  lines_accepted k zero e = let all : records_in s ≡ k = omega arith in sym (rows_end s loaded) ∙ ap (lines_from s loaded) all
  lines_accepted k (suc n) e =
      (λ i. row_line k (omega arith) i ++ (lines_accepted (suc k) n (omega arith) ∙ ap (lines_from s loaded) (sym (add-one k))) i)
      ∙ sym (rows_listed s loaded k (omega arith))
