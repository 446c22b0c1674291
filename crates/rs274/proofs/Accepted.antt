-- What an accepted text has: at most as many blocks as a tape, each of which passes; and with limits it is a tape. From the laws of tapes.
use mathlib.Core.Path.{◌≡◌, refl, sym, ap, subst, ◌∙◌}
use mathlib.Core.Bool.{Bool, true, false, cond}
use mathlib.Core.List.{List, [], ◌∷◌, ◌++◌}
use Prim.Native.Nat.{ℕ, zero, suc, ◌+◌, ◌-◌, ◌*◌, ◌/◌, ◌%◌, ◌≤◌, ◌<◌}
use native.Mathlib.Decide.{dec_le}
use native.Mathlib.Nat.{lt_of_not-le}
use native.Mathlib.Omega.{arith}
use borrow.Author.Tests.{ltb-true, le-ltb, eq-eqb}
use lib.Dec.{eqb, ltb, lit<, lit≤}
use lib.ListN.{length, take, drop, get_or, length-append, take-append-drop, get_or-append}
use lib.Seq.{take_all, drop_at, drop-drop, length-take-le, get_or-append-add, ext_get_or}
use Rattle.display.specs.Display.{by_number, ◌then◌, Outcome, given, refused, or_refused, Fault, ◌at◌}
use Rattle.display.proofs.Answers.{above_zero, at_zero, then_first, then_second, then_zero, picked, given_is}
use Rattle.fields.specs.Bytes.{bytes_of, with_bytes}
use Rattle.fields.proofs.Bytes.{length_bytes}
use Rattle.machine.specs.Checks.{greatest_move, block_refusal, limits_refusal}
use Rattle.machine.specs.Labels.{no_block}
use Rattle.machine.specs.declared.Block.{Block}
use Rattle.machine.specs.declared.Limits.{Limits}
use Rattle.tape.specs.Tape.{limits_bytes, limits_at, record_bytes, block_number, block_at, record_at, records_in, tape_limits, tape_blocks}
use Rattle.tape.specs.Answers.{ragged_below, many_in, ragged_in, limits_fault, limits_read_refusal, read_limits, record_write_refusal, record_written, limits_written, most_blocks, most_bytes, head_refusal, tape_refusal}
use Rattle.tape.proofs.Answers.{enough}
use Rattle.tape.proofs.Faults.{length_blocks, get_d_blocks, tape_faultless}
use Rattle.tape.proofs.Trips.{record_taken, record_written_read, limits_taken, limits_later, limits_written_read, limits_length}
use Rattle.words.specs.Lines.{lines_of}
use Rattle.words.specs.Words.{Words, words_of}
use Rattle.rs274.specs.Meaning.{TapeOf}
use Rattle.rs274.specs.Answers.{blocks_in, text_blocks, records_of}
use Rattle.rs274.specs.Modal.{begin, modal_after, block_between}
use Rattle.rs274.specs.Text.{Run, run_of, many_blocks, with_block, with_words, with_line, with_lines, text_run}
use Rattle.rs274.proofs.Keeping.{length_records}

-- At most as many blocks as a tape has, each of which passes; and what reading comes to has such blocks, or is refused.
pub record Fine (blocks : List Block) : Type 0 where
  pub few : length blocks ≤ most_blocks
  pub passes : (k : ℕ) → k < length blocks → block_refusal (get_or blocks k no_block) ≡ 0

abbrev FineIn : {Why : Type 0} → Outcome Why (List Block) → Type 0
FineIn (given blocks) = Fine blocks
FineIn (refused w) = Unit {0}

abbrev FineRun : Outcome ℕ Run → Type 0
FineRun (given r) = Fine r.blocks
FineRun (refused n) = Unit {0}

fine_none : Fine []
fine_none = record { few = lit≤ tt; passes = λ k h. absurd (omega arith) }

fine_more : (b : Block) (blocks : List Block) → Fine blocks → block_refusal b ≡ 0 → length blocks < most_blocks → Fine (blocks ++ b ∷ [])
fine_more b blocks f e h =
    let size = length-append blocks (b ∷ []) in
    record { few = omega (arith, size); passes = λ k l. each k (omega (arith, size, l)) }
  where
    each : (k : ℕ) → k ≤ length blocks → block_refusal (get_or (blocks ++ b ∷ []) k no_block) ≡ 0
    each k l = elim (dec_le (suc k) (length blocks)) [
      | yes g ↦ ap block_refusal (get_or-append blocks (b ∷ []) no_block k g) ∙ f.passes k g
      | no g ↦ ap block_refusal (last k (omega (arith, lt_of_not-le g))) ∙ e
    ]
      where
        last : (k : ℕ) → k ≡ length blocks + 0 → get_or (blocks ++ b ∷ []) k no_block ≡ b
        last k is = ap (λ (j : ℕ). get_or (blocks ++ b ∷ []) j no_block) is ∙ get_or-append-add blocks (b ∷ []) 0 no_block

block_fine : (b : Block) (blocks : List Block) → Fine blocks → FineIn (with_block b blocks)
unfolding with_block
block_fine b blocks f = by (eqb (greatest_move b) 0)
  where
    passed : (n : ℕ) → (block_refusal b then many_blocks blocks) ≡ n → FineIn (or_refused n (blocks ++ b ∷ []))
    passed zero e =
        let z = then_zero (block_refusal b) e in
        fine_more b blocks f z.0 (ltb-true (length blocks) most_blocks (picked (ltb (length blocks) most_blocks) (lit< tt) z.1))
    passed (suc n) e = tt

    by : (t : Bool) → FineIn (cond t (given blocks) (or_refused (block_refusal b then many_blocks blocks) (blocks ++ b ∷ [])))
    by true = f
    by false = passed (block_refusal b then many_blocks blocks) refl

words_fine : (p : ℕ) (r : Run) (w : Words) → Fine r.blocks → FineRun (with_words p r w)
unfolding with_words
words_fine p r w f = by (with_block (block_between r.modal (modal_after r.modal w) p) r.blocks) (block_fine (block_between r.modal (modal_after r.modal w) p) r.blocks f)
  where
    by : (o : Outcome ℕ (List Block)) → FineIn o → FineRun (elim o [ given blocks ↦ given (run_of (modal_after r.modal w) blocks) | refused n ↦ refused n ])
    by (given blocks) h = h
    by (refused n) h = tt

line_fine : (p : ℕ) (r : Run) (line : List ℕ) → Fine r.blocks → FineRun (with_line p r line)
unfolding with_line
line_fine p r line f = by (words_of line).number
  where
    by : (n : ℕ) → FineRun (by_number n (with_words p r (words_of line).words) (refused (words_of line).number))
    by zero = words_fine p r (words_of line).words f
    by (suc n) = tt

lines_fine : (p : ℕ) (r : Run) (lines : List (List ℕ)) → Fine r.blocks → FineIn (with_lines p r lines)
unfolding with_lines
lines_fine p r [] f = f
lines_fine p r (line ∷ rest) f = by (with_line p r line) (line_fine p r line f) (λ next. lines_fine (suc p) next rest)
  where
    by : (o : Outcome ℕ Run) → FineRun o → ((next : Run) → Fine next.blocks → FineIn (with_lines (suc p) next rest))
        → FineIn {Why = Fault} (elim o [ given next ↦ with_lines (suc p) next rest | refused n ↦ refused (n at p) ])
    by (given next) h more = more next h
    by (refused n) h more = tt

-- The blocks of every text are so; a text with a fault has none.
pub text_fine : (text : List ℕ) → Fine (text_blocks text)
unfolding text_blocks text_run
text_fine text = by (with_lines 1 (run_of begin []) (lines_of text)) (lines_fine 1 (run_of begin []) (lines_of text) fine_none)
  where
    by : (o : Outcome Fault (List Block)) → FineIn o → Fine (blocks_in o)
    by (given blocks) h = h
    by (refused f) h = fine_none

-- A text has at most as many blocks as a tape,
pub text_few : (text : List ℕ) → length (text_blocks text) ≤ most_blocks
text_few text = (text_fine text).few

-- and each of them passes 2 to 6.
pub text_passes : (text : List ℕ) (k : ℕ) → k < length (text_blocks text) → block_refusal (get_or (text_blocks text) k no_block) ≡ 0
text_passes text = (text_fine text).passes

-- The records of blocks that pass, one behind the other, say these blocks.
module _ (b : Block) (rest : List ℕ) where
  abbrev bytes : List ℕ
  bytes = bytes_of record_bytes (block_number b)

  abbrev all : List ℕ
  all = bytes ++ rest

  size : length bytes ≡ record_bytes
  size = length_bytes record_bytes (block_number b)

  long : record_bytes ≤ length all
  long = omega (arith, length-append bytes rest, size)

  same : record_write_refusal b all ≡ 0 → record_written b all ≡ all
  unfolding record_written with_bytes
  same e = at_zero (with_bytes all 0 record_bytes (block_number b)) all e ∙ ap (λ (t : List ℕ). bytes ++ t) (drop_at bytes rest record_bytes size)

  front_record : block_refusal b ≡ 0 → block_at all ≡ b
  unfolding record_write_refusal
  front_record e =
      ap block_at (sym (same (then_second e (enough record_bytes all long)))) ∙ (record_taken (record_written b all) (record_written_read b all e long)).1.0

  later_record : (k : ℕ) → drop (record_bytes * suc k) all ≡ drop (record_bytes * k) rest
  later_record k =
      ap (λ (n : ℕ). drop n all) (next k) ∙ sym (drop-drop (record_bytes * k) record_bytes all) ∙ ap (drop (record_bytes * k)) (drop_at bytes rest record_bytes size)
    where
      next : (k : ℕ) → record_bytes * suc k ≡ record_bytes + record_bytes * k
      next k = omega arith

record_says : (blocks : List Block) → ((k : ℕ) → k < length blocks → block_refusal (get_or blocks k no_block) ≡ 0) → (k : ℕ) → k < length blocks
    → block_at (drop (record_bytes * k) (records_of blocks)) ≡ get_or blocks k no_block
unfolding records_of
record_says [] each k h = absurd (omega arith)
record_says (b ∷ blocks) each zero h = front_record b (records_of blocks) (each 0 h)
record_says (b ∷ blocks) each (suc k) h =
    ap block_at (later_record b (records_of blocks) k) ∙ record_says blocks (λ j l. each (suc j) (omega arith)) k (omega arith)

-- Limits that the reader takes, and the records of blocks behind their 24 bytes, are a tape that passes, with these limits and blocks.
module _ (head : List ℕ) (l : Limits) (e : read_limits head ≡ given l) (blocks : List Block) (fine : Fine blocks) where
  abbrev front : List ℕ
  front = take limits_bytes head

  abbrev tape : List ℕ
  tape = front ++ records_of blocks

  front_length : length front ≡ limits_bytes
  front_length = length-take-le limits_bytes head (limits_taken head e).0

  tape_length : length tape ≡ limits_bytes + record_bytes * length blocks
  tape_length = length-append front (records_of blocks) ∙ (λ i. front_length i + length_records blocks i)

  tape_records : records_in tape ≡ length blocks
  tape_records = ap (λ (n : ℕ). (n - limits_bytes) / record_bytes) tape_length ∙ count (length blocks)
    where
      count : (n : ℕ) → (limits_bytes + record_bytes * n - limits_bytes) / record_bytes ≡ n
      count n = omega arith

  read_front : read_limits front ≡ given l
  read_front =
      sym (limits_later front (drop limits_bytes head) (omega (arith, front_length))) ∙ ap read_limits (take-append-drop limits_bytes head) ∙ e

  read_tape : read_limits tape ≡ given l
  read_tape = limits_later front (records_of blocks) (omega (arith, front_length)) ∙ read_front

  no_fault : limits_fault tape ≡ 0
  unfolding read_limits limits_read_refusal
  no_fault = (then_zero (ragged_below limits_bytes tape) (given_is (limits_at tape) (limits_read_refusal tape) (limits_read_refusal tape) (sym read_tape)).0).1

  no_head_fault : head_refusal tape ≡ 0
  unfolding head_refusal
  no_head_fault = then_second few (then_second whole no_fault)
    where
      few : many_in tape ≡ 0
      few = rw (le-ltb most_bytes (length tape) (omega (arith, tape_length, fine.few)))

      parted : (n : ℕ) → (limits_bytes + record_bytes * n - limits_bytes) % record_bytes ≡ 0
      parted n = omega arith

      whole : ragged_in tape ≡ 0
      whole =
          rw (
            le-ltb (length tape) limits_bytes (omega (arith, tape_length)),
            eq-eqb ((length tape - limits_bytes) % record_bytes) 0 (ap (λ (n : ℕ). (n - limits_bytes) % record_bytes) tape_length ∙ parted (length blocks)),
          )

  record_is : (k : ℕ) → k < length blocks → record_at tape k ≡ get_or blocks k no_block
  record_is k h =
      ap block_at (sym (drop-drop (record_bytes * k) limits_bytes tape) ∙ ap (drop (record_bytes * k)) (drop_at front (records_of blocks) limits_bytes front_length))
      ∙ record_says blocks fine.passes k h

  pub made_passes : tape_refusal tape ≡ 0
  made_passes =
      ap (λ (f : Fault). f.number)
      (tape_faultless tape no_head_fault (λ k h. let g : k < length blocks = omega (arith, tape_records) in ap block_refusal (record_is k g) ∙ fine.passes k g))

  pub made_limits : tape_limits tape ≡ l
  made_limits = (limits_taken tape read_tape).1.0

  pub made_blocks : tape_blocks tape ≡ blocks
  made_blocks =
      ext_get_or no_block (tape_blocks tape) blocks (length_blocks tape ∙ tape_records)
      (λ k h. let g : k < length blocks = omega (arith, length_blocks tape, tape_records) in get_d_blocks tape no_block (omega (arith, tape_records)) ∙ record_is k g)

-- Limits that the reader takes and the records of a text are a tape that passes, with these limits and the text's blocks;
pub text_tape : (head text : List ℕ) (l : Limits) → read_limits head ≡ given l → TapeOf (take limits_bytes head ++ records_of (text_blocks text)) l (text_blocks text)
text_tape head text l e =
    let fine = text_fine text in
    record { passes = made_passes head l e (text_blocks text) fine; limits = made_limits head l e (text_blocks text) fine; says = made_blocks head l e (text_blocks text) fine }

-- so are limits that pass, written into any 24 bytes, and these records.
pub text_tape_written : (l : Limits) (bytes text : List ℕ) → limits_refusal l ≡ 0 → length bytes ≡ limits_bytes
    → TapeOf (limits_written l bytes ++ records_of (text_blocks text)) l (text_blocks text)
text_tape_written l bytes text e h =
    let all : take limits_bytes (limits_written l bytes) ≡ limits_written l bytes = take_all limits_bytes (limits_written l bytes) (omega (arith, limits_length l bytes)) in
    subst (λ (s : List ℕ). TapeOf (s ++ records_of (text_blocks text)) l (text_blocks text)) all
    (text_tape (limits_written l bytes) text l (limits_written_read l bytes e (omega arith)))

-- A line's block is refused by its own fault before 10, however many there are.
pub own_first : (b : Block) (blocks : List Block) → eqb (greatest_move b) 0 ≡ false → 0 < block_refusal b → with_block b blocks ≡ refused (block_refusal b)
unfolding with_block
own_first b blocks e h =
    ap (λ (t : Bool). cond t (given blocks) (or_refused (block_refusal b then many_blocks blocks) (blocks ++ b ∷ []))) e
    ∙ ap (λ (n : ℕ). or_refused n (blocks ++ b ∷ [])) (then_first (many_blocks blocks) h)
    ∙ above_zero (given (blocks ++ b ∷ [])) (refused (block_refusal b)) h
