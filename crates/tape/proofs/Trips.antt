-- The limits and a record: written and read, read and written, and what stays. From the laws of a value in bytes (`Stored`), at the two layouts.
use mathlib.Core.Path.{◌≡◌, refl, sym, ap, ◌∙◌}
use Prim.Native.Nat.{ℕ, ◌/◌, ◌%◌, ◌^◌, ◌≤◌, ◌<◌}
use native.Mathlib.Nat.{mod-mod}
use native.Mathlib.Omega.{arith}
use mathlib.Core.List.{List, ◌∷◌, ◌++◌, []}
use lib.Dec.{eqb}
use lib.IntN.{ℤ}
use lib.ListN.{length, take, drop, get_or, take-append-drop}
use Rattle.fields.specs.Layouts.{split}
use Rattle.fields.specs.Bytes.{Bytes}
use Rattle.fields.specs.Signed.{signed_of, bits_of}
use Rattle.fields.proofs.Signed.{signed_bits, bits_signed}
use Rattle.machine.specs.Lists.{limits_from}
use Rattle.machine.specs.Checks.{limits_refusal, block_refusal}
use Rattle.machine.specs.Labels.{label_of, labelled_block}
use Rattle.machine.proofs.Labels.{label_back, label_forth}
use Rattle.machine.specs.declared.Limits.{Limits}
use Rattle.machine.specs.declared.Block.{Block}
use Rattle.tape.specs.Tape.{limits_bytes, limits_layout, limits_fields, limits_number, limits_at, zero_bits, record_bytes, move_bits, record_layout, block_fields, block_from, block_number, block_at}
use mathlib.Core.Bool.{cond}
use Rattle.display.specs.Display.{given}
use Rattle.tape.specs.Answers.{limits_fault, limits_read_refusal, read_limits, record_read_refusal, read_record, limits_write_refusal, limits_written, record_write_refusal, record_written}
use Rattle.tape.proofs.Checks.{no_fault}
use Rattle.tape.proofs.Fits.{block_fits, moves_fit, limits_fit}
use Rattle.tape.proofs.Stored.{Form, Lossless, refused_same, beyond_same, length_same, taken, passes, later, written_read, read_written}

-- A record: its block is whole in its fields, by two's complement of its moves.
move_whole : (v : ℕ) → bits_of move_bits (signed_of move_bits (v % 2 ^ move_bits)) ≡ v % 2 ^ move_bits
move_whole v = bits_signed move_bits (v % 2 ^ move_bits) ∙ mod-mod v (2 ^ move_bits)

fields_whole : (m : ℕ) → block_fields (block_from (split record_layout m)) ≡ split record_layout m
unfolding split labelled_block
fields_whole m =
    let label = label_forth (move 107) (move 86) (move 65) (m / 2 ^ 45 % 2 ^ 20) (m / 2 ^ 21 % 2 ^ 24) (m / 2 ^ 0 % 2 ^ 21) (omega arith) in
    λ i. move_whole (m / 2 ^ 107) i ∷ move_whole (m / 2 ^ 86) i ∷ move_whole (m / 2 ^ 65) i ∷ m / 2 ^ 45 % 2 ^ 20 ∷ m / 2 ^ 21 % 2 ^ 24 ∷ label i ∷ []
  where
    move : ℕ → ℤ
    move k = signed_of move_bits (m / 2 ^ k % 2 ^ move_bits)

block_whole : (b : Block) → block_refusal b ≡ 0 → block_from (block_fields b) ≡ b
block_whole b e =
    let m = moves_fit b e in
    (λ i.
    labelled_block (signed_bits move_bits b.x (omega arith) m.0 i) (signed_bits move_bits b.y (omega arith) m.1 i)
    (signed_bits move_bits b.z (omega arith) m.2 i) b.feed b.radius (label_of b))
    ∙ label_back b e

abbrev record_form : Form Block
record_form =
    record {
      bytes = record_bytes;
      layout = record_layout;
      fields_of = block_fields;
      from = block_from;
      refusal = block_refusal;
      fault = λ (vs : List ℕ). block_refusal (block_from vs);
    }

record_lossless : Lossless record_form
record_lossless =
    record {
      width = refl;
      fits = block_fits;
      back = λ b e. (block_whole b e, ap block_refusal (block_whole b e) ∙ e);
      forth = λ m e. (e, fields_whole m);
    }

-- What the reader takes.
pub record_taken : (s : List ℕ) {b : Block} → read_record s ≡ given b → (record_bytes ≤ length s) × ((block_at s ≡ b) × (block_refusal b ≡ 0))
unfolding read_record record_read_refusal block_at
record_taken s e = let t = taken record_form s e in (t.long, (t.says, passes record_form record_lossless t))

-- A block that passes 2 to 6, written and then read, is that block.
pub record_written_read : (b : Block) (s : List ℕ) → block_refusal b ≡ 0 → record_bytes ≤ length s → read_record (record_written b s) ≡ given b
unfolding read_record record_read_refusal block_at record_written record_write_refusal block_number
record_written_read = written_read record_form record_lossless

-- A record that the reader takes, written again into any bytes, gives the same 16 bytes; in its own place nothing changes.
pub record_read_written : {s : List ℕ} {b : Block} → Bytes s → read_record s ≡ given b → (t : List ℕ) → record_bytes ≤ length t
    → record_written b t ≡ take record_bytes s ++ drop record_bytes t
unfolding read_record record_read_refusal block_at record_written record_write_refusal block_number
record_read_written = read_written record_form record_lossless

pub record_rewritten : {s : List ℕ} {b : Block} → Bytes s → read_record s ≡ given b → record_written b s ≡ s
record_rewritten {s} h e = record_read_written h e s (record_taken s e).0 ∙ take-append-drop record_bytes s

-- On a refusal no byte changes, bytes beyond the 16 never do, and none is added or lost.
pub record_refused : (b : Block) (s : List ℕ) → 0 < record_write_refusal b s → record_written b s ≡ s
unfolding record_written record_write_refusal block_number
record_refused = refused_same record_form

pub record_beyond : (b : Block) (s : List ℕ) → drop record_bytes (record_written b s) ≡ drop record_bytes s
unfolding record_written record_write_refusal block_number
record_beyond = beyond_same record_form

pub record_length : (b : Block) (s : List ℕ) → length (record_written b s) ≡ length s
unfolding record_written record_write_refusal block_number
record_length = length_same record_form

-- Later bytes play no part in reading.
pub record_later : (s t : List ℕ) → record_bytes ≤ length s → read_record (s ++ t) ≡ read_record s
unfolding read_record record_read_refusal block_at
record_later = later record_form

-- The limits: they are whole in their fields where the zero bits are 0.
limits_whole : (m : ℕ) → get_or (split limits_layout m) 9 0 ≡ 0 → limits_fields (limits_from (split limits_layout m)) ≡ split limits_layout m
unfolding split limits_from
limits_whole m z =
    λ i.
    m / 2 ^ 167 % 2 ^ 25 ∷ m / 2 ^ 142 % 2 ^ 25 ∷ m / 2 ^ 117 % 2 ^ 25 ∷ m / 2 ^ 97 % 2 ^ 20 ∷ m / 2 ^ 77 % 2 ^ 20 ∷ m / 2 ^ 57 % 2 ^ 20
    ∷ m / 2 ^ 37 % 2 ^ 20 ∷ m / 2 ^ 27 % 2 ^ 10 ∷ m / 2 ^ 13 % 2 ^ 14 ∷ sym z i ∷ []

abbrev limits_form : Form Limits
limits_form =
    record {
      bytes = limits_bytes;
      layout = limits_layout;
      fields_of = limits_fields;
      from = limits_from;
      refusal = limits_refusal;
      fault = λ (vs : List ℕ). cond (eqb (get_or vs 9 0) 0) (limits_refusal (limits_from vs)) 1;
    }

limits_lossless : Lossless limits_form
unfolding limits_from
limits_lossless =
    record {
      width = refl;
      fits = limits_fit;
      back = λ l e. (refl, e);
      forth =
          λ m e. let f = no_fault (get_or (split limits_layout m) 9 0) (limits_refusal (limits_from (split limits_layout m))) e in (f.1, limits_whole m f.0);
    }

-- What the reader takes.
pub limits_taken : (s : List ℕ) {l : Limits} → read_limits s ≡ given l → (limits_bytes ≤ length s) × ((limits_at s ≡ l) × (limits_refusal l ≡ 0))
unfolding read_limits limits_read_refusal limits_fault zero_bits limits_at
limits_taken s e = let t = taken limits_form s e in (t.long, (t.says, passes limits_form limits_lossless t))

-- Limits that pass 1, written and then read, are those limits.
pub limits_written_read : (l : Limits) (s : List ℕ) → limits_refusal l ≡ 0 → limits_bytes ≤ length s → read_limits (limits_written l s) ≡ given l
unfolding read_limits limits_read_refusal limits_fault zero_bits limits_at limits_written limits_write_refusal limits_number
limits_written_read = written_read limits_form limits_lossless

-- Limits that the reader takes, written again into any bytes, give the same 24 bytes; in their own place nothing changes.
pub limits_read_written : {s : List ℕ} {l : Limits} → Bytes s → read_limits s ≡ given l → (t : List ℕ) → limits_bytes ≤ length t
    → limits_written l t ≡ take limits_bytes s ++ drop limits_bytes t
unfolding read_limits limits_read_refusal limits_fault zero_bits limits_at limits_written limits_write_refusal limits_number
limits_read_written = read_written limits_form limits_lossless

pub limits_rewritten : {s : List ℕ} {l : Limits} → Bytes s → read_limits s ≡ given l → limits_written l s ≡ s
limits_rewritten {s} h e = limits_read_written h e s (limits_taken s e).0 ∙ take-append-drop limits_bytes s

-- On a refusal no byte changes, bytes beyond the 24 never do, and none is added or lost.
pub limits_refused : (l : Limits) (s : List ℕ) → 0 < limits_write_refusal l s → limits_written l s ≡ s
unfolding limits_written limits_write_refusal limits_number
limits_refused = refused_same limits_form

pub limits_beyond : (l : Limits) (s : List ℕ) → drop limits_bytes (limits_written l s) ≡ drop limits_bytes s
unfolding limits_written limits_write_refusal limits_number
limits_beyond = beyond_same limits_form

pub limits_length : (l : Limits) (s : List ℕ) → length (limits_written l s) ≡ length s
unfolding limits_written limits_write_refusal limits_number
limits_length = length_same limits_form

-- Later bytes play no part in reading.
pub limits_later : (s t : List ℕ) → limits_bytes ≤ length s → read_limits (s ++ t) ≡ read_limits s
unfolding read_limits limits_read_refusal limits_fault zero_bits limits_at
limits_later = later limits_form
