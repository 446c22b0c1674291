-- Document 01, "Tape": what the bytes of a tape say, as the number that they write, most significant byte first.
use Rattle.std.specs.Prelude.{ℕ, zero, suc, ◌+◌, ◌-◌, ◌*◌, ◌/◌, List, ◌∷◌, [], length, take, drop, get_or}
use Rattle.fields.specs.Layouts.{joined, split}
use Rattle.fields.specs.Bytes.{number_of}
use Rattle.fields.specs.Signed.{signed_of, bits_of}
use Rattle.machine.specs.Labels.{label_of, labelled_block}
use Rattle.machine.specs.Lists.{limit_numbers, limits_from}
use Rattle.machine.specs.declared.Limits.{Limits}
use Rattle.machine.specs.declared.Block.{Block}

-- the limits: how many bytes, and the widths in bits of acceleration X, Y, Z, speed X, Y, Z, J, E, T and the zero bits
abbrev pub limits_bytes : ℕ
limits_bytes = 24

abbrev pub limits_layout : List ℕ
limits_layout = 25 ∷ 25 ∷ 25 ∷ 20 ∷ 20 ∷ 20 ∷ 20 ∷ 10 ∷ 14 ∷ 13 ∷ []

-- the values of these fields, of limits, with the zero bits 0
abbrev pub limits_fields : Limits → List ℕ
limits_fields l = limit_numbers l (0 ∷ [])

-- limits as the number that their bytes write
unfoldable pub limits_number : Limits → ℕ
limits_number l = joined limits_layout (limits_fields l)

-- the values of the fields in the bytes of the limits
abbrev pub limits_values : List ℕ → List ℕ
limits_values s = split limits_layout (number_of (take limits_bytes s))

-- the limits, and the zero bits, that these bytes say
unfoldable pub limits_at : List ℕ → Limits
limits_at s = limits_from (limits_values s)

unfoldable pub zero_bits : List ℕ → ℕ
zero_bits s = get_or (limits_values s) 9 0

-- a record: how many bytes, the bits of a move, and the widths in bits of move X, Y, Z, feed, radius and label
abbrev pub record_bytes : ℕ
record_bytes = 16

abbrev pub move_bits : ℕ
move_bits = 21

abbrev pub record_layout : List ℕ
record_layout = move_bits ∷ move_bits ∷ move_bits ∷ 20 ∷ 24 ∷ 21 ∷ []

-- the values of these fields, of a block; its moves by two's complement
abbrev pub block_fields : Block → List ℕ
block_fields b = bits_of move_bits b.x ∷ bits_of move_bits b.y ∷ bits_of move_bits b.z ∷ b.feed ∷ b.radius ∷ label_of b ∷ []

-- the block that the values of these fields say
abbrev pub block_from : List ℕ → Block
block_from vs =
    labelled_block (signed_of move_bits (get_or vs 0 0)) (signed_of move_bits (get_or vs 1 0)) (signed_of move_bits (get_or vs 2 0)) (get_or vs 3 0) (get_or vs 4 0) (get_or vs 5 0)

-- a block as the number that its bytes write
unfoldable pub block_number : Block → ℕ
block_number b = joined record_layout (block_fields b)

-- the values of the fields in the bytes of a record
abbrev pub record_values : List ℕ → List ℕ
record_values s = split record_layout (number_of (take record_bytes s))

-- the block that these bytes say
unfoldable pub block_at : List ℕ → Block
block_at s = block_from (record_values s)

-- the byte at which record k begins, k counted from 0, and the block that it says
abbrev pub record_start : ℕ → ℕ
record_start k = limits_bytes + record_bytes * k

abbrev pub record_at : List ℕ → ℕ → Block
record_at s k = block_at (drop (record_start k) s)

-- how many records a tape has behind its limits
abbrev pub records_in : List ℕ → ℕ
records_in s = (length s - limits_bytes) / record_bytes

-- n blocks of a tape, from record k on
unfoldable pub blocks_from : List ℕ → (k n : ℕ) → List Block
blocks_from s k zero = []
blocks_from s k (suc n) = record_at s k ∷ blocks_from s (suc k) n

-- the limits and the blocks of a whole tape
abbrev pub tape_limits : List ℕ → Limits
tape_limits s = limits_at s

unfoldable pub tape_blocks : List ℕ → List Block
tape_blocks s = blocks_from s 0 (records_in s)
