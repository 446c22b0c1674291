-- The two ways in which a block is made: from its fields, and from the numbers that a place or a record keeps of it; and how many numbers its
-- fields are in lists.
use Rattle.std.specs.Prelude.{ℕ, ℤ, pos}
use Rattle.machine.specs.declared.Block.{Block}

-- moves of a block: X, Y, Z
abbrev pub moves_size : ℕ
moves_size = 3

-- numbers of a block beside its moves: feed, radius, mark
abbrev pub fields_size : ℕ
fields_size = 3

-- a block by its moves, µm, feed, µm/s, radius, µm, and mark
abbrev pub plain_block : (x y z : ℤ) (feed radius mark : ℕ) → Block
plain_block x y z feed radius mark = record { x = x; y = y; z = z; feed = feed; radius = radius; mark = mark }

-- the block with a label, 21 bits: its mark
unfoldable pub labelled_block : (x y z : ℤ) (feed radius label : ℕ) → Block
labelled_block x y z feed radius label = plain_block x y z feed radius label

unfoldable pub label_of : Block → ℕ
label_of b = b.mark

-- what stands for a block where there is none
abbrev pub no_block : Block
no_block = plain_block (pos 0) (pos 0) (pos 0) 0 0 0
