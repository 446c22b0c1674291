-- A block in lists that C lends: its moves in one, other numbers in the other.
use Rattle.std.specs.Prelude.{List, ◌∷◌, [], ◌≡◌, ℕ, ℤ}
use Rattle.machine.specs.declared.Block.{Block}

-- the moves of a block, µm
abbrev pub block_moves : Block → List ℤ
block_moves b = b.x ∷ b.y ∷ b.z ∷ []

-- the numbers of a block beside its moves
abbrev pub block_numbers : Block → List ℕ
block_numbers b = b.feed ∷ b.radius ∷ b.mark ∷ []

-- the moves of a block in one list, these numbers in the other
pub record Stored (b : Block) (these : List ℕ) (moves : List ℤ) (numbers : List ℕ) : Type 0 where
  pub moves_are : moves ≡ block_moves b
  pub numbers_are : numbers ≡ these
