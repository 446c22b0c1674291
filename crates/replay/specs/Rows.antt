-- An answer as a row of numbers.
use Rattle.std.specs.Prelude.{ℕ, ◌+◌, List, ◌∷◌, ◌++◌, []}
use Rattle.fields.specs.Signed.{bits_of}
use Rattle.machine.specs.Labels.{moves_size}
use Rattle.line.specs.Answers.{Answer, accepted, gave, refused, given_numbers, given_size, no_given}
use Rattle.line.specs.declared.Given.{Given}
use Rattle.replay.specs.Trace.{word_bits}

-- numbers of a row: the number on the display, and a block given out
abbrev pub row_size : ℕ
row_size = 1 + moves_size + given_size

-- the number on the display, then a block given out: moves X, Y, Z by two's complement of 32 bits, and its other numbers
abbrev pub row_from : (number : ℕ) → Given → List ℕ
row_from number g =
    number
    ∷ bits_of word_bits g.block.x
    ∷ bits_of word_bits g.block.y
    ∷ bits_of word_bits g.block.z
    ∷ given_numbers g

-- where no block is given out, zeros
unfoldable pub row_of : Answer → List ℕ
row_of accepted = row_from 0 no_given
row_of (gave g) = row_from 0 g
row_of (refused n) = row_from n no_given

-- what is written for each of a list of answers, one behind the other
unfoldable pub each_of : {A : Type 0} (written : A → List ℕ) → List A → List ℕ
each_of written [] = []
each_of written (a ∷ answers) = written a ++ each_of written answers

-- their rows
abbrev pub rows_of : List Answer → List ℕ
rows_of = each_of row_of
