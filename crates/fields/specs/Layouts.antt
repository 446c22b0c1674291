-- A layout: a list of widths in bits, of fields that stand side by side, the first most significant.
use Rattle.std.specs.Prelude.{ℕ, ◌+◌, ◌*◌, ◌/◌, ◌%◌, ◌^◌, ◌<◌, List, ◌∷◌, []}

-- the width of the whole, in bits
abbrev pub total : List ℕ → ℕ
total [] = 0
total (w ∷ ws) = w + total ws

-- the number made of the values side by side
unfoldable pub joined : List ℕ → List ℕ → ℕ
joined [] vs = 0
joined (w ∷ ws) [] = 0
joined (w ∷ ws) (v ∷ vs) = v * 2 ^ total ws + joined ws vs

-- the values of a number's fields
unfoldable pub split : List ℕ → ℕ → List ℕ
split [] n = []
split (w ∷ ws) n = n / 2 ^ total ws % 2 ^ w ∷ split ws n

-- there are as many values as widths, and each value has no more bits than its width
abbrev pub InWidths : List ℕ → List ℕ → Type 0
InWidths [] [] = Unit
InWidths [] (v ∷ vs) = ⊥
InWidths (w ∷ ws) [] = ⊥
InWidths (w ∷ ws) (v ∷ vs) = (v < 2 ^ w) × InWidths ws vs
