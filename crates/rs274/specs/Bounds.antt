-- How large the numbers of a line and the positions of a text are, so that every sum and product is exact.
use Rattle.std.specs.Prelude.{ℕ, ◌≤◌, ◌<◌, pos, nat_abs, get_or}
use Rattle.words.specs.Number.{most_number}
use Rattle.words.specs.Words.{Words}
use Rattle.rs274.specs.declared.Modal.{Modal}

-- every number of a line is one of those
abbrev pub WordsWithin : Words → Type 0
WordsWithin w = (k : ℕ) → nat_abs (get_or w.values k (pos 0)) ≤ most_number

-- the positions, hundredths of a µm, are below a number either way
pub record Within (most : ℕ) (m : Modal) : Type 0 where
  pub x : nat_abs m.x < most
  pub y : nat_abs m.y < most
  pub z : nat_abs m.z < most
