-- What the backward pass leaves in a lent list.
use Rattle.std.specs.Prelude.{◌≡◌, List, ℕ, ◌+◌, length}
use Rattle.profile.specs.Line.{number_at}
use Rattle.profile.specs.declared.Span.{Span}
use Rattle.profile.specs.Passes.{Braked}

-- a list of one number for each junction that holds the backward pass at each but the first
pub record BrakedList (line : List Span) (list : List ℕ) : Type 0 where
  pub sized : length list ≡ length line + 1
  pub braked : Braked line (number_at list) 1
