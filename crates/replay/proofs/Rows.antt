-- What is written for answers, one behind the other: how much, and of more answers. From the definitions.
use mathlib.Core.List.{List, ◌∷◌, ◌++◌, append_assoc, []}
use mathlib.Core.Path.{◌≡◌, refl, sym, ap, ◌∙◌}
use Prim.Native.Nat.{ℕ}
use lib.ListN.{length}
use Rattle.line.specs.Answers.{Answer, accepted, gave, refused}
use Rattle.replay.specs.Rows.{row_size, row_of, each_of}

-- A row has as many numbers as every other.
pub row_size_lem : (a : Answer) → length (row_of a) ≡ row_size
unfolding row_of
row_size_lem accepted = refl
row_size_lem (gave g) = refl
row_size_lem (refused n) = refl

-- What is written for answers behind answers.
pub each_both : {A : Type 0} (written : A → List ℕ) (first second : List A) → each_of written (first ++ second) ≡ each_of written first ++ each_of written second
unfolding each_of
each_both written [] second = refl
each_both written (a ∷ first) second =
    ap (λ (l : List ℕ). written a ++ l) (each_both written first second) ∙ sym (append_assoc (written a) (each_of written first) (each_of written second))
