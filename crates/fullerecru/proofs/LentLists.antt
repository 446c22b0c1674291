-- From what filling a lent list with what is made of a tape promises to the promise of such a function for C; two outcomes that meet it are equal.
use mathlib.Core.List.{List, ◌∷◌, []}
use mathlib.Core.Path.{◌≡◌, refl, sym, ap, ◌∙◌}
use Prim.Native.Nat.{ℕ}
use lib.ListN.{length}
use Rattle.display.specs.Display.{Fault}
use Rattle.tapeplan.specs.Planned.{FilledTape, planned_means}
use Rattle.std.specs.Prelude.{⊤, Result}
use Rattle.display.specs.declared.RefusedAt.{RefusedAt}
use Rattle.fullerecru.specs.Plans.{FilledLent, count_size}

-- A count, such as the place of a record, has as many numbers as are lent for it.
pub count_sized : (n : ℕ) → length (n ∷ []) ≡ count_size
count_sized n = refl

-- By the number and the place of its answer.
pub filled_lent : {tape loaded filling list list' place' : List ℕ} {size : ℕ} (r : Result ⊤ RefusedAt) {n : ℕ} → FilledTape tape loaded size filling list list' r
    → n ≡ (planned_means r).number → place' ≡ (planned_means r).place ∷ [] → FilledLent tape loaded size filling n list list' place'
filled_lent r h e p =
    record {
      number_is = e ∙ ap (λ (f : Fault). f.number) h.fault;
      place_is = p ∙ ap (λ (f : Fault). f.place ∷ []) h.fault;
      list_is = h.list;
    }

-- From the promise alone each result and each lent number can be worked out.
pub filled_one : {tape loaded filling list a b p q : List ℕ} {size n k : ℕ} → FilledLent tape loaded size filling n list a p → FilledLent tape loaded size filling k list b q
    → (n ≡ k) × (a ≡ b) × (p ≡ q)
filled_one x y = (x.number_is ∙ sym y.number_is, x.list_is ∙ sym y.list_is, x.place_is ∙ sym y.place_is)
