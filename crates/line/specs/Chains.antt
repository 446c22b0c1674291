-- Calls one after the other, of whatever has a state: each on the state that the one before it left.
use Rattle.std.specs.Prelude.{List, ◌∷◌, []}

-- `Step s c a s'` says that call c on state s is answered by a and leaves state s'; a chain is a list of calls with their answers
pub data Chain {S C A : Type 0} (Step : S → C → A → S → Type 0) : (state : S) (calls : List C) (answers : List A) (state' : S) → Type 0 where
  none : {s : S} → Chain Step s [] [] s
  next : {s s' s'' : S} {c : C} {a : A} {calls : List C} {answers : List A} → Step s c a s' → Chain Step s' calls answers s''
      → Chain Step s (c ∷ calls) (a ∷ answers) s''
