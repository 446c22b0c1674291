-- Document 01, "Numbers on the display": the number of each refusal, and how checks in turn come to one answer. What a case of
-- an enum means is given by the definition `..Means` of that enum, here and in every crate above.
use Rattle.std.specs.Prelude.{ℕ, zero, suc, ⊤, Result, Ok, Err}
use Rattle.display.specs.declared.Refusal.{Refusal}
use Rattle.display.specs.declared.Refusal.TheVariants as why
use Rattle.display.specs.declared.RefusedAt.{RefusedAt}

-- the number on the display of each refusal
abbrev pub refusal_number : Refusal → ℕ
refusal_number why.Limits = 1
refusal_number why.Still = 2
refusal_number why.Long = 3
refusal_number why.Feed = 4
refusal_number why.Radius = 5
refusal_number why.Mark = 6
refusal_number why.Full = 7
refusal_number why.Empty = 8
refusal_number why.Ragged = 9
refusal_number why.Many = 10
refusal_number why.List = 11
refusal_number why.Word = 12
refusal_number why.Number = 13
refusal_number why.Steps = 14
refusal_number why.NotFinite = 15
refusal_number why.Beyond = 16

-- a check's answer is a number; 0 says that it passed
abbrev pub checked_means : Result ⊤ Refusal → ℕ
checked_means (Ok _) = 0
checked_means (Err why) = refusal_number why

-- the first of two where the number n on the display is 0, which says that nothing is refused, else the second
abbrev pub by_number : {A : Type 0} → (n : ℕ) → A → A → A
by_number zero a b = a
by_number (suc n) a b = b

-- one check and then another: the first of their numbers that is not 0
infixr 5 ◌then◌
abbrev pub ◌then◌ : ℕ → ℕ → ℕ
a then b = by_number a b a

-- what a call answers: what it gives, or why it refuses
pub data Outcome (Why What : Type 0) : Type 0 where
  given : What → Outcome Why What
  refused : Why → Outcome Why What

-- a value where the number n is 0, else refused by n
abbrev pub or_refused : {A : Type 0} → (n : ℕ) → A → Outcome ℕ A
or_refused n a = by_number n (given a) (refused n)

-- what a function answers, by the number of its refusal
abbrev pub outcome_of : {A : Type 0} → Result A Refusal → Outcome ℕ A
outcome_of (Ok a) = given a
outcome_of (Err why) = refused (refusal_number why)

-- a refusal of a list of things: its number, where 0 says that nothing is refused, and the place from 1 of the one at fault, or 0
pub record Fault : Type 0 where
  pub number : ℕ
  pub place : ℕ

infixl 6 ◌at◌
abbrev pub ◌at◌ : ℕ → ℕ → Fault
n at p = record { number = n; place = p }

-- the first of two faults that has a number
infixr 5 ◌else◌
abbrev pub ◌else◌ : Fault → Fault → Fault
f else g = by_number f.number g f

-- a refusal with its place, by its number
abbrev pub fault_of : RefusedAt → Fault
fault_of r = refusal_number r.why at r.place

-- what a function on a list of things answers, by the number and the place of its refusal
abbrev pub placed_outcome_of : {A : Type 0} → Result A RefusedAt → Outcome Fault A
placed_outcome_of (Ok a) = given a
placed_outcome_of (Err r) = refused (fault_of r)
