-- A lent list of some size that is filled with what is made of a tape: by the answer. From the laws of the numbers on the display.
use mathlib.Core.Path.{◌≡◌, sym, ap, ◌∙◌}
use mathlib.Core.Bool.{Bool, cond}
use mathlib.Core.List.{List}
use Prim.Native.Nat.{ℕ, ◌<◌}
use native.Mathlib.Omega.{arith}
use borrow.Author.Tests.{eq-eqb, ne_eqb}
use lib.Dec.{eqb}
use lib.ListN.{length}
use Rattle.display.specs.Display.{Fault, refusal_number, ◌at◌}
use Rattle.display.specs.declared.Refusal.{Refusal}
use Rattle.display.specs.declared.Refusal.TheVariants as why
use Rattle.display.proofs.Answers.{above_zero, at_zero, refusal_above}
use Rattle.tapeplan.specs.Planned.{FilledTape, sized_fault, whole_fault, whole_refusal}
use Rattle.std.specs.Prelude.{Ok, Err}

-- a fault with the number of a refusal
pub fault_above : (r : Refusal) (place : ℕ) {fault : Fault} → refusal_number r at place ≡ fault → 0 < fault.number
fault_above r place e = omega (arith, refusal_above r, ap (λ (f : Fault). f.number) e)

module _ (s loaded : List ℕ) (size : ℕ) (filling before : List ℕ) where
  by_fault_lem : (r : Refusal) (place : ℕ) → refusal_number r at place ≡ sized_fault s loaded size (length before) → FilledTape s loaded size filling before before (Err record { why = r; place = place })
  by_fault_lem r place e = record { fault = e; list = sym (above_zero filling before (fault_above r place e)) }

  -- refused by the checks of the whole tape
  pub filled_refused : (r : Refusal) (place : ℕ) → refusal_number r at place ≡ whole_fault s loaded → FilledTape s loaded size filling before before (Err record { why = r; place = place })
  filled_refused r place e = by_fault_lem r place (e ∙ sym (above_zero _ (whole_fault s loaded) (fault_above r place e)))

  -- of a tape that passes, the list's size decides
  left_fault : whole_refusal s loaded ≡ 0 → sized_fault s loaded size (length before) ≡ cond (eqb (length before) size) 0 11 at 0
  left_fault z = at_zero _ (whole_fault s loaded) z

  pub filled_unfit : whole_refusal s loaded ≡ 0 → (length before ≡ size → ⊥) → FilledTape s loaded size filling before before (Err record { why = why.List; place = 0 })
  filled_unfit z h = by_fault_lem why.List 0 (sym (left_fault z ∙ ap (λ (t : Bool). cond t 0 11 at 0) (ne_eqb (length before) size h)))

  pub filled_whole : {after : List ℕ} → whole_refusal s loaded ≡ 0 → length before ≡ size → after ≡ filling → FilledTape s loaded size filling before after (Ok tt)
  filled_whole z h e =
      let none : sized_fault s loaded size (length before) ≡ 0 at 0 = left_fault z ∙ ap (λ (t : Bool). cond t 0 11 at 0) (eq-eqb (length before) size h) in
      record { fault = sym none; list = e ∙ sym (at_zero filling before (ap (λ (f : Fault). f.number) none)) }
