-- How answers go by a number on the display. From the definitions.
use mathlib.Core.Path.{◌≡◌, refl, sym, ap, ◌∙◌}
use Prim.Native.Nat.{ℕ, ◌≤◌, ◌<◌}
use mathlib.Core.List.{List}
use borrow.Author.Tests.{lt-ltb, le-ltb}
use lib.ListN.{length}
use Rattle.display.proofs.Answers.{refusal_above, at_zero, above_zero, gives, refuses}
use Rattle.display.specs.Display.{refusal_number, checked_means, by_number, given, refused, Fault, ◌at◌}
use Rattle.tape.specs.Answers.{ragged_below, Wrote, by_fault}
use Rattle.display.specs.declared.Refusal.{Refusal}
use Rattle.std.specs.Prelude.{Result, Ok, ⊤}
use Rattle.tape.specs.Tape.{records_in}

-- Enough bytes lent, or too few.
pub enough : (n : ℕ) (s : List ℕ) → n ≤ length s → ragged_below n s ≡ 0
enough n s h = rw (le-ltb (length s) n h)

pub too_few : (n : ℕ) (s : List ℕ) → length s < n → ragged_below n s ≡ 9
too_few n s h = rw (lt-ltb (length s) n h)

-- A whole tape is answered its fault, or the number of its blocks where it has none.
pub faulty : (s : List ℕ) (r : Refusal) (p : ℕ) {f : Fault} → f ≡ refusal_number r at p → refused (refusal_number r at p) ≡ by_fault f s
faulty s r p {f} e = let h : 0 < f.number = rw e (refusal_above r) in refuses (records_in s) f h (sym e)

pub faultless : (s : List ℕ) {f : Fault} → f ≡ 0 at 0 → given (records_in s) ≡ by_fault f s
faultless s {f} e = gives (records_in s) f (ap (λ (g : Fault). g.number) e) refl

-- What a writer leaves.
module _ (new old : List ℕ) {n : ℕ} where
  pub wrote_none : (r : Result ⊤ Refusal) → 0 < checked_means r → checked_means r ≡ n → Wrote n (by_number n new old) r old
  wrote_none r h e = record { number = e; bytes = sym (above_zero new old (rw e at h)) }

  pub wrote_all : {left : List ℕ} → n ≡ 0 → left ≡ new → Wrote n (by_number n new old) (Ok tt) left
  wrote_all e f = record { number = sym e; bytes = f ∙ sym (at_zero new old e) }
