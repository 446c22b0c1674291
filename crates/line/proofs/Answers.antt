-- An answer by its number. From the definitions.
use mathlib.Core.Path.{◌≡◌, refl, sym}
use Prim.Native.Nat.{ℕ, zero, suc, ◌<◌}
use native.Mathlib.Omega.{arith}
use Rattle.display.specs.Display.{refusal_number}
use Rattle.display.proofs.Answers.{refusal_above}
use Rattle.display.specs.declared.Refusal.{Refusal}
use Rattle.line.specs.Answers.{refused, answer_by, answer_number, done_means}
use Rattle.std.specs.Prelude.{⊤, Result, Ok, Err}

-- A number above 0 refuses.
pub refused_by : (n : ℕ) → 0 < n → answer_by n ≡ refused n
refused_by zero h = absurd (omega arith)
refused_by (suc n) h = refl

-- The answer of a call that gives out no block is that of its number.
pub add_back : (r : Result ⊤ Refusal) → done_means r ≡ answer_by (answer_number (done_means r))
add_back (Ok _) = refl
add_back (Err why) = sym (refused_by (refusal_number why) (refusal_above why))
