-- What an answer of `read` says, by its two forms. From the definitions.
use Rattle.std.proofs.Common.{◌≡◌, ℕ, ◌≤◌, ◌<◌, Bool, true, false, cond, refl, arith}
use borrow.Author.Tests.{eqb-false}
use lib.Dec.{eqb}
use Rattle.std.specs.Prelude.{Option, Some, None, Result, Ok, Err, IfOk}
use Rattle.std.specs.declared.io.Error.{Error}
use Rattle.streams.specs.Input.{next_of}

-- bytes more are at least one, and no more than there was room for
pub more_within : (room n : ℕ) (answer : Result ℕ Error) → IfOk answer (λ k. k ≤ room) → next_of answer ≡ Ok (Some n) → (0 < n) × (n ≤ room)
more_within room n (Ok k) h e = by (eqb k 0) refl e
  where
    by : (t : Bool) → eqb k 0 ≡ t → ◌≡◌ {A = Result (Option ℕ) Error} (Ok (cond t None (Some k))) (Ok (Some n)) → (0 < n) × (n ≤ room)
    by true f g = cc
    by false f g =
        let s : k ≡ n = cc in
        let some : k ≡ 0 → ⊥ = eqb-false k 0 f in
        (omega arith, omega arith)
more_within room n (Err why) h e = cc
