-- Numbers kept for the junctions of a line, for any store that reads them by an index: how they come to be the backward
-- pass's (`Braked`) and the forward pass's (`Forwarded`). From the laws of the passes.
use mathlib.Core.Path.{◌≡◌, ◌∙◌, sym}
use mathlib.Core.List.{List}
use Prim.Native.Nat.{ℕ, ◌+◌, ◌≤◌, ◌<◌}
use native.Mathlib.Omega.{arith}
use native.Mathlib.Decide.{dec_le}
use lib.ListN.{length, drop}
use lib.Seq.{ext_get_or}
use Rattle.profile.specs.Line.{cap_at, reach_at, number_at}
use Rattle.profile.specs.declared.Span.{Span}
use Rattle.profile.specs.Passes.{brake, brake_from, exit_from, forward, Braked, Forwarded}
use Rattle.profile.proofs.Brake.{brake_drop, brake_end}
use Rattle.profile.proofs.Plan.{forward_first, forward_next, forward_length}

module _ (line : List Span) (kept : ℕ → ℕ) where
  -- The backward pass begins with 0 at the line's end.
  pub braked_end : kept (length line) ≡ 0 → Braked line kept (length line)
  braked_end e i p q =
      let at-end : i ≡ length line = omega arith in
      rw at-end (omega (arith, brake_end line (length line) (omega arith)))

  -- A store at the junction before, right by its neighbour, takes it one junction further.
  pub braked_store : (k : ℕ) (new : ℕ → ℕ) → k < length line → new k ≡ brake_from (cap_at line k) (reach_at line k) (kept (k + 1))
      → ((i : ℕ) → k < i → i ≤ length line → new i ≡ kept i) → Braked line kept (k + 1) → Braked line new k
  braked_store k new h e same b i p q = elim (dec_le (k + 1) i) [
    | yes r ↦ same i (omega arith) q ∙ b i r q
    | no r ↦
        let here : i ≡ k = omega arith in
        rw here (omega (arith, e, brake_drop line k h, b (k + 1) (omega arith) (omega arith)))
  ]

module _ (committed : ℕ) (line : List Span) (kept : ℕ → ℕ) where
  -- The forward pass begins with the committed squared speed at junction 0.
  pub forwarded_first : kept 0 ≡ committed → Forwarded committed line kept 0
  forwarded_first e i p =
      let here : i ≡ 0 = omega arith in
      rw here (e ∙ sym (forward_first committed line))

  -- A store at the next junction, under the backward pass there, takes it one junction further.
  pub forwarded_store : (k : ℕ) (new : ℕ → ℕ) → k < length line → new (k + 1) ≡ exit_from (kept k) (reach_at line k) (brake (drop (k + 1) line))
      → ((i : ℕ) → i ≤ k → new i ≡ kept i) → Forwarded committed line kept k → Forwarded committed line new (k + 1)
  forwarded_store k new i e same a j p = elim (dec_le j k) [
    | yes r ↦ same j r ∙ a j r
    | no r ↦
        let here : j ≡ k + 1 = omega arith in
        rw here (omega (arith, e, forward_next committed line k i, a k (omega arith)))
  ]

-- At the end a list of n + 1 numbers is the forward pass: the plan, where the line can brake.
pub forwarded_all : (committed : ℕ) (line : List Span) (list : List ℕ) → length list ≡ length line + 1 → Forwarded committed line (number_at list) (length line) → list ≡ forward committed line
forwarded_all committed line list e a = ext_get_or 0 list (forward committed line) (e ∙ sym (forward_length committed line)) (λ i p. a i (omega arith))
