-- The plan is the highest lawful profile where one exists, and `CanBrake` says where: from the laws of the two passes.
use mathlib.Core.Logic.{◌⊎◌, inl, inr}
use mathlib.Core.Path.{◌≡◌, ◌∙◌, sym}
use mathlib.Core.List.{List, ◌∷◌, []}
use Prim.Native.Nat.{ℕ, zero, suc, ◌+◌, ◌≤◌, ◌<◌}
use native.Mathlib.Numerals.{add-one}
use native.Mathlib.Omega.{arith}
use native.Mathlib.Decide.{dec_le}
use lib.ListN.{length, drop, replicate}
use lib.Seq.{ext_get_or}
use Rattle.profile.specs.Line.{number_at, Lawful, Highest}
use Rattle.profile.specs.declared.Span.{Span}
use Rattle.profile.specs.Passes.{brake, start_limit, CanBrake, plan_of}
use Rattle.profile.proofs.Brake.{down, brake_drop, brake_cap, start_limit_drop, start_limit_end}
use Rattle.profile.proofs.Plan.{plan_first, plan_next, plan_keeps, plan_length, plan_none}

-- No lawful profile passes the backward pass at a junction after 0.
pub lawful_brake : (committed : ℕ) (line : List Span) (profile : List ℕ) → Lawful committed line profile
    → (k : ℕ) → 0 < k → k ≤ length line → number_at profile k ≤ brake (drop k line)
lawful_brake committed line profile l k p i =
    down (λ j. 0 < j → number_at profile j ≤ brake (drop j line)) (length line)
    (λ r. omega (arith, l.ends))
    (λ j h b r. omega (arith, brake_drop line j h, l.capped j r h, l.falls j h, b (omega arith)))
    k i p

-- A lawful profile exists only where the line can brake.
pub lawful_can_brake : (committed : ℕ) (line : List Span) (profile : List ℕ) → Lawful committed line profile → CanBrake committed line
lawful_can_brake committed [] profile l = omega (arith, l.begins, l.ends)
lawful_can_brake committed (s ∷ line) profile l =
    omega (
      arith,
      l.begins,
      l.falls 0 (omega arith),
      lawful_brake committed (s ∷ line) profile l 1 (omega arith) (omega arith),
      start_limit_drop (s ∷ line) 0 (omega arith),
    )

module _ (committed : ℕ) (line : List Span) (h : CanBrake committed line) where
  -- After junction 0 the plan is at most the backward pass.
  pub plan_brake : (k : ℕ) → 0 < k → k ≤ length line → number_at (plan_of committed line) k ≤ brake (drop k line)
  plan_brake zero p i = omega arith
  plan_brake (suc k) p i = rw (← add-one k) (omega (arith, plan_next committed line h k i))

  -- The plan ends with 0.
  pub plan_ends : number_at (plan_of committed line) (length line) ≡ 0
  plan_ends = omega (arith, plan_keeps committed line h (length line) (omega arith), start_limit_end line)

  -- The plan is lawful.
  pub plan_lawful : Lawful committed line (plan_of committed line)
  plan_lawful = record {
    sized = plan_length committed line;
    begins = plan_first committed line h;
    ends = plan_ends;
    capped = λ k p i. omega (arith, plan_brake k p (omega arith), brake_cap line k i);
    rises = λ k i. omega (arith, plan_next committed line h k i);
    falls = λ k i. omega (arith, plan_next committed line h k i, plan_keeps committed line h k (omega arith), start_limit_drop line k i);
  }

  -- No lawful profile is above it at any junction.
  pub plan_above : (other : List ℕ) → Lawful committed line other → (k : ℕ) → k ≤ length line → number_at other k ≤ number_at (plan_of committed line) k
  plan_above other l zero i = omega (arith, l.begins, plan_first committed line h)
  plan_above other l (suc k) i =
      rw (← add-one k)
      (omega (
        arith,
        plan_above other l k (omega arith),
        l.rises k i,
        lawful_brake committed line other l (k + 1) (omega arith) (omega arith),
        plan_next committed line h k i,
      ))

  -- The plan is the highest lawful profile.
  pub plan_highest : Highest committed line (plan_of committed line)
  plan_highest = record { lawful = plan_lawful; above = plan_above }

-- Two highest lawful profiles are the same list.
pub highest_unique : (committed : ℕ) (line : List Span) (one two : List ℕ) → Highest committed line one → Highest committed line two → one ≡ two
highest_unique committed line one two a b =
    ext_get_or 0 one two (a.lawful.sized ∙ sym b.lawful.sized)
    λ k i.
    let inside : k ≤ length line = omega (arith, a.lawful.sized) in
    omega (arith, a.above two b.lawful k inside, b.above one a.lawful k inside)

-- The plan is the highest lawful profile, or there is no lawful profile and the plan is zeros.
pub highest_or_none : (committed : ℕ) (line : List Span)
    → Highest committed line (plan_of committed line)
    ⊎ (((profile : List ℕ) → ¬ Lawful committed line profile) × (plan_of committed line ≡ replicate (length line + 1) 0))
highest_or_none committed line = elim (dec_le committed (start_limit line)) [
  | yes h ↦ inl (plan_highest committed line h)
  | no h ↦ inr ((λ profile l. h (lawful_can_brake committed line profile l)), plan_none committed line h)
]
