-- The number told and the plan shown by a ring that holds a line: the line's number of blocks and its highest lawful profile.
-- From profile's laws of the plan.
use mathlib.Core.Path.{◌≡◌, refl, ap, sym, ◌∙◌}
use mathlib.Core.List.{List}
use Prim.Native.Nat.{ℕ, zero, suc, ◌+◌, ◌<◌}
use native.Mathlib.Omega.{arith}
use lib.ListN.{length}
use lib.Seq.{ext_get_or}
use Rattle.profile.specs.Line.{no_span, span_at, cap_at, reach_at}
use Rattle.profile.specs.declared.Span.{Span}
use Rattle.profile.specs.Passes.{forward}
use Rattle.profile.proofs.Plan.{plan_forward}
use Rattle.profile.proofs.Highest.{plan_highest}
use Rattle.machine.specs.Line.{spans_of}
use Rattle.line.specs.Blocks.{Line, line_plan}
use Rattle.line.specs.Ring.{Ring, place_at, told_of, cap_in, spans_in, shown_in}
use Rattle.line.specs.Holds.{Holds}
use Rattle.line.specs.Demand.{PlanHighest}
use Rattle.machine.proofs.Spans.{spans_length, spans_first}
use Rattle.line.proofs.Places.{placed_reach}

-- The spans that are read from the places: as many as asked for,
pub spans_in_length : (r : Ring) (n k : ℕ) → length (spans_in r n k) ≡ n
unfolding spans_in
spans_in_length r zero k = refl
spans_in_length r (suc n) k = ap suc (spans_in_length r n (suc k))

-- each with the numbers of its place.
spans_in_lem : (r : Ring) (n k i : ℕ) → i < n → span_at (spans_in r n k) i ≡ record { cap = cap_in r (k + i); reach = (place_at r (k + i)).reach }
unfolding spans_in
spans_in_lem r zero k i h = absurd (omega arith)
spans_in_lem r (suc n) k zero h = let here : k ≡ k + 0 = omega arith in λ j. record { cap = cap_in r (here j); reach = (place_at r (here j)).reach }
spans_in_lem r (suc n) k (suc i) h =
    let next : suc k + i ≡ k + suc i = omega arith in
    spans_in_lem r n (suc k) i (omega arith) ∙ λ j. record { cap = cap_in r (next j); reach = (place_at r (next j)).reach }

span_in : (r : Ring) (n i : ℕ) → i < n → span_at (spans_in r n 0) i ≡ record { cap = cap_in r i; reach = (place_at r i).reach }
span_in r n i h = let here : 0 + i ≡ i = omega arith in spans_in_lem r n 0 i h ∙ λ j. record { cap = cap_in r (here j); reach = (place_at r (here j)).reach }

pub reach_in : (r : Ring) (n i : ℕ) → i < n → reach_at (spans_in r n 0) i ≡ (place_at r i).reach
reach_in r n i h = ap (λ (s : Span). s.reach) (span_in r n i h)

pub cap_in_lem : (r : Ring) (n i : ℕ) → 0 < i → i < n → cap_at (spans_in r n 0) i ≡ (place_at r i).junction
cap_in_lem r n zero p h = absurd (omega arith)
cap_in_lem r n (suc i) p h = ap (λ (s : Span). s.cap) (span_in r n (suc i) h)

module _ {r : Ring} {line : Line} (h : Holds r line) where
  abbrev spans : List Span
  spans = spans_of line.machine line.blocks

  -- The number told is the line's number of blocks.
  pub holds_told : told_of r ≡ length line.blocks
  holds_told = omega (arith, h.counted, h.room)

  -- The spans of its places are the line's,
  holds_span : (i : ℕ) → i < length line.blocks → record { cap = cap_in r i; reach = (place_at r i).reach } ≡ span_at spans i
  holds_span zero g = λ j. record { cap = sym (spans_first line.machine line.blocks) j; reach = placed_reach h.placed 0 g j }
  holds_span (suc i) g = λ j. record { cap = h.placed.junction (suc i) (omega arith) g j; reach = placed_reach h.placed (suc i) g j }

  holds_spans : spans_in r (told_of r) 0 ≡ spans
  holds_spans =
      let size : length spans ≡ length line.blocks = spans_length line.machine line.blocks in
      let all : length (spans_in r (told_of r) 0) ≡ told_of r = spans_in_length r (told_of r) 0 in
      ext_get_or no_span (spans_in r (told_of r) 0) spans (omega (arith, holds_told))
      λ i g. span_in r (told_of r) i (omega arith) ∙ holds_span i (omega (arith, holds_told))

  -- and so is the plan shown,
  pub holds_shown : shown_in r ≡ line_plan line
  holds_shown = (λ i. forward (h.committed i) (holds_spans i)) ∙ sym (plan_forward line.committed spans h.brakes)

  -- its highest lawful profile.
  pub holds_highest : PlanHighest line
  holds_highest = plan_highest line.committed spans h.brakes
