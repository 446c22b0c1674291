-- What the two passes read of block k of n blocks held, whose place begins at `at`, is what its span has. From the laws of the view and of the ring's spans.
use Rattle.std.proofs.Common.{◌≡◌, ℕ, ◌<◌, List, sym, ap, ◌∙◌}
use Rattle.profile.specs.Line.{cap_at, reach_at}
use Rattle.line.specs.Ring.{Place, place_at, slot, spans_in}
use Rattle.line.proofs.Shows.{reach_in, cap_in_lem}
use Rattle.planner.specs.View.{base_of, place_from, view_of}
use Rattle.planner.proofs.View.{ring_place}

module _ (m : List ℕ) (n k at : ℕ) (here : at ≡ base_of (slot (view_of m) k)) (h : k < n) where
  place_is : place_at (view_of m) k ≡ place_from m at
  place_is = ring_place m k ∙ ap (place_from m) (sym here)

  -- its reach,
  pub span_reach : reach_at (spans_in (view_of m) n 0) k ≡ (place_from m at).reach
  span_reach = reach_in (view_of m) n k h ∙ ap (λ (p : Place). p.reach) place_is

  -- and the cap of the junction where it begins, junction 0 apart.
  pub span_cap : 0 < k → cap_at (spans_in (view_of m) n 0) k ≡ (place_from m at).junction
  span_cap q = cap_in_lem (view_of m) n k q h ∙ ap (λ (p : Place). p.junction) place_is
