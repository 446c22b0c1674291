-- Which text any bytes get by the answer of planning them. From the laws of a tape's faults.
use mathlib.Core.Path.{◌≡◌, sym, ◌∙◌}
use mathlib.Core.List.{List}
use Prim.Native.Nat.{ℕ}
use Rattle.display.specs.Display.{refusal_number, ◌at◌, by_number}
use Rattle.display.proofs.Answers.{refusal_above, at_zero, above_zero}
use Rattle.display.specs.declared.Refusal.{Refusal}
use Rattle.text.specs.Text.{refused_at}
use Rattle.tapeplan.specs.Planned.{whole_fault, whole_place, whole_refusal}
use Rattle.listing.specs.Listing.{accepted_text, listing_of}

module _ (s loaded : List ℕ) where
  -- of a tape without a fault, and of one with a fault
  pub listing_accepted : whole_refusal s loaded ≡ 0 → listing_of s loaded ≡ accepted_text s loaded
  unfolding listing_of
  listing_accepted e = at_zero (accepted_text s loaded) (refused_at (whole_refusal s loaded) (whole_place s loaded)) e

  pub listing_refused : (why : Refusal) (place : ℕ) → refusal_number why at place ≡ whole_fault s loaded → listing_of s loaded ≡ refused_at (refusal_number why) place
  unfolding listing_of
  listing_refused why place e =
      (λ i. by_number (sym e i).number (accepted_text s loaded) (refused_at (sym e i).number (sym e i).place))
      ∙ above_zero (accepted_text s loaded) (refused_at (refusal_number why) place) (refusal_above why)
