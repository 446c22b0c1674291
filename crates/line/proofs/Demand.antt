-- Demand 3 has one outcome: two that meet it for the same calls and the same length of a lent list are equal. And
-- every block that is given out with a radius keeps the tolerance of its curve.
use mathlib.Core.Bool.{Bool, true, false}
use mathlib.Core.List.{List}
use mathlib.Core.Path.{◌≡◌, refl, sym, ◌∙◌}
use Prim.Native.Nat.{ℕ, ◌+◌, ◌<◌}
use borrow.Author.Tests.{eqb-true, eqb-false}
use lib.Dec.{eqb}
use lib.ListN.{length}
use Rattle.machine.specs.Meaning.{ChordWithin}
use Rattle.machine.specs.declared.Machine.{Machine}
use Rattle.machine.proofs.CapLaws.{chord_kept}
use Rattle.line.specs.declared.Given.{Given}
use Rattle.line.specs.Answers.{Answer}
use Rattle.line.specs.Blocks.{Line, Call}
use Rattle.line.specs.Demand.{GivenFrom, ShownOf, Demand3}

shown_one : {line : Line} {lent left left' : List ℕ} {s s' : Answer} → ShownOf line lent s left → ShownOf line lent s' left' → (s ≡ s') × (left ≡ left')
shown_one {line} {lent} {left} {left'} {s} {s'} p q = by (eqb (length lent) (length line.blocks + 1)) refl
  where
    by : (t : Bool) → eqb (length lent) (length line.blocks + 1) ≡ t → (s ≡ s') × (left ≡ left')
    by true e = let f = eqb-true _ _ e in ((p.fits f).0 ∙ sym (q.fits f).0, (p.fits f).1 ∙ sym (q.fits f).1)
    by false e = let f = eqb-false _ _ e in ((p.other f).0 ∙ sym (q.other f).0, (p.other f).1 ∙ sym (q.other f).1)

-- so no planner that answers, tells or shows anything else meets it
pub demand_one : {m : Machine} {calls : List Call} {answers answers' : List Answer} {told told' : ℕ} {lent left left' : List ℕ} {said said' : Answer}
    → Demand3 m calls answers told lent said left → Demand3 m calls answers' told' lent said' left'
    → (answers ≡ answers') × (told ≡ told') × (said ≡ said') × (left ≡ left')
demand_one p q =
    let shown = shown_one p.plan q.plan in
    (p.answered ∙ sym q.answered, p.number ∙ sym q.number, shown.0, shown.1)

-- a block given out with a radius: also at its peak the middle of a tick's chord lies within e of the circle
pub given_chord : (line : Line) (g : Given) → GivenFrom line g → 0 < line.machine.limits.tick → 0 < g.block.radius
    → ChordWithin line.machine.limits g.block.radius g.ramp.peak
given_chord line g from h curved = chord_kept line.machine.limits g.block g.ramp.peak h curved from.capped.2
