-- A list of calls of any length, refused ones included: a ring that holds the fresh line is answered as the line says and holds the line
-- after them. From the laws of one call.
use mathlib.Core.Path.{◌≡◌, refl, ◌∙◌}
use mathlib.Core.List.{List, ◌∷◌, []}
use Prim.Native.Nat.{ℕ, zero, suc}
use native.Mathlib.Omega.{arith}
use lib.ListN.{length}
use Rattle.profile.specs.Passes.{brake}
use Rattle.profile.specs.Stairs.{Stair}
use Rattle.machine.specs.Checks.{limits_refusal}
use Rattle.machine.specs.Line.{spans_of}
use Rattle.machine.specs.declared.Block.{Block}
use Rattle.machine.specs.declared.Machine.{Machine}
use Rattle.line.specs.Blocks.{most_held, Line, Call, add, take, fresh_line, add_refusal, add_after, take_after, line_plan, line_answer, line_after, line_answers, line_after_all}
use Rattle.line.specs.Ring.{Place, Ring, fresh_ring, ring_answer, ring_after, ring_answers, ring_after_all}
use Rattle.line.specs.Holds.{Holds}
use Rattle.line.proofs.Adds.{holds_add}
use Rattle.line.proofs.Takes.{holds_take}

-- A fresh ring holds the fresh line, whatever its places and stairs hold.
pub holds_fresh : (m : Machine) (places : List Place) (stairs : List Stair) → limits_refusal m.limits ≡ 0 → length places ≡ most_held → length stairs ≡ most_held
    → Holds (fresh_ring m places stairs) (fresh_line m)
unfolding spans_of brake
holds_fresh m places stairs e s t = record {
  limited = e;
  machine = refl;
  committed = refl;
  sized = (s, t);
  room = omega arith;
  counted = refl;
  passed = λ k h. absurd (omega arith);
  placed = record { block = λ k h. absurd (omega arith); numbers = λ k h. absurd (omega arith); junction = λ k p h. absurd (omega arith) };
  climbed = λ h. absurd (omega arith);
  brakes = omega arith;
  entered = λ h. omega arith;
}

-- One call of either kind.
pub holds_call : {r : Ring} {line : Line} (c : Call) → Holds r line → (ring_answer r c ≡ line_answer line c) × Holds (ring_after r c) (line_after line c)
holds_call (add b) h = holds_add b h
holds_call take h = holds_take h

-- A list of calls is answered as the line says, and the ring holds the line after them.
pub holds_calls : {r : Ring} {line : Line} (calls : List Call) → Holds r line
    → (ring_answers r calls ≡ line_answers line calls) × Holds (ring_after_all r calls) (line_after_all line calls)
unfolding ring_answers line_answers ring_after_all line_after_all
holds_calls {r = r} {line = line} [] h = (refl, h)
holds_calls {r = r} {line = line} (c ∷ calls) h =
    let one = holds_call c h in
    let more = holds_calls {r = ring_after r c} {line = line_after line c} calls one.1 in
    ((λ i. one.0 i ∷ more.0 i), more.1)

-- A call leaves the machine as it is,
machine_call : (line : Line) (c : Call) → (line_after line c).machine ≡ line.machine
unfolding line_after
machine_call line (add b) = go (add_refusal (length line.blocks) b)
  where
    go : (n : ℕ) → (add_after n line b).machine ≡ line.machine
    go zero = refl
    go (suc n) = refl
machine_call line take = go line.blocks (line_plan line)
  where
    go : (blocks : List Block) (plan : List ℕ) → (take_after line.machine line.committed blocks plan).machine ≡ line.machine
    go [] plan = refl
    go (b ∷ rest) plan = refl

-- and so do all.
pub machine_after : (line : Line) (calls : List Call) → (line_after_all line calls).machine ≡ line.machine
unfolding line_after_all
machine_after line [] = refl
machine_after line (c ∷ calls) = machine_after (line_after line c) calls ∙ machine_call line c
