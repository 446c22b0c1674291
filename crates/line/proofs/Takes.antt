-- A take: a ring that holds a line answers as the line does and holds the rest afterwards. From profile's laws of the plan and
-- those of spans, places and stairs.
use mathlib.Core.Path.{◌≡◌, refl, ap, subst, ◌∙◌}
use mathlib.Core.List.{List, ◌∷◌, []}
use Prim.Native.Nat.{ℕ, zero, suc, ◌-◌, ◌<◌}
use native.Mathlib.Omega.{arith}
use lib.ListN.{length, drop, get_or}
use Rattle.profile.specs.Line.{cap_at, reach_at, total_reach, number_at}
use Rattle.profile.specs.declared.Span.{Span}
use Rattle.profile.specs.Passes.{brake, exit_from, plan_of}
use Rattle.profile.specs.Stairs.{nearer, stairs_after}
use Rattle.profile.proofs.Stairs.{after_some, stairs_taken}
use Rattle.profile.proofs.Plan.{plan_first, plan_exit, take_keeps}
use Rattle.profile.proofs.Highest.{plan_lawful, plan_highest}
use Rattle.machine.specs.Labels.{no_block}
use Rattle.machine.specs.Checks.{block_refusal}
use Rattle.machine.specs.Line.{spans_of, spans_after}
use Rattle.machine.specs.Meaning.{RampIs}
use Rattle.machine.specs.Numbers.{numbers_of, junction_cap, reach_from, reach_of, peak_of, ramp_of, Rampable}
use Rattle.machine.specs.declared.Block.{Block}
use Rattle.machine.specs.declared.Machine.{Machine}
use Rattle.machine.proofs.Reaches.{reach_above}
use Rattle.machine.proofs.Rampables.{rampable_holds}
use Rattle.machine.proofs.RampLaws.{numbers_rampable, ramp_is}
use Rattle.line.specs.declared.Given.{Given}
use Rattle.line.specs.Answers.{gave, given_of, given_between, answer_by}
use Rattle.line.specs.Blocks.{most_held, Line, Call, add, take, add_refusal, take_answer, take_after, line_answer, line_after}
use Rattle.line.specs.Ring.{Place, Ring, no_place, place_at, block_in, numbers_in, start_in, exit_in, given_in, lowered, taken_from, taken_answer, taken_in, ring_answer, ring_after}
use Rattle.line.specs.Holds.{block_at, Placed, Climbed, Holds}
use Rattle.line.specs.Demand.{GivenFrom}
use Rattle.machine.proofs.Spans.{spans_length, spans_reach}
use Rattle.line.proofs.Spans.{rest_cap, rest_brakes, rest_under, rest_entered}
use Rattle.line.proofs.Places.{placed_reach}
use Rattle.line.proofs.Climbs.{lowered_sized, start_brakes, lowered_climbed}

-- the reach among a block's numbers is that of its acceleration and length
reach_own : (m : Machine) (a : Block) → (numbers_of m a).reach ≡ reach_from (numbers_of m a).accel (numbers_of m a).length
unfolding numbers_of
reach_own m a = refl

-- a line by its parts
abbrev line_of : Machine → (committed : ℕ) → List Block → Line
line_of m committed blocks = record { machine = m; committed = committed; blocks = blocks }

-- a ring that holds a line with a first block
module _ {r : Ring} {m : Machine} {committed : ℕ} {a : Block} {rest : List Block} (h : Holds r (line_of m committed (a ∷ rest))) where
  abbrev spans : List Span
  spans = spans_of m (a ∷ rest)

  abbrev exit : ℕ
  exit = number_at (plan_of committed spans) 1

  -- there is a first span
  some : 0 < length spans
  some = omega (arith, spans_length m (a ∷ rest))

  -- the exit by the backward pass after the block
  exit_is : exit ≡ exit_from committed (reach_at spans 0) (brake (drop 1 spans))
  exit_is = plan_exit committed spans h.brakes some

  -- the stairs that the ring has
  stairs_right : Climbed r spans
  stairs_right = h.climbed (omega arith)

  reach_first : (place_at r 0).reach ≡ reach_at spans 0
  reach_first = placed_reach h.placed 0 (omega arith)

  -- the backward pass after the first block by them
  start_right : start_in r - (place_at r 0).reach ≡ brake (drop 1 spans)
  unfolding spans_of
  start_right = ap (λ (n : ℕ). start_in r - n) reach_first ∙ start_brakes r (record { cap = 0; reach = reach_of m a }) (spans_after m a rest) stairs_right

  -- what the ring has for the exit
  exit_right : exit_in r ≡ exit
  exit_right = omega (arith, h.committed, reach_first, start_right, exit_is)

  -- the plan's first two numbers are within the block's cap and reach,
  ramped : Rampable (numbers_of m a) committed exit
  ramped =
      let lawful = plan_lawful committed spans h.brakes in
      numbers_rampable m a committed exit (h.passed 0 (omega arith)) (h.entered (omega arith))
      (omega (arith, exit_is, rest_under m a rest))
      (omega (arith, lawful.falls 0 some, lawful.begins, spans_reach no_block m (a ∷ rest) 0 (omega arith)))
      (omega (arith, lawful.rises 0 some, lawful.begins, spans_reach no_block m (a ∷ rest) 0 (omega arith)))

  -- so the block is given out as the line says
  given_right : given_in r ≡ given_of m a (number_at (plan_of committed spans) 0) exit
  unfolding given_in given_of given_between
  given_right =
      (λ i. given_between (h.placed.block 0 (omega arith) i) (h.placed.numbers 0 (omega arith) i) (h.committed i) (exit_right i))
      ∙ rw (plan_first committed spans h.brakes, rampable_holds (numbers_of m a) committed exit ramped)

  -- with the ramp between the plan's first two speeds,
  ramp_right : RampIs (numbers_of m a) (number_at (plan_of committed spans) 0) exit (ramp_of (numbers_of m a) (number_at (plan_of committed spans) 0) exit)
  ramp_right = rw (plan_first committed spans h.brakes) (ramp_is (numbers_of m a) committed exit ramped (reach_own m a))

  -- which are the line's and within the block's cap
  given_from : GivenFrom (line_of m committed (a ∷ rest)) (given_of m a (number_at (plan_of committed spans) 0) exit)
  unfolding given_of numbers_of ramp_of peak_of
  given_from = record {
    highest = plan_highest committed spans h.brakes;
    entry = refl;
    exit = refl;
    capped = (omega (arith, plan_first committed spans h.brakes, ramped.entry_capped), ramped.exit_capped, omega arith);
    ramp = ramp_right;
    fills = ramp_right.fills;
  }

  -- block k of the rest was block k + 1
  shifted : (k : ℕ) → place_at (taken_from r) k ≡ place_at r (suc k)
  unfolding taken_from
  shifted k = ap (λ (s : ℕ). get_or r.places s no_place) (omega arith)

  -- the places after the first are the blocks of the rest,
  taken_placed : Placed (taken_from r) m rest
  taken_placed = record {
    block = λ k g. ap block_in (shifted k) ∙ h.placed.block (suc k) (omega arith);
    numbers = λ k g. ap numbers_in (shifted k) ∙ h.placed.numbers (suc k) (omega arith);
    junction = junction;
  }
    where
      junction : (k : ℕ) → 0 < k → k < length rest → (place_at (taken_from r) k).junction ≡ cap_at (spans_of m rest) k
      junction zero p g = absurd (omega arith)
      junction (suc k) p g =
          ap (λ (p : Place). p.junction) (shifted (suc k)) ∙ h.placed.junction (suc (suc k)) (omega arith) (omega arith) ∙ rest_cap m a rest k

  -- with the stairs of the rest, where it has blocks,
  lowered_stairs : 0 < length rest → Climbed (lowered r (place_at r 0).reach) (spans_of m rest)
  unfolding spans_of spans_after stairs_after total_reach
  lowered_stairs g = go rest g (omega (arith, h.room)) (h.passed 1 (omega arith)) reach_first stairs_right
    where
      go : (bs : List Block) → 0 < length bs → length bs < most_held → block_refusal (block_at bs 0) ≡ 0 → (place_at r 0).reach ≡ reach_of m a
          → Climbed r (spans_of m (a ∷ bs)) → Climbed (lowered r (place_at r 0).reach) (spans_of m bs)
      go [] g few p e c = absurd (omega arith)
      go (b ∷ bs) g few p e c =
          lowered_climbed r h.sized.1 (spans_of m (a ∷ b ∷ bs)) (spans_of m (b ∷ bs)) (omega (arith, spans_length m (a ∷ b ∷ bs))) c (place_at r 0).reach
          (ap (λ (n : ℕ). nearer n (stairs_after (spans_of m (a ∷ b ∷ bs)))) e
          ∙ stairs_taken (record { cap = 0; reach = reach_of m a }) (record { cap = junction_cap m.limits a b; reach = reach_of m b }) (spans_after m b bs) (reach_above m b p))
          (omega arith)
          (after_some (spans_of m (b ∷ bs)) (omega arith))

  taken_stairs : 0 < length rest → Climbed (taken_from r) (spans_of m rest)
  unfolding taken_from
  taken_stairs g = let c = lowered_stairs g in record { counted = c.counted; stair = c.stair; total = c.total }

  -- so the ring holds the rest
  taken_holds : Holds (taken_from r) (line_of m exit rest)
  unfolding taken_from
  taken_holds = record {
    limited = h.limited;
    machine = h.machine;
    committed = exit_right;
    sized = (h.sized.0, lowered_sized r (place_at r 0).reach ∙ h.sized.1);
    room = omega (arith, h.room);
    counted = omega (arith, h.counted);
    passed = λ k g. h.passed (suc k) (omega arith);
    placed = taken_placed;
    climbed = taken_stairs;
    brakes = rest_brakes m a exit rest (take_keeps committed spans);
    entered = λ g. omega (arith, exit_is, rest_entered m a rest);
  }

-- A take is answered as the line says, and the ring holds the line afterwards.
pub holds_take : {r : Ring} {line : Line} → Holds r line
    → (ring_answer r take ≡ line_answer line take) × Holds (ring_after r take) (line_after line take)
unfolding ring_answer line_answer ring_after line_after
holds_take {r} {line} = go line.machine line.committed line.blocks r.count refl
  where
    go : (m : Machine) (c : ℕ) (blocks : List Block) (count : ℕ) → r.count ≡ count → Holds r (line_of m c blocks)
        → (taken_answer count r ≡ take_answer m blocks (plan_of c (spans_of m blocks))) × Holds (taken_in count r) (take_after m c blocks (plan_of c (spans_of m blocks)))
    go m c [] zero e h = (refl, h)
    go m c [] (suc n) e h = absurd (omega (arith, h.counted))
    go m c (a ∷ rest) zero e h = absurd (omega (arith, h.counted))
    go m c (a ∷ rest) (suc n) e h = (ap gave (given_right h), taken_holds h)

-- A block that is given out has its speeds from the line's highest lawful profile, and a ramp as long as itself.
pub holds_given : {r : Ring} {line : Line} → Holds r line → (c : Call) (g : Given) → line_answer line c ≡ gave g → GivenFrom line g
unfolding line_answer
holds_given {r} {line} h (add b) g e = absurd (go (add_refusal (length line.blocks) b) e)
  where
    go : (n : ℕ) → answer_by n ≡ gave g → ⊥
    go zero e = let z : ◌≡◌ {A = ℕ} 0 1 = cc in omega arith
    go (suc n) e = let z : ◌≡◌ {A = ℕ} 0 1 = cc in omega arith
holds_given {r} {line} h take g e = go line.machine line.committed line.blocks h e
  where
    go : (m : Machine) (c : ℕ) (blocks : List Block) → Holds r (line_of m c blocks) → take_answer m blocks (plan_of c (spans_of m blocks)) ≡ gave g → GivenFrom (line_of m c blocks) g
    go m c [] h e = absurd (let z : ◌≡◌ {A = ℕ} 0 1 = cc in omega arith)
    go m c (a ∷ rest) h e = subst (λ (x : Given). GivenFrom (line_of m c (a ∷ rest)) x) (let s : _ ≡ g = cc in s) (given_from h)
