-- An accepted tape and its plan: two neighbours of the plan are within the cap and the reach of the block between them, so that a ramp exists. From the
-- laws of lawful profiles, of spans, of ramps and of a tape's faults.
use mathlib.Core.Path.{◌≡◌, ap, ◌∙◌}
use mathlib.Core.List.{List}
use Prim.Native.Nat.{ℕ, zero, suc, ◌+◌, ◌≤◌, ◌<◌, zero-le}
use native.Mathlib.Decide.{dec_lt}
use native.Mathlib.Numerals.{add-one}
use native.Mathlib.Omega.{arith}
use lib.ListN.{length}
use Rattle.profile.specs.Line.{Lawful, number_at}
use Rattle.profile.proofs.Highest.{plan_lawful}
use Rattle.profile.proofs.Plan.{plan_length}
use Rattle.machine.specs.Numbers.{Rampable, block_cap, numbers_of}
use Rattle.machine.specs.declared.Machine.{Machine}
use Rattle.machine.proofs.CapLaws.{junction_largest}
use Rattle.machine.proofs.RampLaws.{numbers_rampable}
use Rattle.machine.proofs.Spans.{spans_length}
use Rattle.tape.specs.Tape.{record_at, records_in, tape_blocks}
use Rattle.tape.specs.Answers.{most_blocks, tape_refusal}
use Rattle.tape.proofs.Checks.{head_passed, head_records}
use Rattle.tape.proofs.Faults.{length_blocks, tape_passed}
use Rattle.tapeplan.specs.Planned.{tape_machine, tape_plan, tape_spans}
use Rattle.tapeplan.proofs.Surveys.{cap_next, reach_is}

-- an accepted tape has not more records than the most
pub accepted_records : (s : List ℕ) → tape_refusal s ≡ 0 → records_in s ≤ most_blocks
accepted_records s passed = head_records s (head_passed s (tape_passed s passed).0)

-- whatever steps are loaded
module _ (s loaded : List ℕ) (passed : tape_refusal s ≡ 0) where
  abbrev m : Machine
  m = tape_machine s loaded

  -- the plan has a number for each junction
  spans_count : length (tape_spans s loaded) ≡ records_in s
  spans_count = spans_length m (tape_blocks s) ∙ length_blocks s

  pub accepted_junctions : length (tape_plan s loaded) ≡ records_in s + 1
  accepted_junctions = omega (arith, plan_length 0 (tape_spans s loaded), spans_count)

  lawful : Lawful 0 (tape_spans s loaded) (tape_plan s loaded)
  lawful = plan_lawful 0 (tape_spans s loaded) zero-le

  -- where a block begins, the plan is within its cap,
  entered : (k : ℕ) → k < records_in s → number_at (tape_plan s loaded) k ≤ block_cap m.limits (record_at s k)
  entered zero h = omega (arith, lawful.begins)
  entered (suc k) h =
      omega (arith, lawful.capped (suc k) (omega arith) (omega (arith, spans_count)), cap_next m s k h, (junction_largest m.limits (record_at s k) (record_at s (suc k))).has)

  -- and where it ends
  left : (k : ℕ) → k < records_in s → number_at (tape_plan s loaded) (k + 1) ≤ block_cap m.limits (record_at s k)
  left k h = rw (add-one k) (go (dec_lt (suc k) (records_in s)))
    where
      go : Dec (suc k < records_in s) → number_at (tape_plan s loaded) (suc k) ≤ block_cap m.limits (record_at s k)
      go (yes g) =
          omega (arith, lawful.capped (suc k) (omega arith) (omega (arith, spans_count)), cap_next m s k g, (junction_largest m.limits (record_at s k) (record_at s (suc k))).has)
      go (no g) =
          let last : suc k ≡ length (tape_spans s loaded) = omega (arith, spans_count) in
          omega (arith, ap (number_at (tape_plan s loaded)) last, lawful.ends)

  -- so a ramp exists between them
  pub accepted_ramps : (k : ℕ) → k < records_in s → Rampable (numbers_of m (record_at s k)) (number_at (tape_plan s loaded) k) (number_at (tape_plan s loaded) (k + 1))
  accepted_ramps k h =
      numbers_rampable m (record_at s k) (number_at (tape_plan s loaded) k) (number_at (tape_plan s loaded) (k + 1)) ((tape_passed s passed).1 k h) (entered k h) (left k h)
      (omega (arith, lawful.falls k (omega (arith, spans_count)), reach_is m s k h))
      (omega (arith, lawful.rises k (omega (arith, spans_count)), reach_is m s k h))
