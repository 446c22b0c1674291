-- The survey of a tape's records, one after the other. From the laws of filled lists, of spans and of a tape's faults.
use mathlib.Core.Path.{◌≡◌, sym, ap, ◌∙◌}
use mathlib.Core.List.{List}
use Prim.Native.Nat.{ℕ, zero, suc, ◌+◌, ◌-◌, ◌≤◌, ◌<◌, min}
use native.Mathlib.Omega.{arith}
use lib.Dec.{eqb, eqb-suc-zero}
use lib.ListN.{length, take, set}
use mathlib.Core.Bool.{cond}
use Rattle.profile.specs.Line.{cap_at, reach_at}
use Rattle.profile.specs.declared.Span.{Span}
use Rattle.machine.specs.Checks.{block_refusal}
use Rattle.machine.specs.Numbers.{Joinable, LimitsBelow, block_cap, corner_beside, gauged_of, junction_cap, numbers_of, reach_of}
use Rattle.machine.specs.Line.{spans_of}
use Rattle.machine.specs.declared.Block.{Block}
use Rattle.machine.specs.declared.Machine.{Machine}
use Rattle.machine.specs.declared.Gauged.{Gauged}
use Rattle.machine.specs.declared.Numbers.{Numbers}
use Rattle.machine.proofs.CapCauses.{beside_least, corner_from_numbers}
use Rattle.machine.proofs.Junctions.{numbers_joinable}
use Rattle.machine.proofs.Spans.{spans_length, spans_first, spans_cap, spans_reach}
use Rattle.tape.specs.Tape.{record_at, records_in, tape_blocks}
use Rattle.tape.proofs.Faults.{length_blocks, get_d_blocks, PassedBefore, passed_next}
use Rattle.tapeplan.specs.declared.Measured.{Measured}
use Rattle.tapeplan.specs.Sheet.{Measures, Keeps, corner_at}
use Rattle.passes.proofs.Filled.{Filled, filled_more, filled_line}
use Rattle.tapeplan.proofs.Sheets.{measures_next}

module _ (m : Machine) (s : List ℕ) where
  abbrev spans : List Span
  spans = spans_of m (tape_blocks s)

  -- the cap where a block after the first begins, and that of any block from the numbers of the block before it
  pub cap_next : (k : ℕ) → suc k < records_in s → junction_cap m.limits (record_at s k) (record_at s (suc k)) ≡ cap_at spans (suc k)
  cap_next k h =
      (λ i. junction_cap m.limits (sym (get_d_blocks s {k = k} (record_at s 0) (omega arith)) i) (sym (get_d_blocks s (record_at s 0) h) i))
      ∙ sym (spans_cap (record_at s 0) m (tape_blocks s) k (omega (arith, length_blocks s)))

  -- what is known of the block before block k
  pub record Known (before : Block) (known : Numbers) (k : ℕ) : Type 0 where
    pub block : before ≡ record_at s (k - 1)
    pub passes : block_refusal before ≡ 0
    pub numbers : known ≡ numbers_of m before

  pub known_joinable : {before b : Block} {known n : Numbers} {k : ℕ} → LimitsBelow m.limits → Known before known k → block_refusal b ≡ 0 → n ≡ numbers_of m b
      → Joinable m.limits.jump before known b n
  known_joinable {before} {b} below v p e = rw (v.numbers, e) (numbers_joinable m before b below v.passes p)

  -- the corner where block k begins, from the numbers of the block before it
  corner_is : (k : ℕ) {before : Block} {known : Numbers} → (0 < k → Known before known k)
      → cond (eqb k 0) 0 (corner_beside m.limits.jump before known (record_at s k) (numbers_of m (record_at s k))) ≡ corner_at m s k
  unfolding corner_at
  corner_is zero e = λ i. 0
  corner_is (suc k) {before} {known} e =
      let back : suc k - 1 ≡ k = omega arith in
      let known' = e (omega arith) in
      let block = known'.block ∙ ap (record_at s) back in
      let b = record_at s (suc k) in
      ap (λ t. cond t 0 (corner_beside m.limits.jump before known b (numbers_of m b))) (eqb-suc-zero k)
      ∙ (λ i. corner_beside m.limits.jump (block i) ((known'.numbers ∙ ap (numbers_of m) block) i) b (numbers_of m b))
      ∙ corner_from_numbers m (record_at s k) b

  -- and the cap there, from the two blocks' caps and that corner
  pub cap_is_lem : (k : ℕ) {before : Block} {known : Numbers} → k < records_in s → (0 < k → Known before known k)
      → min (min known.cap (block_cap m.limits (record_at s k))) (corner_at m s k) ≡ cap_at spans k
  unfolding corner_at numbers_of
  cap_is_lem zero h e = omega (arith, spans_first m (tape_blocks s))
  cap_is_lem (suc k) {before} {known} h e =
      let back : suc k - 1 ≡ k = omega arith in
      let known' = e (omega arith) in
      let cap = ap (λ (n : Numbers). n.cap) (known'.numbers ∙ ap (numbers_of m) (known'.block ∙ ap (record_at s) back)) in
      (λ i. min (min (cap i) (block_cap m.limits (record_at s (suc k)))) (corner_at m s (suc k)))
      ∙ beside_least m.limits (record_at s k) (record_at s (suc k))
      ∙ cap_next k h

  -- its reach
  pub reach_is : (k : ℕ) → k < records_in s → reach_of m (record_at s k) ≡ reach_at spans k
  reach_is k h = sym (spans_reach (record_at s 0) m (tape_blocks s) k (omega (arith, length_blocks s)) ∙ ap (reach_of m) (get_d_blocks s (record_at s 0) h))

  -- the first k records have passed, the line has their spans, and the sheet has what is measured of them
  pub record Surveying (start sheet : List Measured) (line : List Span) (before : Block) (known : Numbers) (k : ℕ) : Type 0 where
    pub passed : PassedBefore s k
    pub measured : Measures m s start sheet k
    pub filled : Filled line k spans
    pub previous : 0 < k → Known before known k

  -- what is measured of a block, from what it is gauged by
  abbrev measured_by : Block → Gauged → (corner : ℕ) → Measured
  measured_by b g corner = record { mark = b.mark; numbers = g.numbers; square = g.square; corner = corner }

  -- one record more
  pub survey_next : {start sheet sheet' : List Measured} {line : List Span} {before : Block} {known : Numbers} (k : ℕ) (b : Block) (g : Gauged) (corner cap : ℕ)
      → Surveying start sheet line before known k → k < records_in s → k < length line → b ≡ record_at s k → block_refusal b ≡ 0 → g ≡ gauged_of m b
      → corner ≡ cond (eqb k 0) 0 (corner_beside m.limits.jump before known b g.numbers) → Keeps sheet k (measured_by b g corner) sheet'
      → cap ≡ min (min known.cap g.numbers.cap) corner → Surveying start sheet' (set line k (record { cap = cap; reach = g.numbers.reach })) b g.numbers (k + 1)
  unfolding numbers_of
  survey_next {line} {before} {known} k b g corner cap v h ls e p q f keeps d =
      let back : k ≡ k + 1 - 1 = omega arith in
      let gauged : g ≡ gauged_of m (record_at s k) = q ∙ ap (gauged_of m) e in
      let turns : corner ≡ corner_at m s k =
      f ∙ (λ i. cond (eqb k 0) 0 (corner_beside m.limits.jump before known (e i) (gauged i).numbers)) ∙ corner_is k v.previous in
      record {
        passed = passed_next s v.passed h (ap block_refusal (sym e) ∙ p);
        measured = measures_next m s k v.measured keeps (λ i. measured_by (e i) (gauged i) (turns i));
        filled =
            let capped = d ∙ (λ i. min (min known.cap (gauged i).numbers.cap) (turns i)) ∙ cap_is_lem k h v.previous in
            let reached = ap (λ (o : Gauged). o.numbers.reach) gauged ∙ reach_is k h in
            filled_more line k (record { cap = cap; reach = g.numbers.reach }) spans ls (λ i. record { cap = capped i; reach = reached i }) v.filled;
        previous = λ z. record { block = e ∙ ap (record_at s) back; passes = p; numbers = ap (λ (o : Gauged). o.numbers) q };
      }

  -- all of them
  pub survey_all : {start sheet : List Measured} {line : List Span} {before : Block} {known : Numbers} {k : ℕ} → Surveying start sheet line before known k → records_in s ≤ k → records_in s ≤ length line
      → take (records_in s) line ≡ spans
  survey_all {line} v h ls =
      let n : length spans ≡ records_in s = spans_length m (tape_blocks s) ∙ length_blocks s in
      ap (λ (c : ℕ). take c line) (sym n) ∙ filled_line spans line (omega arith) (λ i b. v.filled i (omega arith))
