-- An add: a ring that holds a line answers as the line does and holds the line afterwards. From the laws of spans, places
-- and stairs.
use mathlib.Core.Bool.{cond}
use mathlib.Core.Path.{◌≡◌, refl, ap, sym, subst, ◌∙◌}
use mathlib.Core.List.{List, ◌∷◌, ◌++◌, []}
use Prim.Native.Nat.{ℕ, zero, suc, ◌+◌, ◌-◌, ◌*◌, ◌^◌, ◌≤◌, ◌<◌}
use native.Mathlib.Decide.{dec_lt}
use native.Mathlib.Omega.{arith}
use borrow.Author.Tests.{leb-false, ne_eqb}
use lib.Dec.{eqb, lit<}
use lib.ListN.{length, length-set, length-append, get_or-append}
use lib.Seq.{get_or_at}
use Rattle.display.proofs.Answers.{then_zero, not_picked}
use Rattle.profile.specs.Line.{no_span, span_at, cap_at, total_reach}
use Rattle.profile.specs.declared.Span.{Span}
use Rattle.profile.specs.Passes.{start_limit, CanBrake}
use Rattle.profile.proofs.Brake.{add_keeps}
use Rattle.profile.specs.Stairs.{Stair}
use Rattle.machine.specs.Checks.{block_refusal}
use Rattle.machine.specs.Labels.{no_block}
use Rattle.machine.specs.Line.{spans_of}
use Rattle.machine.specs.Numbers.{numbers_of, reach_of, block_cap}
use Rattle.machine.specs.declared.Block.{Block}
use Rattle.machine.specs.declared.Machine.{Machine}
use Rattle.line.specs.Answers.{answer_by}
use Rattle.line.specs.Blocks.{most_held, Line, add, add_refusal, add_after, line_answer, line_after}
use Rattle.line.specs.Ring.{Place, Ring, no_place, cut_machine, slot, place_at, block_in, numbers_in, place_of, junction_after, new_junction, with_stairs, climbed, placed_last, put_last, added_in, ring_answer, ring_after}
use Rattle.line.specs.Holds.{block_at, Placed, Climbed, Holds}
use Rattle.machine.proofs.CapLaws.{block_cap_below, junction_largest}
use Rattle.machine.proofs.Reaches.{reach_below}
use Rattle.machine.proofs.Spans.{spans_length, spans_first, spans_cap, spans_reach}
use Rattle.line.proofs.Spans.{spans_last, total_below}
use Rattle.line.proofs.Places.{machine_kept, block_back, junction_back, ring_same, ring_other}
use Rattle.line.proofs.Climbs.{climbed_sized, first_climbed, last_climbed}

-- the blocks of a line with one block more
module _ (blocks : List Block) (b : Block) where
  abbrev more : List Block
  more = blocks ++ b ∷ []

  -- how many they are, the old ones among them, and the new one
  more_length : length more ≡ length blocks + 1
  more_length = length-append blocks (b ∷ [])

  more_old : (k : ℕ) → k < length blocks → block_at more k ≡ block_at blocks k
  more_old k h = get_or-append blocks (b ∷ []) no_block k h

  more_last : block_at more (length blocks) ≡ b
  more_last = get_or_at blocks b [] no_block (length blocks) refl

  -- what holds of the old ones and of the new one holds of all
  more_each : (P : ℕ → Block → Type 0) → ((k : ℕ) → k < length blocks → P k (block_at blocks k)) → P (length blocks) b
      → (k : ℕ) → k < length more → P k (block_at more k)
  more_each P old new k h = elim (dec_lt k (length blocks)) [
    | yes g ↦ rw (more_old k g) (old k g)
    | no g ↦
        let last : k ≡ length blocks = omega (arith, more_length) in
        rw (last, more_last) new
  ]

  module _ (m : Machine) where
    -- the span of the new block
    abbrev new_span : Span
    new_span = span_at (spans_of m more) (length blocks)

    -- the caps of the old ones are as they were
    spans_old : (k : ℕ) → k < length blocks → cap_at (spans_of m more) k ≡ cap_at (spans_of m blocks) k
    spans_old k h =
        ap (λ (s : List Span). cap_at s k) (spans_last m blocks b)
        ∙ ap (λ (s : Span). s.cap) (get_or-append (spans_of m blocks) (new_span ∷ []) no_span k (omega (arith, spans_length m blocks)))

    -- the committed squared speed stays within the first block's cap: in an empty line it is 0
    more_entered : (committed : ℕ) → CanBrake committed (spans_of m blocks) → (0 < length blocks → committed ≤ block_cap m.limits (block_at blocks 0))
        → committed ≤ block_cap m.limits (block_at more 0)
    unfolding spans_of start_limit
    more_entered committed = go blocks
      where
        go : (bs : List Block) → CanBrake committed (spans_of m bs) → (0 < length bs → committed ≤ block_cap m.limits (block_at bs 0)) → committed ≤ block_cap m.limits (block_at (bs ++ b ∷ []) 0)
        go [] c e = omega arith
        go (a ∷ bs) c e = e (omega arith)

-- one span alone
alone : (line : List Span) (s : Span) → length line ≡ 0 → line ++ (s ∷ []) ≡ s ∷ []
alone [] s e = refl
alone (x ∷ line) s e = absurd (omega arith)

-- a block that passes 2 to 6, put last in a ring with room
module _ {r : Ring} {line : Line} (b : Block) (h : Holds r line) (passed : block_refusal b ≡ 0) (room : length line.blocks < most_held) where
  abbrev longer : List Block
  longer = line.blocks ++ b ∷ []

  abbrev spans : List Span
  spans = spans_of line.machine longer

  -- the place as the ring's definition has it, and as the line has it
  abbrev stored : Place
  stored = place_of b (numbers_of (cut_machine r.machine) b) (new_junction r b)

  abbrev wanted : Place
  wanted = place_of b (numbers_of line.machine b) (cap_at spans (length line.blocks))

  -- they are the same: the machine is used as it is,
  cut : cut_machine r.machine ≡ line.machine
  cut = ap cut_machine h.machine ∙ machine_kept line.machine h.limited

  -- and the junction cap is that of the new span
  new_junction_lem : new_junction r b ≡ cap_at spans (length line.blocks)
  new_junction_lem = go r.count h.counted
    where
      go : (c : ℕ) → c ≡ length line.blocks
          → cond (eqb c 0) 0 (junction_after (cut_machine r.machine).limits.jump (place_at r (c - 1)) b (numbers_of (cut_machine r.machine) b)) ≡ cap_at spans (length line.blocks)
      go zero e = rw (← e) (sym (spans_first line.machine longer))
      go (suc c) e =
          let before : suc c - 1 ≡ c = omega arith in
          let held : c < length line.blocks = omega arith in
          let last : block_at longer (suc c) ≡ b = rw e (more_last line.blocks b) in
          let jump : (cut_machine r.machine).limits.jump ≡ line.machine.limits.jump = ap (λ (m : Machine). m.limits.jump) cut in
          rw (ne_eqb (suc c) 0 (omega arith), before, cut, jump, ← e, spans_cap no_block line.machine longer c (omega (arith, more_length line.blocks b)), more_old line.blocks b c held, last)
          (junction_back line.machine (place_at r c) (block_at line.blocks c) b (h.passed c held) (h.placed.block c held) (h.placed.numbers c held))

  stored_is : stored ≡ wanted
  stored_is = λ i. place_of b (numbers_of (cut i) b) (new_junction_lem i)

  -- the ring with the block in its place
  abbrev put : Ring
  put = placed_last r wanted

  -- it has the old blocks' places as they were and the new one's
  put_old : (k : ℕ) → k < length line.blocks → place_at put k ≡ place_at r k
  put_old k g = ring_other no_place r.places h.sized.0 r.first r.count k wanted (omega (arith, h.counted)) (omega arith) (omega (arith, h.counted))

  put_last_lem : place_at put (length line.blocks) ≡ wanted
  put_last_lem = ap (place_at put) (sym h.counted) ∙ ring_same no_place r.places h.sized.0 r.first r.count wanted

  -- which are the blocks of the longer line
  put_placed : Placed put line.machine longer
  put_placed = record {
    block =
        more_each line.blocks b (λ k c. block_in (place_at put k) ≡ c)
        (λ k g. ap block_in (put_old k g) ∙ h.placed.block k g)
        (ap block_in put_last_lem ∙ block_back b (numbers_of line.machine b) (cap_at spans (length line.blocks)) passed);
    numbers =
        more_each line.blocks b (λ k c. numbers_in (place_at put k) ≡ numbers_of line.machine c)
        (λ k g. ap numbers_in (put_old k g) ∙ h.placed.numbers k g)
        (ap numbers_in put_last_lem);
    junction = λ k q g.
        more_each line.blocks b (λ k c. 0 < k → (place_at put k).junction ≡ cap_at spans k)
        (λ k g q. ap (λ (p : Place). p.junction) (put_old k g) ∙ h.placed.junction k q g ∙ sym (spans_old line.blocks b line.machine k g))
        (λ q. ap (λ (p : Place). p.junction) put_last_lem)
        k g q;
  }

  -- the longer line's spans are the old ones and one more
  abbrev old : List Span
  old = spans_of line.machine line.blocks

  abbrev span : Span
  span = new_span line.blocks b line.machine

  old_length : length old ≡ length line.blocks
  old_length = spans_length line.machine line.blocks

  split : spans ≡ old ++ (span ∷ [])
  split = spans_last line.machine line.blocks b

  span_reach : span.reach ≡ reach_of line.machine b
  span_reach = spans_reach no_block line.machine longer (length line.blocks) (omega (arith, more_length line.blocks b)) ∙ ap (reach_of line.machine) (more_last line.blocks b)

  reach_is : (numbers_of (cut_machine r.machine) b).reach ≡ span.reach
  unfolding numbers_of
  reach_is = ap (λ (m : Machine). (numbers_of m b).reach) cut ∙ sym span_reach

  -- all reaches and the new cap together are less than a word
  cap_below : (n : ℕ) → n ≡ length line.blocks → cap_at spans n < 2 ^ 50
  cap_below zero e = omega (arith, spans_first line.machine longer)
  cap_below (suc c) e =
      let last : block_at longer (suc c) ≡ b = rw e (more_last line.blocks b) in
      let most = (junction_largest line.machine.limits (block_at longer c) (block_at longer (suc c))).has in
      omega (
        arith,
        spans_cap no_block line.machine longer c (omega (arith, more_length line.blocks b)),
        most,
        ap (block_cap line.machine.limits) last,
        block_cap_below line.machine.limits b passed,
      )

  old_below : total_reach old ≤ length old * 2 ^ 53
  old_below =
      total_below (2 ^ 53) old λ k g.
      let held : k < length line.blocks = omega (arith, old_length) in
      omega (arith, spans_reach no_block line.machine line.blocks k held, reach_below line.machine (block_at line.blocks k) (h.passed k held))

  fits : total_reach old + span.reach + span.cap < 2 ^ 64
  fits = omega (arith, old_below, old_length, span_reach, reach_below line.machine b passed, cap_below (length line.blocks) refl)

  -- the ring with the block in its place and with the longer line's stairs holds it
  module _ (before total : ℕ) (stairs : List Stair) where
    with_stairs_lem : length stairs ≡ most_held → Climbed (with_stairs put before total stairs) spans
        → Holds (with_stairs put before total stairs) (record { machine = line.machine; committed = line.committed; blocks = longer })
    with_stairs_lem sized climbed = record {
      limited = h.limited;
      machine = h.machine;
      committed = h.committed;
      sized = (length-set r.places (slot r r.count) wanted ∙ h.sized.0, sized);
      room = omega (arith, more_length line.blocks b);
      counted = omega (arith, h.counted, more_length line.blocks b);
      passed = more_each line.blocks b (λ k c. block_refusal c ≡ 0) h.passed passed;
      placed = record { block = put_placed.block; numbers = put_placed.numbers; junction = put_placed.junction };
      climbed = λ q. climbed;
      brakes = rw split (add_keeps line.committed old (span ∷ []) h.brakes);
      entered = λ q. more_entered line.blocks b line.machine line.committed h.brakes h.entered;
    }

  -- after a block put last the ring holds the line with the block last
  put_holds : Holds (put_last r b) (record { machine = line.machine; committed = line.committed; blocks = longer })
  unfolding put_last
  put_holds =
      subst (λ (x : Ring). Holds x (record { machine = line.machine; committed = line.committed; blocks = longer }))
      (sym (λ i. climbed r.count (placed_last r (stored_is i)) (new_junction_lem i) (reach_is i)))
      (go r.count h.counted)
    where
      go : (c : ℕ) → c ≡ length line.blocks → Holds (climbed c put span.cap span.reach) (record { machine = line.machine; committed = line.committed; blocks = longer })
      go zero e =
          let none : spans ≡ span ∷ [] = split ∙ alone old span (omega (arith, old_length)) in
          with_stairs_lem _ _ _ (climbed_sized 0 put span.cap span.reach ∙ h.sized.1)
          (subst (Climbed (climbed 0 put span.cap span.reach)) (sym none) (first_climbed put h.sized.1 span))
      go (suc c) e =
          let was = h.climbed (omega arith) in
          with_stairs_lem _ _ _ (climbed_sized 1 put span.cap span.reach ∙ h.sized.1)
          (subst (Climbed (climbed 1 put span.cap span.reach)) (sym split)
          (last_climbed put h.sized.1 old (omega (arith, old_length)) (omega (arith, old_length))
          (record { counted = was.counted; stair = was.stair; total = was.total }) span fits))

-- an add that is not refused: its block passes 2 to 6 and there is room
not_refused : (held : ℕ) (b : Block) → add_refusal held b ≡ 0 → (block_refusal b ≡ 0) × (held < most_held)
not_refused held b e = let z = then_zero (block_refusal b) e in (z.0, leb-false most_held held (not_picked _ (lit< tt) z.1))

-- An add is answered as the line says, and the ring holds the line afterwards.
pub holds_add : {r : Ring} {line : Line} (b : Block) → Holds r line
    → (ring_answer r (add b) ≡ line_answer line (add b)) × Holds (ring_after r (add b)) (line_after line (add b))
unfolding ring_answer line_answer ring_after line_after
holds_add {r} {line} b h =
    let same : add_refusal r.count b ≡ add_refusal (length line.blocks) b = ap (λ (n : ℕ). add_refusal n b) h.counted in
    (ap answer_by same, subst (λ (n : ℕ). Holds (added_in n r b) (add_after (add_refusal (length line.blocks) b) line b)) (sym same) (go _ refl))
  where
    go : (n : ℕ) → add_refusal (length line.blocks) b ≡ n → Holds (added_in n r b) (add_after n line b)
    go zero e = let a = not_refused (length line.blocks) b e in put_holds b h a.0 a.1
    go (suc n) e = h
