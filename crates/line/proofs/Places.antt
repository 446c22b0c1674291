-- A place of the ring: the block, the limits, the junction cap and the reach that come back from it, and what a store changes.
-- From the ranges of what passes the checks.
use mathlib.Core.Logic.{◌≢◌}
use mathlib.Core.Path.{◌≡◌, ap, sym, ◌∙◌}
use mathlib.Core.List.{List}
use Prim.Native.Nat.{ℕ, ◌+◌, ◌%◌, ◌^◌, ◌<◌}
use native.Mathlib.Nat.{mod-eq_of_lt}
use native.Mathlib.Omega.{arith}
use lib.IntN.{ℤ, nat_abs}
use lib.ListN.{length, get_or, set}
use lib.Seq.{get_or-set_same, get_or-set_other}
use Rattle.fields.specs.Signed.{signed_of, bits_of}
use Rattle.fields.proofs.Signed.{signed_bits, signed_mod, bits_signed, cut_back, mag_nat_abs}
use Rattle.profile.specs.Line.{reach_at}
use Rattle.machine.specs.Checks.{limits_refusal, block_refusal}
use Rattle.machine.specs.Labels.{no_block, labelled_block, label_of}
use Rattle.machine.specs.Line.{spans_of}
use Rattle.machine.specs.Numbers.{LimitsBelow, numbers_of, junction_cap, junction_from}
use Rattle.machine.specs.declared.Block.{Block}
use Rattle.machine.specs.declared.Limits.{Limits}
use Rattle.machine.specs.declared.Machine.{Machine}
use Rattle.machine.specs.declared.Numbers.{Numbers}
use Rattle.machine.proofs.Bounds.{limits_below, moves_below, short}
use Rattle.machine.proofs.Junctions.{junction_from_numbers}
use Rattle.machine.proofs.Labels.{label_back}
use Rattle.line.specs.Blocks.{most_held}
use Rattle.line.specs.Ring.{Place, Ring, cut_limits, cut_machine, place_at, block_in, cut_block, numbers_in, cut_numbers, place_of, junction_after}
use Rattle.line.specs.Holds.{Placed}
use Rattle.machine.proofs.Spans.{spans_reach}

-- limits that pass 1 are used as they are
pub limits_kept : (l : Limits) → limits_refusal l ≡ 0 → cut_limits l ≡ l
limits_kept l e =
    let b : LimitsBelow l = limits_below l e in
    rw (
      mod-eq_of_lt b.0.0,
      mod-eq_of_lt b.0.1,
      mod-eq_of_lt b.0.2,
      mod-eq_of_lt b.1.0,
      mod-eq_of_lt b.1.1,
      mod-eq_of_lt b.1.2,
      mod-eq_of_lt b.2,
      mod-eq_of_lt b.3,
      mod-eq_of_lt b.4,
    )

pub machine_kept : (m : Machine) → limits_refusal m.limits ≡ 0 → cut_machine m ≡ m
machine_kept m e = λ i. record { limits = limits_kept m.limits e i; torque = m.torque }

-- a move comes back from its word,
move_back : (z : ℤ) → nat_abs z < 2 ^ 20 → signed_of 64 (bits_of 64 z) ≡ z
move_back z h = signed_bits 64 z (omega arith) (omega (arith, mag_nat_abs z))

-- and from the 21 low bits of it
cut_move : (n : ℕ) (z : ℤ) → signed_of 64 n ≡ z → nat_abs z < 2 ^ 20 → signed_of 21 n ≡ signed_of 64 n
cut_move n z e h =
    let low : n % 2 ^ 21 ≡ bits_of 64 z % 2 ^ 21 = omega (arith, bits_signed 64 n, ap (bits_of 64) e) in
    sym (signed_mod 21 n) ∙ ap (signed_of 21) low ∙ signed_mod 21 (bits_of 64 z) ∙ cut_back 64 21 z (omega arith) (omega arith) (omega (arith, mag_nat_abs z)) ∙ sym e

-- a block that passes 2 to 6 comes back from its place
pub block_back : (b : Block) (n : Numbers) (junction : ℕ) → block_refusal b ≡ 0 → block_in (place_of b n junction) ≡ b
block_back b n junction e =
    let m = moves_below b e in
    (λ i. labelled_block (move_back b.x m.0 i) (move_back b.y m.1 i) (move_back b.z m.2 i) b.feed b.radius (label_of b))
    ∙ label_back b e

-- the numbers of a block that passes are used as they are: its length is short
numbers_kept : (m : Machine) (p : Place) (a : Block) → block_refusal a ≡ 0 → numbers_in p ≡ numbers_of m a → cut_numbers p ≡ numbers_of m a
unfolding numbers_of
numbers_kept m p a r n =
    let long : p.length % 2 ^ 30 ≡ p.length = omega (arith, ap (λ (k : Numbers). k.length) n, short a r) in
    (λ i. record { length = long i; accel = p.accel; reach = p.reach; cap = p.cap }) ∙ n

-- and so are its moves
block_kept : (p : Place) (a : Block) → block_refusal a ≡ 0 → block_in p ≡ a → cut_block p ≡ a
unfolding labelled_block
block_kept p a r e =
    let m = moves_below a r in
    let x = cut_move p.x a.x (ap (λ (b : Block). b.x) e) m.0 in
    let y = cut_move p.y a.y (ap (λ (b : Block). b.y) e) m.1 in
    let z = cut_move p.z a.z (ap (λ (b : Block). b.z) e) m.2 in
    (λ i. labelled_block (x i) (y i) (z i) p.feed p.radius p.label) ∙ e

-- the cap of the junction after a place that holds a block with its numbers
pub junction_back : (m : Machine) (p : Place) (a b : Block) → block_refusal a ≡ 0 → block_in p ≡ a → numbers_in p ≡ numbers_of m a
    → junction_after m.limits.jump p b (numbers_of m b) ≡ junction_cap m.limits a b
unfolding junction_after
junction_back m p a b r e n = (λ i. junction_from m.limits.jump (block_kept p a r e i) (numbers_kept m p a r n i) b (numbers_of m b)) ∙ junction_from_numbers m a b

-- the reaches of the places are those of the spans
pub placed_reach : {r : Ring} {m : Machine} {blocks : List Block} → Placed r m blocks → (k : ℕ) → k < length blocks → (place_at r k).reach ≡ reach_at (spans_of m blocks) k
unfolding numbers_of
placed_reach {r} {m} {blocks} p k h = ap (λ (n : Numbers). n.reach) (p.numbers k h) ∙ sym (spans_reach no_block m blocks k h)

-- What is stored in one of two rings, of places and of stairs, is read there,
module _ {A : Type 0} (none : A) (l : List A) (sized : length l ≡ most_held) (first : ℕ) where
  pub ring_same : (k : ℕ) (v : A) → get_or (set l ((first + k) % most_held) v) ((first + k) % most_held) none ≡ v
  ring_same k v = get_or-set_same l ((first + k) % most_held) v none (omega arith)

  -- and nowhere else
  pub ring_other : (k j : ℕ) (v : A) → k < most_held → j < most_held → j ≢ k
      → get_or (set l ((first + k) % most_held) v) ((first + j) % most_held) none ≡ get_or l ((first + j) % most_held) none
  ring_other k j v h g d = get_or-set_other l ((first + k) % most_held) ((first + j) % most_held) v none (omega arith)
