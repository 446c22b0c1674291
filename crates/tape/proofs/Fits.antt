-- Limits and blocks that pass their checks fit their fields. From the ranges that the checks allow.
use mathlib.Core.Path.{◌≡◌, refl}
use mathlib.Core.Bool.{Bool, true, false, ◌&&◌}
use Prim.Native.Nat.{ℕ, ◌^◌, ◌≤◌, ◌<◌}
use native.Mathlib.Omega.{arith}
use borrow.Author.Tests.{leb-true}
use lib.Dec.{leb, lit<}
use lib.Signed.{mag}
use Rattle.display.proofs.Answers.{picked}
use Rattle.fields.specs.Layouts.{InWidths}
use Rattle.fields.proofs.Signed.{bits_lt, mag_nat_abs}
use Rattle.machine.specs.Checks.{within, axes_within, limits_within, limits_refusal, block_refusal}
use Rattle.machine.specs.Ranges.{least_accel, most_accel, least_speed, most_speed, least_jump, most_jump, least_chord, most_chord, least_tick, most_tick}
use Rattle.machine.proofs.Bounds.{in_range, moves_below}
use Rattle.machine.proofs.Labels.{label_fits}
use Rattle.machine.specs.declared.Axes.{Axes}
use Rattle.machine.specs.declared.Limits.{Limits}
use Rattle.machine.specs.declared.Block.{Block}
use Rattle.tape.specs.Tape.{limits_layout, limits_fields, move_bits, record_layout, block_fields}

-- A block that passes 2 to 6.
pub block_fits : (b : Block) → block_refusal b ≡ 0 → InWidths record_layout (block_fields b)
block_fits b e =
    let r = in_range b e in
    (bits_lt move_bits b.x, (bits_lt move_bits b.y, (bits_lt move_bits b.z, (omega (arith, r.feed_below), (omega (arith, r.radius_below), (label_fits b e, tt))))))

-- Its moves are within 21 bits of two's complement.
pub moves_fit : (b : Block) → block_refusal b ≡ 0 → (mag b.x < 2 ^ 20) × (mag b.y < 2 ^ 20) × (mag b.z < 2 ^ 20)
moves_fit b e =
    let m = moves_below b e in
    (omega (arith, mag_nat_abs b.x), omega (arith, mag_nat_abs b.y), omega (arith, mag_nat_abs b.z))

both : (a b : Bool) → a && b ≡ true → (a ≡ true) × (b ≡ true)
both true true e = (refl, refl)
both true false e = (refl, e)
both false b e = let z : ◌≡◌ {A = ℕ} 0 1 = cc in absurd (omega arith)

up_to : (low high v : ℕ) → within low high v ≡ true → v ≤ high
up_to low high v e = leb-true v high (both (leb low v) (leb v high) e).1

axes_up_to : (high : ℕ) (a : Axes) → axes_within 1 high a ≡ true → (a.x ≤ high) × (a.y ≤ high) × (a.z ≤ high)
axes_up_to high a e =
    let last = both (within 1 high a.x && within 1 high a.y) (within 1 high a.z) e in
    let first = both (within 1 high a.x) (within 1 high a.y) last.0 in
    (up_to 1 high a.x first.0, up_to 1 high a.y first.1, up_to 1 high a.z last.1)

-- Limits that pass 1.
pub limits_fit : (l : Limits) → limits_refusal l ≡ 0 → InWidths limits_layout (limits_fields l)
unfolding limits_refusal limits_within
limits_fit l e =
    let all = both (axes_within least_accel most_accel l.accel && axes_within least_speed most_speed l.speed) _ (picked _ (lit< tt) e) in
    let axes = both (axes_within least_accel most_accel l.accel) (axes_within least_speed most_speed l.speed) all.0 in
    let rest = both (within least_jump most_jump l.jump && within least_chord most_chord l.chord) (within least_tick most_tick l.tick) all.1 in
    let jump = both (within least_jump most_jump l.jump) (within least_chord most_chord l.chord) rest.0 in
    let a = axes_up_to most_accel l.accel axes.0 in
    let v = axes_up_to most_speed l.speed axes.1 in
    let j = up_to 1 most_jump l.jump jump.0 in
    let c = up_to 1 most_chord l.chord jump.1 in
    let t = up_to least_tick most_tick l.tick rest.1 in
    (omega arith, (omega arith, (omega arith, (omega arith, (omega arith, (omega arith, (omega arith, (omega arith, (omega arith, (omega arith, tt))))))))))
