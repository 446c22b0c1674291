-- When a ramp can be worked out.
use mathlib.Core.Path.{◌≡◌, refl, ◌∙◌}
use mathlib.Core.Bool.{Bool, true, false, ◌&&◌}
use Prim.Native.Nat.{ℕ, ◌+◌, ◌%◌, ◌^◌, ◌≤◌, ◌<◌}
use native.Mathlib.Nat.{mod-eq_of_lt}
use native.Mathlib.Omega.{arith}
use borrow.Author.Tests.{leb-true, ltb-true, le-leb, lt-ltb}
use lib.Dec.{leb}
use Rattle.machine.specs.Numbers.{Rampable, sized, rampable}
use Rattle.machine.specs.declared.Numbers.{Numbers}
use Rattle.arith.proofs.Tests.{both}

-- what the first part of the test says
record Sized (n : Numbers) (entry exit : ℕ) : Type 0 where
  pub accel_above : 0 < n.accel
  pub accel_below : n.accel < 2 ^ 32
  pub cap_below : n.cap < 2 ^ 50
  pub reach_below : n.reach < 2 ^ 62
  pub entry_capped : entry ≤ n.cap
  pub exit_capped : exit ≤ n.cap

sized_says : (n : Numbers) (entry exit : ℕ) → sized n entry exit ≡ true → Sized n entry exit
sized_says n entry exit e =
    let parts = both _ _ e in
    let first = both _ _ parts.0 in
    let accels = both _ _ first.0 in
    let rooms = both _ _ first.1 in
    let caps = both _ _ parts.1 in
    record {
      accel_above = ltb-true 0 n.accel accels.0;
      accel_below = ltb-true n.accel (2 ^ 32) accels.1;
      cap_below = ltb-true n.cap (2 ^ 50) rooms.0;
      reach_below = ltb-true n.reach (2 ^ 62) rooms.1;
      entry_capped = leb-true entry n.cap caps.0;
      exit_capped = leb-true exit n.cap caps.1;
    }

-- what all of it says
pub rampable_says : (n : Numbers) (entry exit : ℕ) → rampable n entry exit ≡ true → Rampable n entry exit
unfolding rampable
rampable_says n entry exit e =
    let parts = both _ _ e in
    let s = sized_says n entry exit parts.0 in
    let steps = both _ _ parts.1 in
    record {
      accel_above = s.accel_above;
      accel_below = s.accel_below;
      cap_below = s.cap_below;
      reach_below = s.reach_below;
      entry_capped = s.entry_capped;
      exit_capped = s.exit_capped;
      falls = leb-true entry (exit + n.reach) steps.0;
      rises = leb-true exit (entry + n.reach) steps.1;
    }

-- Sums that wrap will do for it: those of sized numbers do not.
pub rampable_wrapped : (n : Numbers) (entry exit : ℕ) {low high : ℕ} → low ≡ (exit + n.reach) % 2 ^ 64 → high ≡ (entry + n.reach) % 2 ^ 64
    → sized n entry exit && (leb entry low && leb exit high) ≡ rampable n entry exit
unfolding rampable
rampable_wrapped n entry exit {low} {high} l h = by (sized n entry exit) refl
  where
    by : (t : Bool) → sized n entry exit ≡ t → t && (leb entry low && leb exit high) ≡ t && (leb entry (exit + n.reach) && leb exit (entry + n.reach))
    by false e = refl
    by true e =
        let s = sized_says n entry exit e in
        let a : low ≡ exit + n.reach = l ∙ mod-eq_of_lt (omega arith) in
        let b : high ≡ entry + n.reach = h ∙ mod-eq_of_lt (omega arith) in
        rw (a, b)

-- and the test of speeds that can be ramped holds
pub rampable_holds : (n : Numbers) (entry exit : ℕ) → Rampable n entry exit → rampable n entry exit ≡ true
unfolding rampable
rampable_holds n entry exit r =
    rw (
      lt-ltb 0 n.accel r.accel_above,
      lt-ltb n.accel (2 ^ 32) r.accel_below,
      lt-ltb n.cap (2 ^ 50) r.cap_below,
      lt-ltb n.reach (2 ^ 62) r.reach_below,
      le-leb entry n.cap r.entry_capped,
      le-leb exit n.cap r.exit_capped,
      le-leb entry (exit + n.reach) r.falls,
      le-leb exit (entry + n.reach) r.rises,
    )
