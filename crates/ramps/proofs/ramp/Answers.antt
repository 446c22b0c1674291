-- `ramps::ramp` meets its contract: the peak is neither below the entry nor below the exit.
use Rattle.std.proofs.Common.{ℕ, ◌-◌, ◌^◌, ◌<◌, ◌≤◌, ap, ◌∙◌, arith}
use Rattle.machine.specs.declared.Numbers.{Numbers}
use Rattle.machine.specs.declared.Ramp.{Ramp}
use Rattle.machine.specs.Numbers.{up_of, down_of, ramp_of}
use Rattle.machine.proofs.RampLaws.{peak_above, peak_largest}
use Rattle.ramps.proofs.ramp.Goals as goal
use Rattle.ramps.proofs.ramp.Goals.{After-peak_of-peak}

-- the ramp with a given peak
abbrev ramp_at : Numbers → (entry exit peak : ℕ) → Ramp
ramp_at n entry exit peak =
    let up = up_of (peak - entry) n.accel in
    let down = down_of (peak - exit) n.accel in
    record { peak = peak; up = up; cruise = n.length - up - down; down = down }

-- the peak is not below the two speeds, and not above the cap
module _ (c : After-peak_of-peak) where
  from_entry : c.args.entry ≤ c.peak_of-peak.result
  from_entry = omega (arith, c.peak_of-peak.ensures, (peak_above c.args.n c.args.entry c.args.exit c.requires).0)

  from_exit : c.args.exit ≤ c.peak_of-peak.result
  from_exit = omega (arith, c.peak_of-peak.ensures, (peak_above c.args.n c.args.entry c.args.exit c.requires).1)

  capped : c.peak_of-peak.result < 2 ^ 50
  capped = omega (arith, c.peak_of-peak.ensures, (peak_largest c.args.n.cap c.args.n.reach c.args.entry c.args.exit).has.0, c.requires.cap_below)

pub overflow_add-up : goal.overflow_add-up
overflow_add-up c = record { fits = omega (arith, capped c, c.requires.accel_below) }

pub overflow_add-down : goal.overflow_add-down
overflow_add-down c = record { fits = omega (arith, capped c, c.requires.accel_below) }

pub returns : goal.returns
unfolding ramp_of up_of down_of
returns c =
    let a = c.args in
    let peak = c.peak_of-peak.result in
    let r = ramp_at a.n a.entry a.exit peak in
    (λ i. record { peak = peak; up = r.up; cruise = (c.saturating_sub-2.ensures ∙ ap (λ (x : ℕ). x - r.down) c.saturating_sub.ensures) i; down = r.down })
    ∙ ap (ramp_at a.n a.entry a.exit) c.peak_of-peak.ensures

pub overflow_sub-up : goal.overflow_sub-up
overflow_sub-up c = from_entry c

pub overflow_sub-down : goal.overflow_sub-down
overflow_sub-down c = from_exit c
