-- What held each inner junction of a tape back: the feed or an axis, the corner, the chord rule, or the reach of the blocks around it. Inner
-- junction i, counted from 0, lies between blocks i and i + 1 of the tape: it is junction i + 1 of the plan.
use Rattle.std.specs.Prelude.{ℕ, suc, ◌-◌, Bool, cond, not, ◌&&◌, List, ◌==◌, ⊤, Result}
use Rattle.profile.specs.Line.{number_at}
use Rattle.machine.specs.Caps.{JunctionCaps, cap_is, caps_between, least_cap}
use Rattle.tape.specs.Tape.{record_at, records_in, tape_limits}
use Rattle.tapeplan.specs.Planned.{FilledTape, tape_plan}
use Rattle.display.specs.declared.RefusedAt.{RefusedAt}
use Rattle.report.specs.Counts.{count_to, list_from}

-- A junction with these caps and this squared speed of the plan, (µm/s)²: whether the plan is at the junction's cap,
abbrev pub at_cap : JunctionCaps → (speed : ℕ) → Bool
at_cap c speed = speed == least_cap c

-- and what holds it then: the first of feed, corner and chord that the plan equals; else the reach does
abbrev pub by_feed : JunctionCaps → (speed : ℕ) → Bool
by_feed c speed = at_cap c speed && c.feed == speed

abbrev pub by_corner : JunctionCaps → (speed : ℕ) → Bool
by_corner c speed = at_cap c speed && (not (c.feed == speed) && cap_is c.corner speed)

abbrev pub by_chord : JunctionCaps → (speed : ℕ) → Bool
by_chord c speed = at_cap c speed && (not (c.feed == speed) && (not (cap_is c.corner speed) && cap_is c.chord speed))

abbrev pub by_reach : JunctionCaps → (speed : ℕ) → Bool
by_reach c speed = not (at_cap c speed)

-- the number of what holds it: 0 feed or axis, 1 corner, 2 chord, 3 reach
unfoldable pub held_by : JunctionCaps → (speed : ℕ) → ℕ
held_by c speed = cond (by_feed c speed) 0 (cond (by_corner c speed) 1 (cond (by_chord c speed) 2 3))

-- how many inner junctions a tape has, and the three caps and the plan at each
abbrev pub inner_in : (s : List ℕ) → ℕ
inner_in s = records_in s - 1

abbrev pub caps_at : (s : List ℕ) (i : ℕ) → JunctionCaps
caps_at s i = caps_between (tape_limits s) (record_at s i) (record_at s (suc i))

abbrev pub speed_at : (s loaded : List ℕ) (i : ℕ) → ℕ
speed_at s loaded i = number_at (tape_plan s loaded) (suc i)

-- how many are held by a test of these
abbrev pub held_of : (JunctionCaps → ℕ → Bool) → (s loaded : List ℕ) (count : ℕ) → ℕ
held_of by s loaded count = count_to (λ i. by (caps_at s i) (speed_at s loaded i)) count

-- what holds each, in order
abbrev pub held_list : (s loaded : List ℕ) → List ℕ
held_list s loaded = list_from (λ i. held_by (caps_at s i) (speed_at s loaded i)) 0 (inner_in s)

-- a lent list of as many numbers as the tape has inner junctions, else 11, gets what holds each
abbrev pub HeldTape : (s loaded before after : List ℕ) → Result ⊤ RefusedAt → Type 0
HeldTape s loaded before after r = FilledTape s loaded (inner_in s) (held_list s loaded) before after r
