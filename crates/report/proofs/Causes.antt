-- Exactly one of the four holds each inner junction, and so the four counts add up. From the laws of a junction's caps.
use Rattle.std.proofs.Common.{◌≡◌, ℕ, zero, suc, ◌+◌, ◌-◌, ◌<◌, min, Bool, true, false, cond, not, ◌&&◌, eqb, List, sym, refl, ap, ◌∙◌, arith, eq-eqb, eqb-true}
use borrow.Author.Tests.{eqb-false}
use Rattle.machine.specs.Caps.{JunctionCaps, cap_is, caps_between, least_cap}
use Rattle.machine.specs.Numbers.{OpenCap, none, up_to, numbers_of, under_cap}
use Rattle.machine.specs.declared.Machine.{Machine}
use Rattle.machine.proofs.CapCauses.{beside_least, caps_least, corner_shown}
use Rattle.machine.proofs.CapLaws.{junction_largest}
use Rattle.tape.specs.Tape.{record_at, records_in}
use Rattle.tapeplan.specs.Sheet.{corner_at, measured_of}
use Rattle.report.specs.Counts.{count_to, one, times_in}
use Rattle.report.specs.Figures.{figures_of}
use Rattle.report.specs.Held.{by_chord, by_corner, by_feed, by_reach, caps_at, held_by, held_list, held_of, speed_at}
use Rattle.report.specs.Rows.{held_from}
use Rattle.report.proofs.Counts.{count_listed, count_same}

-- Four tests, of which the last holds where the first does and the two between do not.
module _ (at feed corner chord : Bool) where
  abbrev Last : Type 0
  Last = at ≡ true → feed ≡ false → corner ≡ false → chord ≡ true

  abbrev second : Bool
  second = at && (not feed && corner)

  abbrev third : Bool
  third = at && (not feed && (not corner && chord))

  abbrev number : ℕ
  number = cond (at && feed) 0 (cond second 1 (cond third 2 3))

-- the number without the last
abbrev told : (at feed corner : Bool) → ℕ
told at feed corner = cond at (cond feed 0 (cond corner 1 2)) 3

-- one of four holds,
four : (at feed corner chord : Bool) → Last at feed corner chord → one (at && feed) + one (second at feed corner chord) + one (third at feed corner chord) + one (not at) ≡ 1
four false feed corner chord h = refl
four true true corner chord h = refl
four true false true chord h = refl
four true false false chord h = rw (h refl refl refl)

-- the number is which,
which : (at feed corner chord : Bool) → Last at feed corner chord
    → (eqb (number at feed corner chord) 0 ≡ at && feed) × (eqb (number at feed corner chord) 1 ≡ second at feed corner chord)
    × (eqb (number at feed corner chord) 2 ≡ third at feed corner chord) × (eqb (number at feed corner chord) 3 ≡ not at)
which false feed corner chord h = (refl, refl, refl, refl)
which true true corner chord h = (refl, refl, refl, refl)
which true false true chord h = (refl, refl, refl, refl)
which true false false chord h = rw (h refl refl refl) (refl, refl, refl, refl)

-- and it is found without the last
found : (at feed corner chord : Bool) → Last at feed corner chord → told at feed corner ≡ number at feed corner chord
found false feed corner chord h = refl
found true true corner chord h = refl
found true false true chord h = refl
found true false false chord h = rw (h refl refl refl)

-- A speed at the least of three caps that is neither the feed's nor the corner's is the chord rule's.
chord_last : (feed p : ℕ) (corner chord : OpenCap) → p ≡ under_cap chord (under_cap corner feed) → (feed ≡ p → ⊥) → cap_is corner p ≡ false → cap_is chord p ≡ true
chord_last feed p none none e f k = absurd (f (sym e))
chord_last feed p none (up_to q) e f k = eq-eqb q p (lower feed q p e f)
  where
    lower : (a b p : ℕ) → p ≡ min a b → (a ≡ p → ⊥) → b ≡ p
    lower a b p e f = omega arith
chord_last feed p (up_to r) none e f k = absurd (least feed r p e f (eqb-false r p k))
  where
    least : (a b p : ℕ) → p ≡ min a b → (a ≡ p → ⊥) → (b ≡ p → ⊥) → ⊥
    least a b p e f g = omega arith
chord_last feed p (up_to r) (up_to q) e f k = eq-eqb q p (lower feed r q p e f (eqb-false r p k))
  where
    lower : (a b c p : ℕ) → p ≡ min (min a b) c → (a ≡ p → ⊥) → (b ≡ p → ⊥) → c ≡ p
    lower a b c p e f g = omega arith

module _ (c : JunctionCaps) (speed : ℕ) where
  last : Last (eqb speed (least_cap c)) (eqb c.feed speed) (cap_is c.corner speed) (cap_is c.chord speed)
  unfolding least_cap
  last at feed corner = chord_last c.feed speed c.corner c.chord (eqb-true speed (least_cap c) at) (eqb-false c.feed speed feed) corner

  -- EXACTLY ONE holds a junction, whatever its caps and its speed are;
  pub one_of_four : one (by_feed c speed) + one (by_corner c speed) + one (by_chord c speed) + one (by_reach c speed) ≡ 1
  one_of_four = four (eqb speed (least_cap c)) (eqb c.feed speed) (cap_is c.corner speed) (cap_is c.chord speed) last

  -- the number told is that one's
  pub held_is : (eqb (held_by c speed) 0 ≡ by_feed c speed) × (eqb (held_by c speed) 1 ≡ by_corner c speed) × (eqb (held_by c speed) 2 ≡ by_chord c speed) × (eqb (held_by c speed) 3 ≡ by_reach c speed)
  unfolding held_by
  held_is = which (eqb speed (least_cap c)) (eqb c.feed speed) (cap_is c.corner speed) (cap_is c.chord speed) last

-- THE FOUR ADD UP to the junctions that are counted.
pub held_add_up : (s loaded : List ℕ) (n : ℕ) → held_of by_feed s loaded n + held_of by_corner s loaded n + held_of by_chord s loaded n + held_of by_reach s loaded n ≡ n
unfolding count_to
held_add_up s loaded zero = refl
held_add_up s loaded (suc n) = omega (arith, held_add_up s loaded n, one_of_four (caps_at s n) (speed_at s loaded n))

pub four_add_up : (s loaded : List ℕ) → let f = figures_of s loaded in f.feed + f.corner + f.chord + f.reach ≡ records_in s - 1
four_add_up s loaded = held_add_up s loaded (records_in s - 1)

-- THE COUNTS ARE THE LIST'S: how often each number stands in the list of what held each inner junction.
pub list_counts : (s loaded : List ℕ) → let f = figures_of s loaded in let list = held_list s loaded in
    (times_in 0 list ≡ f.feed) × (times_in 1 list ≡ f.corner) × (times_in 2 list ≡ f.chord) × (times_in 3 list ≡ f.reach)
list_counts s loaded = (
  counts 0 by_feed (λ c p. (held_is c p).0),
  counts 1 by_corner (λ c p. (held_is c p).1),
  counts 2 by_chord (λ c p. (held_is c p).2),
  counts 3 by_reach (λ c p. (held_is c p).3),
)
  where
    counts : (what : ℕ) (by : JunctionCaps → ℕ → Bool) → ((c : JunctionCaps) (p : ℕ) → eqb (held_by c p) what ≡ by c p) → times_in what (held_list s loaded) ≡ held_of by s loaded (records_in s - 1)
    counts what by is =
        count_listed (λ i. held_by (caps_at s i) (speed_at s loaded i)) what (records_in s - 1)
        ∙ count_same (λ i. eqb (held_by (caps_at s i) (speed_at s loaded i)) what) (λ i. by (caps_at s i) (speed_at s loaded i)) (records_in s - 1) (λ i h. is (caps_at s i) (speed_at s loaded i))

-- From two rows of a tape's sheet.
module _ (m : Machine) (s : List ℕ) (i : ℕ) (ticks : 0 < m.limits.tick) where
  abbrev caps : JunctionCaps
  caps = caps_between m.limits (record_at s i) (record_at s (suc i))

  cap_same : min (min (measured_of m s i).numbers.cap (measured_of m s (suc i)).numbers.cap) (measured_of m s (suc i)).corner ≡ least_cap caps
  unfolding corner_at numbers_of
  cap_same = beside_least m.limits (record_at s i) (record_at s (suc i)) ∙ sym (caps_least m.limits (record_at s i) (record_at s (suc i)) ticks)

  abbrev corner : ℕ
  corner = (measured_of m s (suc i)).corner

  -- at its cap, the corner beside the block caps tells whether the corner holds
  corner_same : (speed : ℕ) → eqb speed (least_cap caps) ≡ true → eqb corner speed ≡ cap_is caps.corner speed
  unfolding corner_at caps_between
  corner_same speed e =
      let a = record_at s i in
      let b = record_at s (suc i) in
      let within = (junction_largest m.limits a b).has in
      corner_shown m.limits a b speed (omega (arith, eqb-true speed (least_cap caps) e, caps_least m.limits a b ticks, within.0, within.1))

  pub held_rows : (speed : ℕ) → held_from (measured_of m s i) (measured_of m s (suc i)) speed ≡ held_by caps speed
  unfolding held_from held_by caps_between
  held_rows speed =
      ap (λ (cap : ℕ). told (eqb speed cap) feed (eqb corner speed)) cap_same
      ∙ by (eqb speed (least_cap caps)) refl
      ∙ found (eqb speed (least_cap caps)) feed (cap_is caps.corner speed) (cap_is caps.chord speed) (last caps speed)
    where
      feed : Bool
      feed = eqb caps.feed speed

      by : (t : Bool) → eqb speed (least_cap caps) ≡ t → told t feed (eqb corner speed) ≡ told t feed (cap_is caps.corner speed)
      by true e = ap (told true feed) (corner_same speed e)
      by false e = refl
