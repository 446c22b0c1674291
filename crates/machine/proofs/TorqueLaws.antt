-- Which steps are accepted, by index, and what they make of a speed: the loaded percentage of its step, at most 100, so that the axis limits hold.
-- From the laws of bytes.
use mathlib.Core.Path.{◌≡◌, refl, sym, ap, ◌∙◌}
use mathlib.Core.List.{List, ◌∷◌, []}
use mathlib.Core.Bool.{Bool, true, false, ◌&&◌, cond}
use Prim.Native.Nat.{ℕ, zero, suc, ◌+◌, ◌-◌, ◌*◌, ◌/◌, ◌≤◌, ◌<◌}
use native.Mathlib.Decide.{dec_lt}
use native.Mathlib.Numerals.{add-one}
use native.Mathlib.Omega.{arith}
use borrow.Author.Tests.{eq-eqb, ne_eqb, eqb-true, leb-true, le-leb}
use lib.Dec.{eqb, leb, lit<}
use lib.ListN.{length, get_or, take, drop, drop_of_length-le, get_or-eq_default}
use lib.Seq.{drop-cons, length-take-le, take_all}
use Rattle.display.proofs.Answers.{picked}
use Rattle.fields.specs.Bytes.{Bytes, number_of}
use Rattle.fields.specs.Fields.{part_of}
use Rattle.fields.specs.Layouts.{joined}
use Rattle.fields.proofs.Bytes.{number_part}
use Rattle.machine.specs.Ranges.{step_count, least_percent, most_percent, most_feed}
use Rattle.machine.specs.Checks.{within, limits_refusal, block_refusal}
use Rattle.machine.specs.Torque.{built_in_steps, steps_in_force, falling, steps_refusal, machine_of, torque_percent}
use Rattle.machine.specs.Numbers.{speed_of, accel_of}
use Rattle.machine.specs.Meaning.{StepsFit, StepsAccepted, none_loaded, fit, AccelFits}
use Rattle.machine.specs.declared.Limits.{Limits}
use Rattle.machine.specs.declared.Block.{Block}
use Rattle.machine.proofs.Bounds.{in_range}
use Rattle.arith.proofs.Tests.{both}
use Rattle.machine.proofs.AxisLaws.{accel_allowed, speed_largest}

-- percentages by index: each from 1 to `most`, and none above the one before it
abbrev Ranged : (most : ℕ) → List ℕ → Type 0
Ranged most s = (i : ℕ) → i < length s → (least_percent ≤ get_or s i 0) × (get_or s i 0 ≤ most)

abbrev Falls : List ℕ → Type 0
Falls s = (i : ℕ) → suc i < length s → get_or s (suc i) 0 ≤ get_or s i 0

-- what a percentage that passes its test, and those after it, are
first_passes : (most p : ℕ) (rest : List ℕ) → falling most (p ∷ rest) ≡ true → (least_percent ≤ p) × (p ≤ most) × (falling p rest ≡ true)
unfolding falling
first_passes most p rest e =
    let one = both _ _ e in
    let range = both (leb least_percent p) (leb p most) one.0 in
    (leb-true least_percent p range.0, leb-true p most range.1, one.1)

falling_ranged : (most : ℕ) (s : List ℕ) → falling most s ≡ true → Ranged most s
falling_ranged most [] e i h = absurd (omega arith)
falling_ranged most (p ∷ rest) e zero h = let f = first_passes most p rest e in (f.0, f.1)
falling_ranged most (p ∷ rest) e (suc i) h =
    let f = first_passes most p rest e in
    let later = falling_ranged p rest f.2 i (omega arith) in
    (later.0, omega arith)

falling_falls : (most : ℕ) (s : List ℕ) → falling most s ≡ true → Falls s
falling_falls most [] e i h = absurd (omega arith)
falling_falls most (p ∷ rest) e zero h = (falling_ranged p rest (first_passes most p rest e).2 0 (omega arith)).1
falling_falls most (p ∷ rest) e (suc i) h = falling_falls p rest (first_passes most p rest e).2 i (omega arith)

-- and back
ranged_falling : (most : ℕ) (s : List ℕ) → Ranged most s → Falls s → falling most s ≡ true
unfolding falling
ranged_falling most [] r f = refl
ranged_falling most (p ∷ rest) r f =
    let here = r 0 (omega arith) in
    let below : Ranged p rest = λ i h. ((r (suc i) (omega arith)).0, falls_below i h) in
    rw (le-leb least_percent p here.0, le-leb p most here.1, ranged_falling p rest below (λ i h. f (suc i) (omega arith)))
  where
    falls_below : (i : ℕ) → i < length rest → get_or rest i 0 ≤ p
    falls_below zero h = f 0 (omega arith)
    falls_below (suc i) h = omega (arith, f (suc i) (omega arith), falls_below i (omega arith))

-- the steps from step k on: the first of them is out of range, or it is the most for those behind it; there is none
module _ (most : ℕ) (s : List ℕ) (k : ℕ) where
  pub falling_out : k < length s → within least_percent most (get_or s k 0) ≡ false → falling most (drop k s) ≡ false
  unfolding falling
  falling_out h e = rw (drop-cons s k 0 h, e)

  pub falling_next : k < length s → within least_percent most (get_or s k 0) ≡ true → falling most (drop k s) ≡ falling (get_or s k 0) (drop (k + 1) s)
  unfolding falling
  falling_next h e = rw (drop-cons s k 0 h, e, add-one k)

  pub falling_end : length s ≤ k → falling most (drop k s) ≡ true
  unfolding falling
  falling_end h = rw (drop_of_length-le s {i = k} h)

-- the two tests of loaded steps, by index
good_fit : (s : List ℕ) → eqb (length s) step_count && falling most_percent s ≡ true → StepsFit s
good_fit s e =
    let tests = both _ _ e in
    let eight = eqb-true (length s) step_count tests.0 in
    record {
      eight = eight;
      in_range = λ i h. falling_ranged most_percent s tests.1 i (omega arith);
      falls = λ i h. falling_falls most_percent s tests.1 i (omega arith);
    }

fit_good : (s : List ℕ) → StepsFit s → eqb (length s) step_count && falling most_percent s ≡ true
fit_good s f =
    let eight = f.eight in
    rw (
      eq-eqb (length s) step_count eight,
      ranged_falling most_percent s (λ i h. f.in_range i (omega arith)) (λ i h. f.falls i (omega arith)),
    )

-- what loaded steps are answered, by these tests
tested : (s : List ℕ) → 0 < length s → steps_refusal s ≡ cond (eqb (length s) step_count && falling most_percent s) 0 14
unfolding steps_refusal
tested [] h = absurd (omega arith)
tested (p ∷ rest) h = refl

pub steps_none : steps_refusal [] ≡ 0
unfolding steps_refusal
steps_none = refl

module _ (s : List ℕ) where
  pub loaded_none : length s ≡ 0 → s ≡ []
  loaded_none e = go s e
    where
      go : (t : List ℕ) → length t ≡ 0 → t ≡ []
      go [] e = refl
      go (p ∷ rest) e = absurd (omega arith)

  pub loaded_uneven : 0 < length s → (length s ≡ step_count → ⊥) → steps_refusal s ≡ 14
  loaded_uneven h e = tested s h ∙ ap (λ (t : Bool). cond (t && falling most_percent s) 0 14) (ne_eqb (length s) step_count e)

  pub loaded_rising : length s ≡ step_count → false ≡ falling most_percent s → steps_refusal s ≡ 14
  loaded_rising e f = tested s (omega arith) ∙ (λ i. cond (eq-eqb (length s) step_count e i && sym f i) 0 14)

  pub loaded_passes : length s ≡ step_count → true ≡ falling most_percent s → steps_refusal s ≡ 0
  loaded_passes e f = tested s (omega arith) ∙ (λ i. cond (eq-eqb (length s) step_count e i && sym f i) 0 14)

  -- such steps serve, and are all of their eight bytes
  pub loaded_serve : length s ≡ step_count → number_of (take 8 (drop 0 s)) ≡ number_of (steps_in_force s)
  loaded_serve e = ap number_of (take_all 8 s (omega arith) ∙ go s (omega arith))
    where
      go : (t : List ℕ) → 0 < length t → t ≡ steps_in_force t
      go [] h = absurd (omega arith)
      go (p ∷ rest) h = refl

-- WHICH STEPS ARE ACCEPTED: none loaded, or eight of 1 to 100 none of which exceeds the one before it; every other list is refused by 14
pub steps_accepted : (loaded : List ℕ) → steps_refusal loaded ≡ 0 → StepsAccepted loaded
unfolding steps_refusal
steps_accepted [] e = none_loaded
steps_accepted (p ∷ rest) e = fit (good_fit (p ∷ rest) (picked _ (lit< tt) e))

pub steps_fitting : {loaded : List ℕ} → StepsAccepted loaded → steps_refusal loaded ≡ 0
unfolding steps_refusal
steps_fitting none_loaded = refl
steps_fitting (fit {loaded = []} f) = refl
steps_fitting (fit {loaded = p ∷ rest} f) = rw (fit_good (p ∷ rest) f)

pub steps_refused : (loaded : List ℕ) → 0 < steps_refusal loaded → steps_refusal loaded ≡ 14
unfolding steps_refusal
steps_refused [] h = absurd (omega arith)
steps_refused (p ∷ rest) h = go (eqb (length (p ∷ rest)) step_count && falling most_percent (p ∷ rest)) h
  where
    go : (t : Bool) → 0 < cond t 0 14 → ◌≡◌ {A = ℕ} (cond t 0 14) 14
    go true g = absurd (omega arith)
    go false g = refl

-- One byte more than good steps have shows that a list is too long: who looks at no more than nine answers as of the whole list.
pub steps_cut : (loaded : List ℕ) (n : ℕ) → step_count < n → steps_refusal (take n loaded) ≡ steps_refusal loaded
steps_cut loaded n h = go (dec_lt (length loaded) n)
  where
    go : Dec (length loaded < n) → steps_refusal (take n loaded) ≡ steps_refusal loaded
    go (yes s) = ap steps_refusal (take_all n loaded (omega arith))
    go (no l) =
        let cut : length (take n loaded) ≡ n = length-take-le n loaded (omega arith) in
        loaded_uneven (take n loaded) (omega arith) (λ e. omega arith) ∙ sym (loaded_uneven loaded (omega arith) (λ e. omega arith))

-- the built-in steps are such, so those that serve always are
pub in_force_fit : (loaded : List ℕ) → steps_refusal loaded ≡ 0 → StepsFit (steps_in_force loaded)
unfolding falling
in_force_fit [] e = good_fit built_in_steps refl
in_force_fit (p ∷ rest) e = go (steps_accepted (p ∷ rest) e)
  where
    go : StepsAccepted (p ∷ rest) → StepsFit (p ∷ rest)
    go (fit f) = f

-- the number of one byte
one_byte : (s : List ℕ) (k : ℕ) → k < length s → number_of (take 1 (drop k s)) ≡ get_or s k 0
unfolding number_of joined
one_byte s k h = rw (drop-cons s k 0 h) (omega arith)

-- step k of eight bytes as a number
step_at : (s : List ℕ) → StepsFit s → (k : ℕ) → k < step_count → part_of (number_of s) (8 * (7 - k)) 8 ≡ get_or s k 0
step_at s f k h =
    let eight = f.eight in
    let behind : 8 * (length s - (k + 1)) ≡ 8 * (7 - k) = omega arith in
    let bytes : Bytes s = record { each = λ i. byte i (dec_lt i step_count) } in
    rw behind at (sym (number_part k 1 bytes (omega arith)) ∙ one_byte s k (omega arith))
  where
    byte : (i : ℕ) → Dec (i < step_count) → get_or s i 0 < 256
    byte i (yes h) = omega (arith, (f.in_range i h).1)
    byte i (no h) = omega (arith, f.eight, get_or-eq_default s 0 {n = i} (omega (arith, f.eight)))

-- THE PERCENT OF A SPEED is the loaded percentage of its step, the built-in one where none are loaded
pub percent_is : (l : Limits) (loaded : List ℕ) (v : ℕ) → steps_refusal loaded ≡ 0 → v ≤ most_feed
    → torque_percent (machine_of l loaded).torque v ≡ get_or (steps_in_force loaded) ((v - 1) / 125_000) 0
unfolding torque_percent
percent_is l loaded v e h = step_at (steps_in_force loaded) (in_force_fit loaded e) ((v - 1) / 125_000) (omega arith)

-- with no steps loaded it is document 01's
pub built_in_percents : (l : Limits) (v : ℕ) → v ≤ most_feed → torque_percent (machine_of l []).torque v ≡ get_or built_in_steps ((v - 1) / 125_000) 0
built_in_percents l v h = percent_is l [] v steps_none h

-- it is 1 to 100
pub percent_in_range : (l : Limits) (loaded : List ℕ) (v : ℕ) → steps_refusal loaded ≡ 0 → v ≤ most_feed
    → (least_percent ≤ torque_percent (machine_of l loaded).torque v) × (torque_percent (machine_of l loaded).torque v ≤ most_percent)
percent_in_range l loaded v e h = rw (percent_is l loaded v e h) ((in_force_fit loaded e).in_range ((v - 1) / 125_000) (omega arith))

-- so every axis allows the acceleration
pub steps_allowed : (l : Limits) (loaded : List ℕ) (b : Block) → limits_refusal l ≡ 0 → steps_refusal loaded ≡ 0 → block_refusal b ≡ 0
    → AccelFits l b (accel_of (machine_of l loaded) b)
steps_allowed l loaded b h e g =
    let v = speed_of l b in
    let slow : v ≤ most_feed = omega (arith, (speed_largest l b).has.0, (in_range b g).feed_below) in
    accel_allowed (machine_of l loaded) b h g (percent_in_range l loaded v e slow).1
