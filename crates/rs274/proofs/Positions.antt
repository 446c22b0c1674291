-- How large positions, lengths and moves are, and that the code's numbers are theirs. From arith's laws of signed numbers.
use mathlib.Core.Path.{◌≡◌, refl, sym, ap, subst, ◌∙◌}
use mathlib.Core.Bool.{Bool, true, false, ◌&&◌}
use Prim.Native.Nat.{ℕ, ◌+◌, ◌*◌, ◌/◌, ◌^◌, ◌≤◌, ◌<◌, max}
use native.Mathlib.Omega.{arith}
use borrow.Author.Tests.{ltb-true, eqb-true, eqb-false, eq-eqb, ne_eqb}
use lib.Dec.{eqb}
use lib.IntN.{ℤ, pos, negsuc, nat_abs, ◌+ℤ◌, ◌-ℤ◌, ◌*ℤ◌, -ℤ-+ℤ_cancel, +ℤ_idl}
use Rattle.std.specs.Prelude.{Option, Some, None}
use Rattle.std.specs.Option.{is_some, unwrap_or}
use lib.Signed.{lt_z}
use Rattle.arith.specs.Signed.{signed_by}
use mir.Syntax.{w64}
use mir.Val.{SFits}
use Rattle.arith.proofs.SignedLaws.{fits_small, read_back, small_back, nat_abs_neg, nat_abs_sum, nat_abs_minus, nat_abs_product}
use Rattle.machine.specs.Labels.{plain_block}
use Rattle.machine.specs.Ranges.{most_move}
use Rattle.machine.specs.declared.Block.{Block}
use Rattle.tape.specs.Answers.{most_blocks}
use Rattle.words.specs.Number.{parts}
use Rattle.words.proofs.SlotLaws as slots
use mathlib.Core.List.{List}
use lib.ListN.{get_or}
use Rattle.words.specs.Words.{Words, words_in, motion_slot, x_slot, y_slot, z_slot}
use Rattle.words.specs.Number.{most_number}
use Rattle.rs274.specs.Bounds.{WordsWithin, Within}
use Rattle.rs274.specs.Kept.{Near}
use Rattle.rs274.specs.Modal.{stands_in, value_in, unit_of, length_in, position_of, feed_of, modal_after, inches_after, incremental_after, rounded_of, move_of, chosen_by, feed_by, position_after, feed_in_force, block_between}
use Rattle.rs274.specs.declared.Modal.{Modal}

-- A number that is a small one is read back as that.
pub back_as : (r z : ℤ) → nat_abs z < 2 ^ 63 → r ≡ z → read_back r ≡ z
back_as r z h e = ap read_back e ∙ small_back z h

-- A word's number is read back as it is.
pub word_back : (v : ℤ) → nat_abs v ≤ most_number → read_back v ≡ v
word_back v h = small_back v (omega arith)

-- The size of a number with a sign, and of a rounded position.
signed_size : (t : Bool) (n : ℕ) → nat_abs (signed_by t n) ≡ n
signed_size true n = nat_abs_neg (pos n)
signed_size false n = refl

pub rounded_size : (z : ℤ) → nat_abs (rounded_of z) ≡ (nat_abs z + 50) / 100
unfolding rounded_of
rounded_size z = signed_size (lt_z z (pos 0)) ((nat_abs z + 50) / 100)

-- A position is at most half a µm from its rounded one, and the rounded one is small where it is.
pub position_near : (z : ℤ) → nat_abs z ≤ 100 * nat_abs (rounded_of z) + 50
position_near z = rw (rounded_size z) (near (nat_abs z))
  where
    near : (n : ℕ) → n ≤ 100 * ((n + 50) / 100) + 50
    near n = omega arith

pub rounded_small : (z : ℤ) → nat_abs z < 2 ^ 41 → nat_abs (rounded_of z) < 2 ^ 40
rounded_small z h = rw (rounded_size z) (small (nat_abs z) h)
  where
    small : (n : ℕ) → n < 2 ^ 41 → (n + 50) / 100 < 2 ^ 40
    small n h = omega arith

-- What the code has for rounded positions, for their difference, and for the move.
pub rounded_back : (r z : ℤ) → nat_abs z < 2 ^ 41 → r ≡ rounded_of z → read_back r ≡ rounded_of z
rounded_back r z h e = back_as r (rounded_of z) (omega (arith, rounded_small z h)) e

module _ (p q before after : ℤ) (h : nat_abs before < 2 ^ 41) (g : nat_abs after < 2 ^ 41) (e : p ≡ rounded_of after) (f : q ≡ rounded_of before) where
  move_is : read_back p -ℤ read_back q ≡ move_of before after
  move_is = λ i. rounded_back p after g e i -ℤ rounded_back q before h f i

  move_small : nat_abs (move_of before after) < 2 ^ 63
  move_small = omega (arith, nat_abs_minus (rounded_of after) (rounded_of before), rounded_small after g, rounded_small before h)

  pub move_fits : SFits w64 (read_back p -ℤ read_back q)
  move_fits = subst (SFits w64) (sym move_is) (fits_small (move_of before after) move_small)

  pub move_back : read_back (read_back p -ℤ read_back q) ≡ move_of before after
  move_back = back_as (read_back p -ℤ read_back q) (move_of before after) move_small move_is

-- The move from one position as the code passes it to another.
axis_back : (r before after : ℤ) → nat_abs before < 2 ^ 41 → nat_abs after < 2 ^ 41 → r ≡ move_of (read_back before) (read_back after) → read_back r ≡ move_of before after
axis_back r before after h g e =
    back_as r (move_of before after) (omega (arith, nat_abs_minus (rounded_of after) (rounded_of before), rounded_small after g, rounded_small before h))
    (e ∙ (λ i. move_of (small_back before (omega arith) i) (small_back after (omega arith) i)))

-- A rounded position is at most the move to it away from the one before.
pub moved_near : (before after : ℤ) → nat_abs (rounded_of after) ≤ nat_abs (move_of before after) + nat_abs (rounded_of before)
moved_near before after =
    subst (λ (z : ℤ). nat_abs z ≤ nat_abs (move_of before after) + nat_abs (rounded_of before)) (-ℤ-+ℤ_cancel (rounded_of after) (rounded_of before))
    (nat_abs_sum (move_of before after) (rounded_of before))

-- The unit, and a word's number times it.
pub unit_small : (inches : Bool) → unit_of inches ≤ 25_400
unit_small true = omega arith
unit_small false = omega arith

length_product : (inches : Bool) (v : ℤ) → nat_abs v ≤ most_number → nat_abs v * (unit_of inches * 100 / 10_000) < 2 ^ 38
length_product true v h = omega arith
length_product false v h = omega arith

pub length_small : (inches : Bool) (v : ℤ) → nat_abs v ≤ most_number → nat_abs (length_in inches v) < 2 ^ 38
unfolding length_in
length_small inches v h = rw (nat_abs_product v (pos (unit_of inches * 100 / 10_000))) (length_product inches v h)

-- What the code has for a length.
pub length_back : (inches : Bool) (v scale : ℤ) → nat_abs v ≤ most_number → scale ≡ pos (unit_of inches * 100 / 10_000)
    → read_back (read_back v *ℤ scale) ≡ length_in inches v
unfolding length_in
length_back inches v scale h e =
    back_as (read_back v *ℤ scale) (v *ℤ pos (unit_of inches * 100 / 10_000))
    (rw (nat_abs_product v (pos (unit_of inches * 100 / 10_000))) (omega (arith, length_product inches v h)))
    (λ i. word_back v h i *ℤ e i)

-- A position behind a line, by its cases, and how large it is.
module _ (inches incremental : Bool) (before : ℤ) (word : Option ℤ) where
  abbrev after : ℤ
  after = position_of inches incremental before (is_some word) (unwrap_or word (pos 0))

  pub position_stays : word ≡ None → before ≡ after
  unfolding position_of
  position_stays e = rw e

  module _ {v : ℤ} (e : word ≡ Some v) where
    pub position_on : incremental ≡ true → before +ℤ length_in inches v ≡ after
    unfolding position_of
    position_on f = rw (e, f)

    pub position_to : incremental ≡ false → length_in inches v ≡ after
    unfolding position_of
    position_to f = rw (e, f) (sym (+ℤ_idl (length_in inches v)))

pub position_small : (inches incremental : Bool) (before : ℤ) (stands : Bool) (v : ℤ) → nat_abs before < 2 ^ 40 → nat_abs v ≤ most_number
    → nat_abs (position_of inches incremental before stands v) < 2 ^ 41
unfolding position_of
position_small inches incremental before false v h g = omega arith
position_small inches true before true v h g = omega (arith, nat_abs_sum before (length_in inches v), length_small inches v g)
position_small inches false before true v h g = omega (arith, nat_abs_sum (pos 0) (length_in inches v), length_small inches v g)

-- What the code has for it, and for the position before it.
position_back : (inches incremental : Bool) (before : ℤ) (stands : Bool) (v r : ℤ) → nat_abs before < 2 ^ 40 → nat_abs v ≤ most_number
    → r ≡ position_of inches incremental (read_back before) stands v → read_back r ≡ position_of inches incremental before stands v
position_back inches incremental before stands v r h g e =
    back_as r (position_of inches incremental before stands v) (omega (arith, position_small inches incremental before stands v h g))
    (e ∙ (λ i. position_of inches incremental (small_back before (omega arith) i) stands v))

pub place_fits : (z : ℤ) → nat_abs z < 2 ^ 40 → nat_abs (read_back z) < 2 ^ 40
place_fits z h = rw (small_back z (omega arith)) h

-- What the code has for the sum of a position and a length.
module _ (inches : Bool) (from v r : ℤ) (h : nat_abs from < 2 ^ 40) (g : nat_abs v ≤ most_number) (e : r ≡ length_in inches v) where
  pub part_back : read_back r ≡ length_in inches v
  part_back = back_as r (length_in inches v) (omega (arith, length_small inches v g)) e

  sum_is : read_back from +ℤ read_back r ≡ from +ℤ length_in inches v
  sum_is = λ i. small_back from (omega arith) i +ℤ part_back i

  sum_small : nat_abs (from +ℤ length_in inches v) < 2 ^ 63
  sum_small = omega (arith, nat_abs_sum from (length_in inches v), length_small inches v g)

  pub sum_fits : SFits w64 (read_back from +ℤ read_back r)
  sum_fits = subst (SFits w64) (sym sum_is) (fits_small (from +ℤ length_in inches v) sum_small)

  pub sum_back : read_back (read_back from +ℤ read_back r) ≡ from +ℤ length_in inches v
  sum_back = back_as (read_back from +ℤ read_back r) (from +ℤ length_in inches v) sum_small sum_is

-- A feed by the sign of its number.
pub feed_negative : (inches : Bool) (v : ℤ) → lt_z v (pos 0) ≡ true → 0 ≡ feed_of inches v
unfolding feed_of
feed_negative inches (pos n) e = absurd (omega (arith, ltb-true n 0 e))
feed_negative true (negsuc n) e = refl
feed_negative false (negsuc n) e = refl

pub feed_positive : (inches : Bool) (v : ℤ) → lt_z v (pos 0) ≡ false → nat_abs v * unit_of inches / 600_000 ≡ feed_of inches v
unfolding feed_of
feed_positive inches (pos n) e = refl
feed_positive inches (negsuc n) e = let z : ◌≡◌ {A = ℕ} 0 1 = cc in absurd (omega arith)

-- Near what so many blocks moved, positions are within 2^40, and behind a line within 2^41.
near_place : (count : ℕ) (z : ℤ) → count ≤ most_blocks → nat_abs (rounded_of z) ≤ most_move * count → nat_abs z < 2 ^ 40
near_place count z h g = omega (arith, position_near z)

pub near_within : {count : ℕ} {m : Modal} → count ≤ most_blocks → Near count m → Within (2 ^ 40) m
near_within {count} {m} h n =
    record {
      x = near_place count m.x h n.x;
      y = near_place count m.y h n.y;
      z = near_place count m.z h n.z;
    }

pub within_more : {m : Modal} → Within (2 ^ 40) m → Within (2 ^ 41) m
within_more {m} w = record { x = omega (arith, w.x); y = omega (arith, w.y); z = omega (arith, w.z) }

pub within_after : (m : Modal) (w : Words) → WordsWithin w → Within (2 ^ 40) m → Within (2 ^ 41) (modal_after m w)
unfolding modal_after
within_after m w h n =
    record {
      x = position_small (inches_after m w) (incremental_after m w) m.x (stands_in w x_slot) (value_in w x_slot) n.x (h x_slot);
      y = position_small (inches_after m w) (incremental_after m w) m.y (stands_in w y_slot) (value_in w y_slot) n.y (h y_slot);
      z = position_small (inches_after m w) (incremental_after m w) m.z (stands_in w z_slot) (value_in w z_slot) n.z (h z_slot);
    }

-- What the code asks of a slot's word is what its slot says, and its number is small.
module _ (l : List (Option ℤ)) (k : ℕ) where
  abbrev word : Option ℤ
  word = get_or l k None

  pub of_slot : {A : Type 0} (f : Bool → ℤ → A) → f (is_some word) (unwrap_or word (pos 0)) ≡ f (stands_in (words_in l) k) (value_in (words_in l) k)
  of_slot f = λ i. f (sym (slots.stands_in l k) i) (sym (slots.value_in l k) i)

  pub slot_small : WordsWithin (words_in l) → nat_abs (unwrap_or word (pos 0)) ≤ most_number
  slot_small h = subst (λ (z : ℤ). nat_abs z ≤ most_number) (slots.value_in l k) (h k)

-- What the code has for each field is what is in force behind a line,
module _ (m : Modal) (w : Words) (small : WordsWithin w) (near : Within (2 ^ 40) m) (inches incremental : Bool) (unit : inches ≡ inches_after m w) (way : incremental ≡ incremental_after m w) where
  axis_after : (k : ℕ) (before r : ℤ) → nat_abs before < 2 ^ 40 → r ≡ position_of inches incremental (read_back before) (stands_in w k) (value_in w k)
      → read_back r ≡ position_after m w k before
  axis_after k before r h e =
      position_back inches incremental before (stands_in w k) (value_in w k) r h (small k) e
      ∙ (λ i. position_of (unit i) (way i) before (stands_in w k) (value_in w k))

  pub modal_is : (rapid : Bool) (x y z : ℤ) (feed : ℕ) → rapid ≡ chosen_by w motion_slot (0 * parts) m.rapid
      → x ≡ position_of inches incremental (read_back m.x) (stands_in w x_slot) (value_in w x_slot)
      → y ≡ position_of inches incremental (read_back m.y) (stands_in w y_slot) (value_in w y_slot)
      → z ≡ position_of inches incremental (read_back m.z) (stands_in w z_slot) (value_in w z_slot) → feed ≡ feed_by w inches m.feed
      → record { inches = inches; incremental = incremental; rapid = rapid; x = read_back x; y = read_back y; z = read_back z; feed = feed } ≡ modal_after m w
  unfolding modal_after
  modal_is rapid x y z feed motion ex ey ez fed =
      λ i.
      record {
        inches = unit i;
        incremental = way i;
        rapid = motion i;
        x = axis_after x_slot m.x x near.x ex i;
        y = axis_after y_slot m.y y near.y ey i;
        z = axis_after z_slot m.z z near.z ez i;
        feed = (fed ∙ ap (λ (b : Bool). feed_by w b m.feed) unit) i;
      }

-- and for each move, the block between two positions.
pub block_is : (before after : Modal) (mark : ℕ) → Within (2 ^ 41) before → Within (2 ^ 41) after → (x y z : ℤ) (feed : ℕ) (b : Block)
    → x ≡ move_of (read_back before.x) (read_back after.x) → y ≡ move_of (read_back before.y) (read_back after.y)
    → z ≡ move_of (read_back before.z) (read_back after.z) → feed ≡ feed_in_force after
    → b ≡ plain_block (read_back x) (read_back y) (read_back z) feed 0 mark → b ≡ block_between before after mark
unfolding block_between
block_is before after mark h g x y z feed b ex ey ez fed is =
    is
    ∙ (λ i.
    plain_block (axis_back x before.x after.x h.x g.x ex i) (axis_back y before.y after.y h.y g.y ey i)
    (axis_back z before.z after.z h.z g.z ez i) (fed i) 0 mark)

-- A block moves nothing where no axis moves.
pub still : (a b c : ℕ) → (eqb a 0 && eqb b 0) && eqb c 0 ≡ eqb (max a (max b c)) 0
still a b c = by (eqb a 0) (eqb b 0) (eqb c 0) refl refl refl
  where
    by : (t u v : Bool) → eqb a 0 ≡ t → eqb b 0 ≡ u → eqb c 0 ≡ v → (t && u) && v ≡ eqb (max a (max b c)) 0
    by true true true e f g = sym (eq-eqb (max a (max b c)) 0 (omega (arith, eqb-true a 0 e, eqb-true b 0 f, eqb-true c 0 g)))
    by true true false e f g = sym (ne_eqb (max a (max b c)) 0 (λ z. eqb-false c 0 g (omega (arith, z))))
    by true false v e f g = sym (ne_eqb (max a (max b c)) 0 (λ z. eqb-false b 0 f (omega (arith, z))))
    by false u v e f g = sym (ne_eqb (max a (max b c)) 0 (λ z. eqb-false a 0 e (omega (arith, z))))
