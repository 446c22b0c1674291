-- The stairs of a ring, in the numbers that the code reads and stores. From the laws of the view.
use Rattle.std.proofs.Common.{◌≡◌, ℕ, zero, suc, ◌+◌, ◌-◌, ◌%◌, ◌^◌, ◌<◌, ◌≤◌, Bool, true, false, leb, List, length, get_or, set, sym, ap, ◌∙◌, arith, length-set, eq-eqb, ne_eqb, le-leb}
use borrow.Author.Tests.{lt-leb}
use lib.Seq.{sets}
use Rattle.profile.specs.Passes.{brake_from}
use Rattle.profile.specs.declared.Stay.{Stay}
use Rattle.profile.specs.Stairs.{Stair, stair, stay_from}
use Rattle.line.specs.Blocks.{most_held}
use Rattle.line.specs.Ring.{Ring, stair_slot, stair_at, stay_in, with_stairs, ended, climbed, start_in, lowered_by, lowered}
use Rattle.planner.specs.Calls.{Memory}
use Rattle.planner.specs.View.{memory_size, first_stair_index, stairs_before_index, total_index, stair_base, stair_numbers, stair_in, view_of}
use Rattle.planner.proofs.Blocks.{turned, still_sized}
use Rattle.planner.proofs.View.{ring_stair, view_climbed, view_gap, view_ended, view_total, view_gone}

-- What is read of stair j, whose numbers begin at `at`.
module _ (m : List ℕ) (j at : ℕ) (here : at ≡ stair_base (stair_slot (view_of m) j)) where
  pub stair_is : stair (get_or m (at + 0) 0) (get_or m (at + 1) 0) ≡ stair_at (view_of m) j
  unfolding stair_in
  stair_is = ap (stair_in m) here ∙ sym (ring_stair m j)

  -- The ring after a stair was stored there.
  stored_is : (e : Stair) (m₁ : List ℕ) → length m ≡ memory_size → m₁ ≡ sets m at (stair_numbers e)
      → view_of m₁ ≡ with_stairs (view_of m) (view_of m).stairs_before (view_of m).total (set (view_of m).stairs (stair_slot (view_of m) j) e)
  unfolding view_of
  stored_is e m₁ sized stored = ap view_of stored ∙ (λ i. view_of (sets m (here i) (stair_numbers e))) ∙ view_climbed m j e sized

-- The line's end, stored with its number and the total.
pub ended_is : (m m₁ : List ℕ) (before reach total at : ℕ) → length m ≡ memory_size → at ≡ stair_base (stair_slot (view_of m) before)
    → m₁ ≡ sets m at (stair_numbers (stair reach 0)) → Memory (ended (view_of m) before reach total) (set (set m₁ stairs_before_index before) total_index total)
ended_is m m₁ before reach total at sized here stored =
    let size = still_sized m m₁ at (stair_numbers (stair reach 0)) sized stored in
    let put = stored_is m before at here (stair reach 0) m₁ sized stored in
    record {
      sized = length-set (set m₁ stairs_before_index before) total_index total ∙ length-set m₁ stairs_before_index before ∙ size;
      view = view_ended m₁ before total size ∙ (λ i. with_stairs (put i) before total (put i).stairs);
    }

-- A line's first block has its end alone,
pub climbed_first : (m m₁ : List ℕ) (held cap reach : ℕ) → held ≡ 0 → Memory (ended (view_of m) 0 reach reach) m₁ → Memory (climbed held (view_of m) cap reach) m₁
climbed_first m m₁ held cap reach e end = record { sized = end.sized; view = end.view ∙ ap (λ (n : ℕ). climbed n (view_of m) cap reach) (sym e) }

-- and each other has its junction behind the stairs that stay, and its end behind that.
pub climbed_more : (m m₁ m₂ : List ℕ) (held cap reach at gap total : ℕ) (w : Stay) → length m ≡ memory_size → 0 < held → w ≡ stay_in (view_of m) cap
    → at ≡ stair_base (stair_slot (view_of m) w.count) → gap ≡ w.allows - cap → m₁ ≡ sets m at (stair_numbers (stair gap cap))
    → total ≡ ((view_of m₁).total + reach) % 2 ^ 64 → Memory (ended (view_of m₁) (w.count + 1) reach total) m₂
    → Memory (climbed held (view_of m) cap reach) m₂
climbed_more m m₁ m₂ zero cap reach at gap total w sized some we here ge stored te end = absurd (omega arith)
climbed_more m m₁ m₂ (suc n) cap reach at gap total w sized some we here ge stored te end =
    let put = stored_is m w.count at here (stair gap cap) m₁ sized stored in
    let sum = te ∙ ap (λ (r : Ring). (r.total + reach) % 2 ^ 64) put in
    record {
      sized = end.sized;
      view =
          end.view
          ∙ (λ i. ended (put i) (w.count + 1) reach (sum i))
          ∙ (λ i. joined w.count (ge i))
          ∙ (λ i. joined (we i).count ((we i).allows - cap));
    }
  where
    joined : (count gap : ℕ) → Ring
    joined count gap =
        ended (with_stairs (view_of m) (view_of m).stairs_before (view_of m).total (set (view_of m).stairs (stair_slot (view_of m) count) (stair gap cap)))
        (count + 1) reach (((view_of m).total + reach) % 2 ^ 64)

-- What the first stair and the end allow.
pub start_is : (m : List ℕ) (at start : ℕ) → at ≡ stair_base (stair_slot (view_of m) 0) → start ≡ brake_from (view_of m).total (get_or m (at + 0) 0) (get_or m (at + 1) 0)
    → start ≡ start_in (view_of m)
start_is m at start here e = e ∙ ap (λ (s : Stair). brake_from (view_of m).total s.gap s.cap) (stair_is m 0 at here)

-- The stairs without the reach of the first block, once the total is stored.
module _ (m : List ℕ) (at reach left total : ℕ) (sized : length m ≡ memory_size) (here : at ≡ stair_base (stair_slot (view_of m) 0))
    (rest : left ≡ get_or m (at + 0) 0 - reach) (less : total ≡ (view_of m).total - reach) where
  abbrev begun : List ℕ
  begun = set m total_index total

  begun_sized : length begun ≡ memory_size
  begun_sized = length-set m total_index total ∙ sized

  begun_is : view_of begun ≡ with_stairs (view_of m) (view_of m).stairs_before ((view_of m).total - reach) (view_of m).stairs
  begun_is = view_total m total sized ∙ ap (λ (t : ℕ). with_stairs (view_of m) (view_of m).stairs_before t (view_of m).stairs) less

  left_is : left ≡ (stair_at (view_of m) 0).gap - reach
  left_is = rest ∙ ap (λ (e : Stair). e.gap - reach) (stair_is m 0 at here)

  -- The first stair goes,
  pub lowered_gone : (f n : ℕ) → left ≡ 0 → f ≡ ((view_of m).first_stair % most_held + 1) % most_held → n ≡ (view_of begun).stairs_before - 1
      → Memory (lowered (view_of m) reach) (set (set begun first_stair_index f) stairs_before_index n)
  lowered_gone f n z fe ne =
      let fewer = ne ∙ ap (λ (r : Ring). r.stairs_before - 1) begun_is in
      let one = fe ∙ turned (view_of m).first_stair in
      record {
        sized = length-set (set begun first_stair_index f) stairs_before_index n ∙ length-set begun first_stair_index f ∙ begun_sized;
        view =
            view_gone begun f n begun_sized
            ∙ (λ i.
            record {
              machine = (begun_is i).machine;
              first = (begun_is i).first;
              count = (begun_is i).count;
              committed = (begun_is i).committed;
              first_stair = one i;
              stairs_before = fewer i;
              total = (begun_is i).total;
              places = (begun_is i).places;
              stairs = (begun_is i).stairs;
            })
            ∙ ap (λ (b : Bool). lowered_by b (view_of m) reach ((stair_at (view_of m) 0).gap - reach)) (sym (eq-eqb _ _ (sym left_is ∙ z)));
      }

  -- or its gap falls.
  pub lowered_left : (left ≡ 0 → ⊥) → Memory (lowered (view_of m) reach) (set begun (at + 0) left)
  unfolding view_of
  lowered_left some =
      let place : at + 0 ≡ stair_base (stair_slot (view_of begun) 0) = omega (arith, here, ap (λ (r : Ring). stair_slot r 0) begun_is) in
      record {
        sized = length-set begun (at + 0) left ∙ begun_sized;
        view =
            (λ i. view_of (set begun (place i) left))
            ∙ view_gap begun 0 left begun_sized
            ∙ (λ i. with_stairs (begun_is i) (begun_is i).stairs_before (begun_is i).total (set (begun_is i).stairs (stair_slot (begun_is i) 0) (stair (left_is i) (stair_at (begun_is i) 0).cap)))
            ∙ ap (λ (b : Bool). lowered_by b (view_of m) reach ((stair_at (view_of m) 0).gap - reach)) (sym (ne_eqb _ _ (λ z. some (left_is ∙ z))));
      }

-- One step of the walk down the stairs, by its test.
stay_step : (at : ℕ → Stair) (n v : ℕ) (t : Bool) → leb v (at n).cap ≡ t
    → stay_from at (suc n) v ≡ elim t [ true ↦ stay_from at n ((v + (at n).gap) % 2 ^ 64) | false ↦ record { count = suc n; allows = v } ]
unfolding stay_from
stay_step at n v t e = ap (λ (b : Bool). elim b as (λ x. Stay) [ true ↦ stay_from at n ((v + (at n).gap) % 2 ^ 64) | false ↦ record { count = suc n; allows = v } ]) e

module _ (m : List ℕ) (s n v at : ℕ) (one : s ≡ suc n) (here : at ≡ stair_base (stair_slot (view_of m) n)) where
  -- It ends where the stair is not hidden,
  pub stay_ends : get_or m (at + 1) 0 < v → record { count = s; allows = v } ≡ stay_from (stair_at (view_of m)) s v
  stay_ends h =
      let low = ap (λ (e : Stair). e.cap) (stair_is m n at here) in
      rw one (sym (stay_step (stair_at (view_of m)) n v false (lt-leb v (stair_at (view_of m) n).cap (omega arith))))

  -- and goes on where it is.
  pub stay_goes_on : (v' : ℕ) → v ≤ get_or m (at + 1) 0 → v' ≡ (v + get_or m (at + 0) 0) % 2 ^ 64 → stay_from (stair_at (view_of m)) n v' ≡ stay_from (stair_at (view_of m)) s v
  stay_goes_on v' h e =
      let high = ap (λ (e : Stair). e.cap) (stair_is m n at here) in
      ap (stay_from (stair_at (view_of m)) n) (e ∙ ap (λ (e : Stair). (v + e.gap) % 2 ^ 64) (stair_is m n at here))
      ∙ sym (ap (λ (k : ℕ). stay_from (stair_at (view_of m)) k v) one ∙ stay_step (stair_at (view_of m)) n v true (le-leb v (stair_at (view_of m) n).cap (omega arith)))

-- It begins with the end, what the new junction allows there, and comes to the last stair.
pub stay_begins : (m : List ℕ) (s v at cap : ℕ) → s ≡ (view_of m).stairs_before % most_held → at ≡ stair_base (stair_slot (view_of m) s) → v ≡ (get_or m (at + 0) 0 + cap) % 2 ^ 64
    → stay_from (stair_at (view_of m)) s v ≡ stay_in (view_of m) cap
stay_begins m s v at cap e here ve =
    ap (stay_from (stair_at (view_of m)) s) (ve ∙ ap (λ (e : Stair). (e.gap + cap) % 2 ^ 64) (stair_is m s at here))
    ∙ (λ i. stay_from (stair_at (view_of m)) (e i) (((stair_at (view_of m) (e i)).gap + cap) % 2 ^ 64))

pub stay_none : (m : List ℕ) (s v : ℕ) → s ≡ 0 → record { count = s; allows = v } ≡ stay_from (stair_at (view_of m)) s v
unfolding stay_from
stay_none m s v e = rw e
