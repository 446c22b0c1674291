-- A block put last and the first given out, in the numbers that the code reads. From the laws of the view.
use Rattle.std.proofs.Common.{◌≡◌, ℕ, ◌+◌, ◌-◌, ◌%◌, ◌^◌, ◌<◌, ◌≤◌, Bool, cond, eqb, List, length, set, ℤ, pos, negsuc, nat_abs, sym, ap, ◌∙◌, mod-lt, arith, lit<, ne_eqb}
use lib.Seq.{sets, length-sets}
use lib.Signed.{mag}
use Rattle.profile.specs.Passes.{exit_from}
use Rattle.fields.proofs.Signed.{signed_range}
use Rattle.fields.specs.Signed.{signed_of}
use Rattle.machine.specs.Checks.{moves_of}
use Rattle.machine.specs.Labels.{labelled_block}
use Rattle.machine.specs.Numbers.{AxesBelow, LimitsBelow, junction_from, numbers_of}
use Rattle.machine.specs.declared.Block.{Block}
use Rattle.machine.specs.declared.Limits.{Limits}
use Rattle.machine.specs.declared.Machine.{Machine}
use Rattle.machine.specs.declared.Numbers.{Numbers}
use Rattle.line.specs.Answers.{given_between}
use Rattle.line.specs.Blocks.{most_held}
use Rattle.line.specs.Ring.{cut_limits, cut_machine, cut_numbers, block_by, cut_block, place_of, put_last, block_in, numbers_in, junction_after, start_in, exit_in, given_in, lowered, moved, climbed, taken_from, Place, place_at, slot}
use Rattle.line.specs.declared.Given.{Given}
use Rattle.planner.specs.Calls.{Memory}
use Rattle.planner.specs.View.{numbers_for, memory_size, first_index, count_index, committed_index, base_of, place_from, view_of}
use Rattle.planner.proofs.View.{view_put, view_count, view_moved, ring_place}

-- One place further in a ring.
pub turned : (f : ℕ) → (f % most_held + 1) % most_held ≡ (f + 1) % most_held
turned f = omega arith

-- The junction between the last block held, whose place begins at `at`, and a new one.
pub junction_is : (m : List ℕ) (at jump : ℕ) (b : Block) (n : Numbers) (r : ℕ) (before : Block) (held : Numbers) → at ≡ base_of (slot (view_of m) ((view_of m).count - 1))
    → ((view_of m).count ≡ 0 → ⊥) → before ≡ cut_block (place_from m at) → held ≡ cut_numbers (place_from m at) → r ≡ junction_from jump before held b n
    → r ≡ cond (eqb (view_of m).count 0) 0 (junction_after jump (place_at (view_of m) ((view_of m).count - 1)) b n)
unfolding junction_after
junction_is m at jump b n r before held here some e f g =
    g
    ∙ (λ i. junction_from jump (e i) (f i) b n)
    ∙ ap (λ (p : Place). junction_after jump p b n) (ap (place_from m) here ∙ sym (ring_place m ((view_of m).count - 1)))
    ∙ sym (ap (λ (t : Bool). cond t 0 (junction_after jump (place_at (view_of m) ((view_of m).count - 1)) b n)) (ne_eqb _ _ some))

-- A run of stores keeps the memory's size.
pub still_sized : (m m₁ : List ℕ) (at : ℕ) (vs : List ℕ) → length m ≡ memory_size → m₁ ≡ sets m at vs → length m₁ ≡ memory_size
still_sized m m₁ at vs sized e = ap length e ∙ length-sets m at vs ∙ sized

-- A block put last: its place, then the count, then its stairs.
pub put_is : (m m₁ : List ℕ) (of : Machine) (b : Block) (n : Numbers) (junction at : ℕ) → length m ≡ memory_size
    → of ≡ cut_machine (view_of m).machine → n ≡ numbers_of of b
    → junction ≡ cond (eqb (view_of m).count 0) 0 (junction_after of.limits.jump (place_at (view_of m) ((view_of m).count - 1)) b n)
    → at ≡ base_of (slot (view_of m) (view_of m).count) → m₁ ≡ sets m at (numbers_for (place_of b n junction))
    → climbed (view_of m).count (view_of (set m₁ count_index ((view_of m).count + 1))) junction n.reach ≡ put_last (view_of m) b
unfolding put_last view_of
put_is m m₁ of b n junction at sized le ne je here stored =
    let count = (view_of m).count in
    let numbers = ne ∙ ap (λ (x : Machine). numbers_of x b) le in
    let joined = je ∙ (λ i. cond (eqb count 0) 0 (junction_after (le i).limits.jump (place_at (view_of m) (count - 1)) b (numbers i))) in
    let put = ap view_of stored ∙ (λ i. view_of (sets m (here i) (numbers_for (place_of b (numbers i) (joined i))))) ∙ view_put m count _ sized in
    let counted = view_count m₁ (count + 1) (still_sized m m₁ at (numbers_for (place_of b n junction)) sized stored) ∙ (λ i. moved (put i) (put i).first (count + 1) (put i).committed) in
    λ i. climbed count (counted i) (joined i) (numbers i).reach

-- A place's block, from its moves.
pub block_is : (width : ℕ) (p : Place) (b : Block) (x y z : ℤ) → b ≡ labelled_block x y z p.feed p.radius p.label
    → x ≡ signed_of width p.x → y ≡ signed_of width p.y → z ≡ signed_of width p.z → b ≡ block_by width p
block_is width p b x y z e ex ey ez = e ∙ (λ i. labelled_block (ex i) (ey i) (ez i) p.feed p.radius p.label)

-- A move of 21 bits is below 2^21, either way.
nat_abs_mag : (z : ℤ) → nat_abs z ≤ mag z + 1
nat_abs_mag (pos n) = omega arith
nat_abs_mag (negsuc n) = omega arith

move_below : (v : ℕ) → nat_abs (signed_of 21 v) < 2 ^ 21
move_below v = omega (arith, nat_abs_mag (signed_of 21 v), signed_range 21 v (lit< tt))

pub moves_in : (p : Place) → AxesBelow (2 ^ 21) (moves_of (cut_block p))
unfolding labelled_block
moves_in p = (move_below p.x, move_below p.y, move_below p.z)

-- The first block, whose place begins at `at`, and its exit.
module _ (m : List ℕ) (at exit : ℕ) (here : at ≡ base_of (slot (view_of m) 0)) (leaves : exit ≡ exit_from (view_of m).committed (place_from m at).reach (start_in (view_of m) - (place_from m at).reach)) where
  first_is : place_from m at ≡ place_at (view_of m) 0
  first_is = ap (place_from m) here ∙ sym (ring_place m 0)

  exit_is : exit ≡ exit_in (view_of m)
  exit_is = leaves ∙ ap (λ (p : Place). exit_from (view_of m).committed p.reach (start_in (view_of m) - p.reach)) first_is

  -- given out
  pub given_is : (out : Given) (b : Block) (n : Numbers) → b ≡ block_in (place_from m at) → n ≡ numbers_in (place_from m at) → out ≡ given_between b n (view_of m).committed exit
      → out ≡ given_in (view_of m)
  unfolding given_in
  given_is out b n e f g = g ∙ (λ i. given_between ((e ∙ ap block_in first_is) i) ((f ∙ ap numbers_in first_is) i) (view_of m).committed (exit_is i))

  -- and what is held after it
  pub taken_is : (m₁ : List ℕ) → Memory (lowered (view_of m) (place_from m at).reach) m₁
      → view_of (set (set (set m₁ first_index (((view_of m).first % most_held + 1) % most_held)) count_index ((view_of m).count - 1)) committed_index exit) ≡ taken_from (view_of m)
  unfolding taken_from
  taken_is m₁ low =
      view_moved m₁ _ _ _ low.sized
      ∙ (λ i. moved ((low.view ∙ ap (λ (p : Place). lowered (view_of m) p.reach) first_is) i) (turned (view_of m).first i) ((view_of m).count - 1) (exit_is i))

-- Limits as they are used are below 2^32.
pub limits_below : (l : Limits) → LimitsBelow (cut_limits l)
limits_below l = (
  (cut l.accel.x, cut l.accel.y, cut l.accel.z),
  (cut l.speed.x, cut l.speed.y, cut l.speed.z),
  cut l.jump,
  cut l.chord,
  cut l.tick,
)
  where
    cut : (v : ℕ) → v % 2 ^ 32 < 2 ^ 32
    cut v = mod-lt v (lit< tt)
