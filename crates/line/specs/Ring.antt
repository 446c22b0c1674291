-- The ring of 64 places that holds a line and the ring of its stairs, number by number as they stand in memory, and what a call answers and leaves there.
-- Every content of the memory has an answer; what is read is cut to the size that the arithmetic takes.
use Rattle.std.specs.Prelude.{List, ◌∷◌, [], Bool, cond, ℕ, zero, suc, ◌+◌, ◌-◌, ◌%◌, ◌^◌, min, eqb, get_or, set}
use Rattle.fields.specs.Signed.{signed_of, bits_of}
use Rattle.profile.specs.declared.Span.{Span}
use Rattle.profile.specs.Passes.{exit_from, forward}
use Rattle.profile.specs.declared.Stay.{Stay}
use Rattle.profile.specs.Stairs.{Stair, stair, no_stair, stay_from}
use Rattle.machine.specs.Labels.{labelled_block, label_of}
use Rattle.machine.specs.Numbers.{numbers_of, junction_from}
use Rattle.machine.specs.declared.Axes.{Axes}
use Rattle.machine.specs.declared.Limits.{Limits}
use Rattle.machine.specs.declared.Machine.{Machine}
use Rattle.machine.specs.declared.Block.{Block}
use Rattle.machine.specs.declared.Numbers.{Numbers}
use Rattle.line.specs.declared.Given.{Given}
use Rattle.line.specs.Answers.{Answer, gave, refused, answer_by, given_between}
use Rattle.line.specs.Blocks.{most_held, Call, add, take, add_refusal}

-- one place: a block, its numbers, and the cap of the junction where it begins. A move is kept as a word of 64 bits.
pub record Place : Type 0 where
  pub x : ℕ
  pub y : ℕ
  pub z : ℕ
  pub feed : ℕ
  pub radius : ℕ
  pub label : ℕ
  pub length : ℕ
  pub accel : ℕ
  pub reach : ℕ
  pub cap : ℕ
  pub junction : ℕ

-- the memory of a planner
pub record Ring : Type 0 where
  pub machine : Machine
  -- the place of the first block, how many blocks are held, the committed squared speed
  pub first : ℕ
  pub count : ℕ
  pub committed : ℕ
  -- where the first stair stands, how many stairs stand before the line's end, the reaches of all blocks held together
  pub first_stair : ℕ
  pub stairs_before : ℕ
  pub total : ℕ
  pub places : List Place
  pub stairs : List Stair

abbrev pub no_place : Place
no_place = record { x = 0; y = 0; z = 0; feed = 0; radius = 0; label = 0; length = 0; accel = 0; reach = 0; cap = 0; junction = 0 }

-- the limits as they are used
abbrev pub cut_axes : Axes → Axes
cut_axes a = record { x = a.x % 2 ^ 32; y = a.y % 2 ^ 32; z = a.z % 2 ^ 32 }

abbrev pub cut_limits : Limits → Limits
cut_limits l =
    record {
      accel = cut_axes l.accel;
      speed = cut_axes l.speed;
      jump = l.jump % 2 ^ 32;
      chord = l.chord % 2 ^ 32;
      tick = l.tick % 2 ^ 32;
    }

abbrev pub cut_machine : Machine → Machine
cut_machine m = record { limits = cut_limits m.limits; torque = m.torque }

-- block k of those held, block 0 the first
abbrev pub slot : Ring → ℕ → ℕ
slot r k = (r.first + k) % most_held

abbrev pub place_at : Ring → ℕ → Place
place_at r k = get_or r.places (slot r k) no_place

-- stair j of the line, stair 0 the first; the line's end stands behind the last
abbrev pub stair_slot : Ring → ℕ → ℕ
stair_slot r j = (r.first_stair + j) % most_held

abbrev pub stair_at : Ring → ℕ → Stair
stair_at r j = get_or r.stairs (stair_slot r j) no_stair

-- the block of a place, by the low bits of its moves
abbrev pub block_by : (width : ℕ) → Place → Block
block_by width p = labelled_block (signed_of width p.x) (signed_of width p.y) (signed_of width p.z) p.feed p.radius p.label

-- by whole words; and by 21 bits, as a corner is worked out from it
abbrev pub block_in : Place → Block
block_in = block_by 64

abbrev pub cut_block : Place → Block
cut_block = block_by 21

abbrev pub numbers_in : Place → Numbers
numbers_in p = record { length = p.length; accel = p.accel; reach = p.reach; cap = p.cap }

-- a block with its numbers as a place
abbrev pub place_of : Block → Numbers → (junction : ℕ) → Place
place_of b n junction =
    record {
      x = bits_of 64 b.x;
      y = bits_of 64 b.y;
      z = bits_of 64 b.z;
      feed = b.feed;
      radius = b.radius;
      label = label_of b;
      length = n.length;
      accel = n.accel;
      reach = n.reach;
      cap = n.cap;
      junction = junction;
    }

-- the number told
abbrev pub told_of : Ring → ℕ
told_of r = min r.count most_held

-- a place's numbers as a junction cap is worked out from them
abbrev pub cut_numbers : Place → Numbers
cut_numbers p = record { length = p.length % 2 ^ 30; accel = p.accel; reach = p.reach; cap = p.cap }

-- the cap of the junction between a held block and a new one
unfoldable pub junction_after : (jump : ℕ) → Place → Block → Numbers → ℕ
junction_after jump p b n = junction_from jump (cut_block p) (cut_numbers p) b n

-- the same for the block after all held ones; the first block of a line begins at junction 0, which has none
abbrev pub new_junction : Ring → Block → ℕ
new_junction r b =
    let m = cut_machine r.machine in
    cond (eqb r.count 0) 0 (junction_after m.limits.jump (place_at r (r.count - 1)) b (numbers_of m b))

-- the stairs that stay where a junction with a cap is put behind them
abbrev pub stay_in : Ring → (cap : ℕ) → Stay
stay_in r cap = let s = r.stairs_before % most_held in stay_from (stair_at r) s (((stair_at r s).gap + cap) % 2 ^ 64)

-- the ring with other stairs
abbrev pub with_stairs : Ring → (before total : ℕ) → List Stair → Ring
with_stairs r before total stairs =
    record {
      machine = r.machine;
      first = r.first;
      count = r.count;
      committed = r.committed;
      first_stair = r.first_stair;
      stairs_before = before;
      total = total;
      places = r.places;
      stairs = stairs;
    }

-- the line's end behind so many stairs, a reach after the last, and the total of the reaches
abbrev pub ended : Ring → (before reach total : ℕ) → Ring
ended r before reach total = with_stairs r before total (set r.stairs (stair_slot r before) (stair reach 0))

-- the stairs of a block's junction and of its end, put behind those that stay. The first block of a line has its end alone.
abbrev pub climbed : (held : ℕ) → Ring → (cap reach : ℕ) → Ring
climbed zero r cap reach = ended r 0 reach reach
climbed (suc n) r cap reach =
    let w = stay_in r cap in
    ended (with_stairs r r.stairs_before r.total (set r.stairs (stair_slot r w.count) (stair (w.allows - cap) cap))) (w.count + 1) reach ((r.total + reach) % 2 ^ 64)

-- the ring with a place behind those held
abbrev pub placed_last : Ring → Place → Ring
placed_last r p =
    record {
      machine = r.machine;
      first = r.first;
      count = r.count + 1;
      committed = r.committed;
      first_stair = r.first_stair;
      stairs_before = r.stairs_before;
      total = r.total;
      places = set r.places (slot r r.count) p;
      stairs = r.stairs;
    }

-- a block put last
unfoldable pub put_last : Ring → Block → Ring
put_last r b =
    let n = numbers_of (cut_machine r.machine) b in
    let junction = new_junction r b in
    climbed r.count (placed_last r (place_of b n junction)) junction n.reach

abbrev pub added_in : ℕ → Ring → Block → Ring
added_in zero r b = put_last r b
added_in (suc n) r b = r

-- the greatest squared speed where the line begins from which it can brake: by its first stair, and by its end
abbrev pub start_in : Ring → ℕ
start_in r = min r.total ((stair_at r 0).gap + (stair_at r 0).cap)

-- the exit of the first block
abbrev pub exit_in : Ring → ℕ
exit_in r = exit_from r.committed (place_at r 0).reach (start_in r - (place_at r 0).reach)

-- the first block given out
unfoldable pub given_in : Ring → Given
given_in r = given_between (block_in (place_at r 0)) (numbers_in (place_at r 0)) r.committed (exit_in r)

-- the stairs without the reach of the first block: the first gap falls by it, and the first stair goes where nothing is left of its gap
abbrev pub lowered_by : (gone : Bool) → Ring → (reach left : ℕ) → Ring
lowered_by gone r reach left =
    record {
      machine = r.machine;
      first = r.first;
      count = r.count;
      committed = r.committed;
      first_stair = cond gone ((r.first_stair + 1) % most_held) r.first_stair;
      stairs_before = cond gone (r.stairs_before - 1) r.stairs_before;
      total = r.total - reach;
      places = r.places;
      stairs = cond gone r.stairs (set r.stairs (stair_slot r 0) (stair left (stair_at r 0).cap));
    }

abbrev pub lowered : Ring → (reach : ℕ) → Ring
lowered r reach = let left = (stair_at r 0).gap - reach in lowered_by (eqb left 0) r reach left

-- the ring behind the first block
abbrev pub moved : Ring → (first count committed : ℕ) → Ring
moved r first count committed =
    record {
      machine = r.machine;
      first = first;
      count = count;
      committed = committed;
      first_stair = r.first_stair;
      stairs_before = r.stairs_before;
      total = r.total;
      places = r.places;
      stairs = r.stairs;
    }

-- what is held after the first block was given out
unfoldable pub taken_from : Ring → Ring
taken_from r = moved (lowered r (place_at r 0).reach) ((r.first + 1) % most_held) (r.count - 1) (exit_in r)

abbrev pub taken_answer : (count : ℕ) → Ring → Answer
taken_answer zero r = refused 8
taken_answer (suc n) r = gave (given_in r)

abbrev pub taken_in : (count : ℕ) → Ring → Ring
taken_in zero r = r
taken_in (suc n) r = taken_from r

-- what each call answers and leaves
unfoldable pub ring_answer : Ring → Call → Answer
ring_answer r (add b) = answer_by (add_refusal r.count b)
ring_answer r take = taken_answer r.count r

unfoldable pub ring_after : Ring → Call → Ring
ring_after r (add b) = added_in (add_refusal r.count b) r b
ring_after r take = taken_in r.count r

-- the cap of the junction where block k begins; the first block's is never read
abbrev pub cap_in : Ring → ℕ → ℕ
cap_in r zero = 0
cap_in r (suc k) = (place_at r (suc k)).junction

-- what a profile knows of n blocks, from block k of those held on
unfoldable pub spans_in : Ring → (n k : ℕ) → List Span
spans_in r zero k = []
spans_in r (suc n) k = record { cap = cap_in r k; reach = (place_at r k).reach } ∷ spans_in r n (suc k)

-- the plan shown: the two passes over the blocks held
abbrev pub shown_in : Ring → List ℕ
shown_in r = forward r.committed (spans_in r (told_of r) 0)

-- refusal 11, or 0
abbrev pub show_refusal : Ring → (listLength : ℕ) → ℕ
show_refusal r n = cond (eqb n (told_of r + 1)) 0 11

-- after a list of calls: the answers and the ring
unfoldable pub ring_answers : Ring → List Call → List Answer
ring_answers r [] = []
ring_answers r (c ∷ calls) = ring_answer r c ∷ ring_answers (ring_after r c) calls

unfoldable pub ring_after_all : Ring → List Call → Ring
ring_after_all r [] = r
ring_after_all r (c ∷ calls) = ring_after_all (ring_after r c) calls

-- a fresh planner: its places and stairs hold whatever they held
abbrev pub fresh_ring : Machine → List Place → List Stair → Ring
fresh_ring m places stairs =
    record { machine = m; first = 0; count = 0; committed = 0; first_stair = 0; stairs_before = 0; total = 0; places = places; stairs = stairs }
