-- A planner's memory read as a ring: the numbers of the head, then those of each place, then those of each stair.
use Rattle.std.specs.Prelude.{ℕ, zero, suc, ◌+◌, ◌-◌, ◌*◌, List, [], ◌∷◌, slice_index}
use Rattle.profile.specs.Stairs.{Stair, stair}
use Rattle.machine.specs.Lists.{limits_from, limit_numbers, limits_size}
use Rattle.machine.specs.declared.Machine.{Machine}
use Rattle.line.specs.Blocks.{most_held}
use Rattle.line.specs.Ring.{Place, Ring}

-- numbers of the head; of a place; of a stair; of the memory
abbrev pub head_size : ℕ
head_size = 16

abbrev pub place_size : ℕ
place_size = 11

abbrev pub stair_size : ℕ
stair_size = 2

abbrev pub memory_size : ℕ
memory_size = head_size + place_size * most_held + stair_size * most_held

-- index of the first number of place i; of the last place
abbrev pub base_of : ℕ → ℕ
base_of i = head_size + place_size * i

abbrev pub last_base : ℕ
last_base = base_of (most_held - 1)

-- index of the first number of stair i; of the last stair
abbrev pub stair_base : ℕ → ℕ
stair_base i = base_of most_held + stair_size * i

abbrev pub last_stair : ℕ
last_stair = stair_base (most_held - 1)

-- indices in the head, after the limits
abbrev pub first_index : ℕ
first_index = limits_size

abbrev pub count_index : ℕ
count_index = 10

abbrev pub committed_index : ℕ
committed_index = 11

abbrev pub torque_index : ℕ
torque_index = 12

abbrev pub first_stair_index : ℕ
first_stair_index = 13

abbrev pub stairs_before_index : ℕ
stairs_before_index = 14

abbrev pub total_index : ℕ
total_index = 15

-- a place, and a stair, from its numbers by their offsets
abbrev pub place_by : (ℕ → ℕ) → Place
place_by number =
    record {
      x = number 0;
      y = number 1;
      z = number 2;
      feed = number 3;
      radius = number 4;
      label = number 5;
      length = number 6;
      accel = number 7;
      reach = number 8;
      cap = number 9;
      junction = number 10;
    }

abbrev pub stair_by : (ℕ → ℕ) → Stair
stair_by number = stair (number 0) (number 1)

-- the numbers of a place, and of a stair
abbrev pub numbers_for : Place → List ℕ
numbers_for p =
    p.x ∷ p.y ∷ p.z ∷ p.feed ∷ p.radius ∷ p.label ∷ p.length ∷ p.accel ∷ p.reach ∷ p.cap ∷ p.junction ∷ []

abbrev pub stair_numbers : Stair → List ℕ
stair_numbers e = e.gap ∷ e.cap ∷ []

-- what is made of the numbers from an index on, by their offsets
abbrev pub read_by : {A : Type 0} → ((ℕ → ℕ) → A) → List ℕ → (at : ℕ) → A
read_by by m at = by (λ j. slice_index m (at + j))

-- n of them one after the other, each of `size` numbers
unfoldable pub each_from : {A : Type 0} → ((ℕ → ℕ) → A) → (size n : ℕ) → List ℕ → (at : ℕ) → List A
each_from by size zero m at = []
each_from by size (suc n) m at = read_by by m at ∷ each_from by size n m (at + size)

-- the place, and the stair, whose numbers begin at an index
unfoldable pub place_from : List ℕ → (at : ℕ) → Place
place_from m at = read_by place_by m at

unfoldable pub stair_in : List ℕ → (at : ℕ) → Stair
stair_in m at = read_by stair_by m at

-- the machine of the numbers of a head
abbrev pub machine_from : (head : List ℕ) → Machine
machine_from head = record { limits = limits_from head; torque = slice_index head torque_index }

-- the ring of the numbers of a head, of places and of stairs
abbrev pub ring_of : (head : List ℕ) → List Place → List Stair → Ring
ring_of head places stairs =
    record {
      machine = machine_from head;
      first = slice_index head first_index;
      count = slice_index head count_index;
      committed = slice_index head committed_index;
      first_stair = slice_index head first_stair_index;
      stairs_before = slice_index head stairs_before_index;
      total = slice_index head total_index;
      places = places;
      stairs = stairs;
    }

-- the ring in the memory
unfoldable pub view_of : List ℕ → Ring
view_of m = ring_of m (each_from place_by place_size most_held m (base_of 0)) (each_from stair_by stair_size most_held m (stair_base 0))

-- the numbers of its head
abbrev pub head_numbers : Ring → List ℕ
head_numbers r = limit_numbers r.machine.limits (r.first ∷ r.count ∷ r.committed ∷ r.machine.torque ∷ r.first_stair ∷ r.stairs_before ∷ r.total ∷ [])
