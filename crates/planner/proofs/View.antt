-- The memory as a ring: what is read of a place and of a stair, and what the view is after stores.
use Rattle.std.proofs.Common.{◌≡◌, ℕ, zero, suc, ◌+◌, ◌-◌, ◌*◌, ◌/◌, ◌%◌, ◌<◌, ◌≤◌, Bool, true, false, ltb, List, [], ◌∷◌, length, get_or, set, sym, refl, ap, ◌∙◌, mod-lt, mul-suc, arith, lit<, ext_get_or, ltb-false, ltb-true}
use lib.Seq.{sets}
use Rattle.profile.specs.Stairs.{Stair, stair, no_stair}
use Rattle.machine.proofs.Runs.{sets_below, sets_above, with_run, sets_at, run_of, run_at, run_same}
use Rattle.machine.specs.Lists.{limits_from}
use Rattle.machine.specs.declared.Machine.{Machine}
use Rattle.line.specs.Blocks.{most_held}
use Rattle.line.specs.Ring.{Place, Ring, no_place, place_at, stair_at, slot, stair_slot, moved, with_stairs, fresh_ring}
use Rattle.planner.specs.View.{memory_size, head_size, place_size, stair_size, first_index, count_index, committed_index, first_stair_index, stairs_before_index, total_index, base_of, stair_base, place_by, stair_by, read_by, place_from, stair_in, numbers_for, stair_numbers, each_from, ring_of, view_of, head_numbers}

-- Two memories that hold the same from an index on to before another.
abbrev SameBetween : (from to : ℕ) → List ℕ → List ℕ → Type 0
SameBetween from to m' m = (k : ℕ) → from ≤ k → k < to → get_or m' k 0 ≡ get_or m k 0

-- What is made of `size` numbers, one after the other: places, and stairs.
module _ {A : Type 0} (by : (ℕ → ℕ) → A) (size : ℕ) (local : (f g : ℕ → ℕ) → ((j : ℕ) → j < size → f j ≡ g j) → by f ≡ by g) (none : A) where
  -- There are as many as asked for,
  each_length : (n : ℕ) (m : List ℕ) (at : ℕ) → length (each_from by size n m at) ≡ n
  unfolding each_from
  each_length zero m at = refl
  each_length (suc n) m at = ap suc (each_length n m (at + size))

  -- and number i has the numbers from its own index on.
  each_at : (n : ℕ) (m : List ℕ) (at i : ℕ) → i < n → get_or (each_from by size n m at) i none ≡ read_by by m (at + size * i)
  unfolding each_from
  each_at zero m at i h = absurd (omega arith)
  each_at (suc n) m at zero h = let here : at ≡ at + size * 0 = omega arith in ap (read_by by m) here
  each_at (suc n) m at (suc i) h =
      let next : at + size + size * i ≡ at + size * suc i = omega (arith, mul-suc size i) in
      each_at n m (at + size) i (omega arith) ∙ ap (read_by by m) next

  -- It is the same where its numbers are,
  read_same : (m' m : List ℕ) (at : ℕ) → SameBetween at (at + size) m' m → read_by by m' at ≡ read_by by m at
  read_same m' m at e = local (λ j. get_or m' (at + j) 0) (λ j. get_or m (at + j) 0) (λ j h. e (at + j) (omega arith) (omega arith))

  each_same : (n : ℕ) (m' m : List ℕ) (at : ℕ) → SameBetween at (at + size * n) m' m → each_from by size n m' at ≡ each_from by size n m at
  unfolding each_from
  each_same zero m' m at e = refl
  each_same (suc n) m' m at e =
      let whole = mul-suc size n in
      λ i.
      read_same m' m at (λ k g h. e k g (omega arith)) i
      ∷ each_same n m' m (at + size) (λ k g h. e k (omega arith) (omega arith)) i

  -- and all are after one was stored anew.
  each_stored : (n : ℕ) (m' m : List ℕ) (at i : ℕ) (v : A) → i < n → SameBetween at (at + size * i) m' m
      → SameBetween (at + size * i + size) (at + size * n) m' m → read_by by m' (at + size * i) ≡ v
      → each_from by size n m' at ≡ set (each_from by size n m at) i v
  unfolding each_from
  each_stored zero m' m at i v h below above e = absurd (omega arith)
  each_stored (suc n) m' m at zero v h below above e =
      let here : at ≡ at + size * 0 = omega arith in
      let whole = mul-suc size n in
      λ i.
      (ap (read_by by m') here ∙ e) i
      ∷ each_same n m' m (at + size) (λ k q r. above k (omega arith) (omega arith)) i
  each_stored (suc n) m' m at (suc i) v h below above e =
      let next : at + size + size * i ≡ at + size * suc i = omega (arith, mul-suc size i) in
      let whole = mul-suc size n in
      λ j.
      read_same m' m at (λ k q r. below k q (omega (arith, mul-suc size i))) j
      ∷ each_stored n m' m (at + size) i v (omega arith) (λ k q r. below k (omega arith) (omega arith)) (λ k q r. above k (omega arith) (omega arith)) (ap (read_by by m') next ∙ e) j

-- A place, and a stair, is the same where its numbers are.
place_by_lem : (f g : ℕ → ℕ) → ((j : ℕ) → j < place_size → f j ≡ g j) → place_by f ≡ place_by g
place_by_lem f g e = ap (λ (l : List ℕ). place_by (λ j. get_or l j 0)) (run_same place_size f g e)

stair_by_lem : (f g : ℕ → ℕ) → ((j : ℕ) → j < stair_size → f j ≡ g j) → stair_by f ≡ stair_by g
stair_by_lem f g e = ap (λ (l : List ℕ). stair_by (λ j. get_or l j 0)) (run_same stair_size f g e)

-- There are as many of each as are held at most,
pub view_sized : (m : List ℕ) → (length (view_of m).places ≡ most_held) × (length (view_of m).stairs ≡ most_held)
unfolding view_of
view_sized m = (each_length place_by place_size place_by_lem no_place most_held m (base_of 0), each_length stair_by stair_size stair_by_lem no_stair most_held m (stair_base 0))

-- each with the numbers from its own index on.
pub view_place : (m : List ℕ) (i : ℕ) → i < most_held → get_or (view_of m).places i no_place ≡ place_from m (base_of i)
unfolding view_of place_from
view_place m i h = each_at place_by place_size place_by_lem no_place most_held m (base_of 0) i h

pub view_stair : (m : List ℕ) (i : ℕ) → i < most_held → get_or (view_of m).stairs i no_stair ≡ stair_in m (stair_base i)
unfolding view_of stair_in
view_stair m i h = each_at stair_by stair_size stair_by_lem no_stair most_held m (stair_base 0) i h

-- Block k of those held, and stair j of its line.
pub ring_place : (m : List ℕ) (k : ℕ) → place_at (view_of m) k ≡ place_from m (base_of (slot (view_of m) k))
ring_place m k = view_place m (slot (view_of m) k) (mod-lt ((view_of m).first + k) (lit< tt))

pub ring_stair : (m : List ℕ) (j : ℕ) → stair_at (view_of m) j ≡ stair_in m (stair_base (stair_slot (view_of m) j))
ring_stair m j = view_stair m (stair_slot (view_of m) j) (mod-lt ((view_of m).first_stair + j) (lit< tt))

-- The head of a memory where stores are behind it.
head_same : (m : List ℕ) (from : ℕ) (vs : List ℕ) → head_size ≤ from → run_of head_size (λ j. get_or (sets m from vs) j 0) ≡ run_of head_size (λ j. get_or m j 0)
head_same m from vs h = run_same head_size (λ j. get_or (sets m from vs) j 0) (λ j. get_or m j 0) (λ j g. sets_below vs m from j (omega arith))

-- The view after a run of stores in place i,
view_run : (m : List ℕ) (i k : ℕ) (vs : List ℕ) (from : ℕ) → length m ≡ memory_size → i < most_held → k + length vs ≤ place_size → from ≡ base_of i + k
    → view_of (sets m from vs) ≡ ring_of m (set (view_of m).places i (place_by (with_run (λ o. get_or m (base_of i + o) 0) k vs))) (view_of m).stairs
unfolding view_of limits_from
view_run m i k vs from sized h fits p =
    let q = place_by_lem (λ j. get_or (sets m from vs) (base_of i + j) 0) _ (λ j g. sets_at m (base_of i) k vs from p (omega arith) j (base_of i + j) refl) in
    λ d.
    ring_of (head_same m from vs (omega arith) d)
    (each_stored place_by place_size place_by_lem no_place most_held (sets m from vs) m (base_of 0) i _ h (λ j g r. sets_below vs m from j (omega arith)) (λ j g r. sets_above vs m from j (omega arith)) q d)
    (each_same stair_by stair_size stair_by_lem no_stair most_held (sets m from vs) m (stair_base 0) (λ j g r. sets_above vs m from j (omega arith)) d)

-- and in stair i.
view_stair_run : (m : List ℕ) (i k : ℕ) (vs : List ℕ) (from : ℕ) → length m ≡ memory_size → i < most_held → k + length vs ≤ stair_size → from ≡ stair_base i + k
    → view_of (sets m from vs) ≡ ring_of m (view_of m).places (set (view_of m).stairs i (stair_by (with_run (λ o. get_or m (stair_base i + o) 0) k vs)))
unfolding view_of limits_from
view_stair_run m i k vs from sized h fits p =
    let q = stair_by_lem (λ j. get_or (sets m from vs) (stair_base i + j) 0) _ (λ j g. sets_at m (stair_base i) k vs from p (omega arith) j (stair_base i + j) refl) in
    λ d.
    ring_of (head_same m from vs (omega arith) d)
    (each_same place_by place_size place_by_lem no_place most_held (sets m from vs) m (base_of 0) (λ j g r. sets_below vs m from j (omega arith)) d)
    (each_stored stair_by stair_size stair_by_lem no_stair most_held (sets m from vs) m (stair_base 0) i _ h (λ j g r. sets_below vs m from j (omega arith)) (λ j g r. sets_above vs m from j (omega arith)) q d)

-- Of all numbers of a place,
pub view_put : (m : List ℕ) (k : ℕ) (p : Place) → length m ≡ memory_size
    → view_of (sets m (base_of (slot (view_of m) k)) (numbers_for p)) ≡ ring_of m (set (view_of m).places (slot (view_of m) k) p) (view_of m).stairs
view_put m k p e = let i = slot (view_of m) k in view_run m i 0 (numbers_for p) (base_of i) e (mod-lt ((view_of m).first + k) (lit< tt)) (omega arith) (omega arith)

-- of both numbers of a stair,
pub view_climbed : (m : List ℕ) (j : ℕ) (e : Stair) → length m ≡ memory_size
    → view_of (sets m (stair_base (stair_slot (view_of m) j)) (stair_numbers e)) ≡ ring_of m (view_of m).places (set (view_of m).stairs (stair_slot (view_of m) j) e)
view_climbed m j e s = let i = stair_slot (view_of m) j in view_stair_run m i 0 (stair_numbers e) (stair_base i) s (mod-lt ((view_of m).first_stair + j) (lit< tt)) (omega arith) (omega arith)

-- and of its gap alone.
pub view_gap : (m : List ℕ) (j v : ℕ) → length m ≡ memory_size
    → view_of (set m (stair_base (stair_slot (view_of m) j)) v) ≡ ring_of m (view_of m).places (set (view_of m).stairs (stair_slot (view_of m) j) (stair v (stair_at (view_of m) j).cap))
unfolding stair_in
view_gap m j v s =
    let i = stair_slot (view_of m) j in
    view_stair_run m i 0 (v ∷ []) (stair_base i) s (mod-lt ((view_of m).first_stair + j) (lit< tt)) (omega arith) (omega arith)
    ∙ ap (λ (e : Stair). ring_of m (view_of m).places (set (view_of m).stairs i (stair v e.cap))) (sym (ring_stair m j))

-- The view after a run of stores in the head:
view_head : (m : List ℕ) (from : ℕ) (vs : List ℕ) → length m ≡ memory_size → from + length vs ≤ head_size
    → view_of (sets m from vs) ≡ ring_of (run_of head_size (with_run (λ o. get_or m (0 + o) 0) from vs)) (view_of m).places (view_of m).stairs
unfolding view_of limits_from
view_head m from vs sized fits =
    λ d.
    ring_of (run_same head_size (λ j. get_or (sets m from vs) j 0) (with_run (λ o. get_or m (0 + o) 0) from vs) (λ j h. sets_at m 0 from vs from (omega arith) (omega arith) j j (omega arith)) d)
    (each_same place_by place_size place_by_lem no_place most_held (sets m from vs) m (base_of 0) (λ j h r. sets_above vs m from j (omega arith)) d)
    (each_same stair_by stair_size stair_by_lem no_stair most_held (sets m from vs) m (stair_base 0) (λ j h r. sets_above vs m from j (omega arith)) d)

-- of the count,
pub view_count : (m : List ℕ) (n : ℕ) → length m ≡ memory_size → view_of (set m count_index n) ≡ moved (view_of m) (view_of m).first n (view_of m).committed
unfolding view_of limits_from
view_count m n e = view_head m count_index (n ∷ []) e (omega arith)

-- of all that changes with a take, beside the stairs,
pub view_moved : (m : List ℕ) (f n v : ℕ) → length m ≡ memory_size → view_of (set (set (set m first_index f) count_index n) committed_index v) ≡ moved (view_of m) f n v
unfolding view_of limits_from
view_moved m f n v e = view_head m first_index (f ∷ n ∷ v ∷ []) e (omega arith)

-- of the number of stairs and the total,
pub view_ended : (m : List ℕ) (n t : ℕ) → length m ≡ memory_size
    → view_of (set (set m stairs_before_index n) total_index t) ≡ with_stairs (view_of m) n t (view_of m).stairs
unfolding view_of limits_from
view_ended m n t e = view_head m stairs_before_index (n ∷ t ∷ []) e (omega arith)

-- of the total alone,
pub view_total : (m : List ℕ) (t : ℕ) → length m ≡ memory_size → view_of (set m total_index t) ≡ with_stairs (view_of m) (view_of m).stairs_before t (view_of m).stairs
unfolding view_of limits_from
view_total m t e = view_head m total_index (t ∷ []) e (omega arith)

-- of the first stair and the number of stairs,
pub view_gone : (m : List ℕ) (f n : ℕ) → length m ≡ memory_size
    → view_of (set (set m first_stair_index f) stairs_before_index n)
    ≡ record {
      machine = (view_of m).machine;
      first = (view_of m).first;
      count = (view_of m).count;
      committed = (view_of m).committed;
      first_stair = f;
      stairs_before = n;
      total = (view_of m).total;
      places = (view_of m).places;
      stairs = (view_of m).stairs;
    }
unfolding view_of limits_from
view_gone m f n e = view_head m first_stair_index (f ∷ n ∷ []) e (omega arith)

-- and of a whole head.
pub view_fresh : (m : List ℕ) (of : Machine) → length m ≡ memory_size → view_of (sets m 0 (head_numbers (fresh_ring of [] []))) ≡ fresh_ring of (view_of m).places (view_of m).stairs
unfolding view_of limits_from
view_fresh m of e = view_head m 0 (head_numbers (fresh_ring of [] [])) e (omega arith)

-- The view determines every number of the memory: of a place,
place_numbers : (m : List ℕ) (at j : ℕ) → j < place_size → get_or (numbers_for (place_from m at)) j 0 ≡ get_or m (at + j) 0
unfolding place_from
place_numbers m at j h = run_at place_size (λ k. get_or m (at + k) 0) j h

-- of a stair,
stair_numbers_lem : (m : List ℕ) (at j : ℕ) → j < stair_size → get_or (stair_numbers (stair_in m at)) j 0 ≡ get_or m (at + j) 0
unfolding stair_in
stair_numbers_lem m at j h = run_at stair_size (λ k. get_or m (at + k) 0) j h

-- and of the head.
head_numbers_lem : (m : List ℕ) (j : ℕ) → j < head_size → get_or (head_numbers (view_of m)) j 0 ≡ get_or m j 0
unfolding view_of limits_from
head_numbers_lem m j h = run_at head_size (λ k. get_or m k 0) j h

module _ (a b : List ℕ) (e : view_of a ≡ view_of b) where
  in_head : (k : ℕ) → k < head_size → get_or a k 0 ≡ get_or b k 0
  in_head k h = sym (head_numbers_lem a k h) ∙ ap (λ (r : Ring). get_or (head_numbers r) k 0) e ∙ head_numbers_lem b k h

  in_place : (i j : ℕ) → i < most_held → j < place_size → get_or a (base_of i + j) 0 ≡ get_or b (base_of i + j) 0
  in_place i j h g =
      sym (place_numbers a (base_of i) j g)
      ∙ ap (λ (s : Place). get_or (numbers_for s) j 0) (sym (view_place a i h) ∙ ap (λ (r : Ring). get_or r.places i no_place) e ∙ view_place b i h)
      ∙ place_numbers b (base_of i) j g

  in_stair : (i j : ℕ) → i < most_held → j < stair_size → get_or a (stair_base i + j) 0 ≡ get_or b (stair_base i + j) 0
  in_stair i j h g =
      sym (stair_numbers_lem a (stair_base i) j g)
      ∙ ap (λ (s : Stair). get_or (stair_numbers s) j 0) (sym (view_stair a i h) ∙ ap (λ (r : Ring). get_or r.stairs i no_stair) e ∙ view_stair b i h)
      ∙ stair_numbers_lem b (stair_base i) j g

  each : (k : ℕ) → k < memory_size → get_or a k 0 ≡ get_or b k 0
  each k h = go (ltb k head_size) (ltb k (stair_base 0)) refl refl
    where
      go : (t u : Bool) → ltb k head_size ≡ t → ltb k (stair_base 0) ≡ u → get_or a k 0 ≡ get_or b k 0
      go true u l r = in_head k (ltb-true k head_size l)
      go false true l r =
          let low = ltb-true k (stair_base 0) r in
          let here : base_of ((k - head_size) / place_size) + (k - head_size) % place_size ≡ k = omega (arith, ltb-false k head_size l) in
          rw here at (in_place ((k - head_size) / place_size) ((k - head_size) % place_size) (omega arith) (omega arith))
      go false false l r =
          let here : stair_base ((k - stair_base 0) / stair_size) + (k - stair_base 0) % stair_size ≡ k = omega (arith, ltb-false k (stair_base 0) r) in
          rw here at (in_stair ((k - stair_base 0) / stair_size) ((k - stair_base 0) % stair_size) (omega arith) (omega arith))

pub view_determines : (a b : List ℕ) → length a ≡ memory_size → length b ≡ memory_size → view_of a ≡ view_of b → a ≡ b
view_determines a b p q e = ext_get_or 0 a b (p ∙ sym q) (λ k h. each a b e k (omega arith))
