-- The ring's stairs when a block is put last and when the first is taken. From profile's laws of the stairs.
use mathlib.Core.Bool.{Bool, true, false, cond}
use mathlib.Core.Path.{◌≡◌, refl, ap, sym, ◌∙◌}
use mathlib.Core.List.{List, ◌∷◌, ◌++◌, []}
use Prim.Native.Nat.{ℕ, zero, suc, ◌+◌, ◌-◌, ◌%◌, ◌^◌, ◌≤◌, ◌<◌}
use native.Mathlib.Nat.{mod-eq_of_lt}
use native.Mathlib.Decide.{ℕ_discrete}
use native.Mathlib.Omega.{arith}
use lib.Dec.{eqb}
use lib.ListN.{length, get_or, set, take, length-set, length-append, get_or-append}
use lib.Seq.{length-take-le, get_or-take, get_or_at, get_or-append-add}
use Rattle.profile.specs.Line.{total_reach}
use Rattle.profile.specs.declared.Span.{Span}
use Rattle.profile.specs.Passes.{brake}
use Rattle.profile.specs.declared.Stay.{Stay}
use Rattle.profile.specs.Stairs.{Stair, stair, no_stair, stair_from, stairs_of, stairs_after, nearer, first_allows}
use Rattle.profile.proofs.Stairs.{after_some, after_few, stairs_exit}
use Rattle.profile.proofs.Stays.{after_gaps, stairs_added, stay_few}
use Rattle.line.specs.Blocks.{most_held}
use Rattle.line.specs.Ring.{Ring, stair_slot, stair_at, stay_in, climbed, start_in, lowered_by, lowered}
use Rattle.line.specs.Holds.{Climbed}
use Rattle.line.proofs.Places.{ring_same, ring_other}
use Rattle.line.proofs.Spans.{total_last}

-- there are as many stairs as before
pub climbed_sized : (held : ℕ) (r : Ring) (cap reach : ℕ) → length (climbed held r cap reach).stairs ≡ length r.stairs
climbed_sized zero r cap reach = length-set r.stairs (stair_slot r 0) (stair reach 0)
climbed_sized (suc n) r cap reach =
    let w = stay_in r cap in
    let junction = stair (w.allows - cap) cap in
    length-set (set r.stairs (stair_slot r w.count) junction) (stair_slot r (w.count + 1)) (stair reach 0) ∙ length-set r.stairs (stair_slot r w.count) junction

pub lowered_sized : (r : Ring) (reach : ℕ) → length (lowered r reach).stairs ≡ length r.stairs
lowered_sized r reach = go (eqb ((stair_at r 0).gap - reach) 0)
  where
    go : (gone : Bool) → length (lowered_by gone r reach ((stair_at r 0).gap - reach)).stairs ≡ length r.stairs
    go true = refl
    go false = length-set r.stairs (stair_slot r 0) (stair ((stair_at r 0).gap - reach) (stair_at r 0).cap)

-- by the first stair and the end, the backward pass after the first block
first_allows_lem : (l : List Stair) → 0 < length l → first_allows l ≡ (stair_from l 0).gap + (stair_from l 0).cap
first_allows_lem [] h = absurd (omega arith)
first_allows_lem (e ∷ l) h = refl

pub start_brakes : (r : Ring) (s : Span) (line : List Span) → Climbed r (s ∷ line) → start_in r - s.reach ≡ brake line
start_brakes r s line h =
    let l = stairs_after (s ∷ line) in
    let some : 0 < length l = after_some (s ∷ line) (omega arith) in
    omega (
      arith,
      h.total,
      ap (λ (e : Stair). e.gap + e.cap) (h.stair 0 some),
      first_allows_lem l some,
      after_gaps (s ∷ line),
      stairs_exit s line,
    )

module _ (r : Ring) (sized : length r.stairs ≡ most_held) where
  -- the first block of a line has its end alone
  pub first_climbed : (s : Span) → Climbed (climbed 0 r s.cap s.reach) (s ∷ [])
  unfolding stairs_after stairs_of total_reach
  first_climbed s = record { counted = refl; stair = only; total = omega arith }
    where
      only : (j : ℕ) → j < 1 → stair_at (climbed 0 r s.cap s.reach) j ≡ stair_from (stair (s.reach + 0) 0 ∷ []) j
      only zero g = let same : s.reach ≡ s.reach + 0 = omega arith in ring_same no_stair r.stairs sized r.first_stair 0 (stair s.reach 0) ∙ λ i. stair (same i) 0
      only (suc j) g = absurd (omega arith)

  module _ (line : List Span) (room : length line < most_held) (some : 0 < length line) (h : Climbed r line) (s : Span) (fits : total_reach line + s.reach + s.cap < 2 ^ 64) where
    abbrev old : List Stair
    old = stairs_after line

    abbrev stays : Stay
    stays = stay_in r s.cap

    abbrev junction : Stair
    junction = stair (stays.allows - s.cap) s.cap

    abbrev end : Stair
    end = stair s.reach 0

    abbrev new : List Stair
    new = take stays.count old ++ junction ∷ end ∷ []

    -- the stairs of the longer line are those that stay, the new junction and the new end
    new_is : stairs_after (line ++ (s ∷ [])) ≡ new
    new_is = stairs_added line s some (stair_at r) h.stair (omega arith) (r.stairs_before % most_held) (omega (arith, h.counted, after_few line)) stays refl

    -- fewer stay than there were, the end among them
    few : stays.count < length old
    few = omega (arith, stay_few (stair_at r) (r.stairs_before % most_held) (((stair_at r (r.stairs_before % most_held)).gap + s.cap) % 2 ^ 64), h.counted)

    kept_length : length (take stays.count old) ≡ stays.count
    kept_length = length-take-le stays.count old (omega (arith, few))

    new_length : length new ≡ stays.count + 1 + 1
    new_length = length-append (take stays.count old) (junction ∷ end ∷ []) ∙ omega (arith, kept_length)

    abbrev joined : List Stair
    joined = set r.stairs (stair_slot r stays.count) junction

    joined_sized : length joined ≡ most_held
    joined_sized = length-set r.stairs (stair_slot r stays.count) junction ∙ sized

    -- so it is in the ring
    new_stair : (j : ℕ) → j < length new → stair_at (climbed 1 r s.cap s.reach) j ≡ stair_from new j
    new_stair j g = elim (ℕ_discrete j (stays.count + 1)) [
      | yes e ↦ rw e (ring_same no_stair joined joined_sized r.first_stair (stays.count + 1) end ∙ sym last)
      | no d ↦ ring_other no_stair joined joined_sized r.first_stair (stays.count + 1) j end (omega (arith, few, after_few line)) (omega (arith, few, after_few line, new_length)) d ∙ before d
    ]
      where
        last : stair_from new (stays.count + 1) ≡ end
        last = ap (λ (n : ℕ). stair_from new (n + 1)) (sym kept_length) ∙ get_or-append-add (take stays.count old) (junction ∷ end ∷ []) 1 no_stair

        before : (j ≡ stays.count + 1 → ⊥) → get_or joined (stair_slot r j) no_stair ≡ stair_from new j
        before d = elim (ℕ_discrete j stays.count) [
          | yes e ↦ rw e (ring_same no_stair r.stairs sized r.first_stair stays.count junction ∙ sym (get_or_at (take stays.count old) junction (end ∷ []) no_stair stays.count kept_length))
          | no f ↦
              let early : j < stays.count = omega (arith, new_length) in
              ring_other no_stair r.stairs sized r.first_stair stays.count j junction (omega (arith, few, after_few line)) (omega (arith, few, after_few line)) f
              ∙ h.stair j (omega (arith, few))
              ∙ sym (get_or-append (take stays.count old) (junction ∷ end ∷ []) no_stair j (omega (arith, kept_length)) ∙ get_or-take stays.count old j no_stair early)
        ]

    -- and the longer line's stairs are held
    pub last_climbed : Climbed (climbed 1 r s.cap s.reach) (line ++ (s ∷ []))
    last_climbed = record {
      counted = sym (ap length new_is ∙ new_length);
      stair = λ j g. new_stair j (omega (arith, ap length new_is)) ∙ ap (λ (l : List Stair). stair_from l j) (sym new_is);
      total = ap (λ (t : ℕ). (t + s.reach) % 2 ^ 64) h.total ∙ mod-eq_of_lt (omega arith) ∙ sym (total_last line s);
    }

  -- Where the first block is taken, of a reach that the rest of the line is nearer by,
  module _ (spans rest : List Span) (few : length spans ≤ most_held) (h : Climbed r spans) (reach : ℕ) (nearer-is : nearer reach (stairs_after spans) ≡ stairs_after rest)
      (less : total_reach spans ≡ reach + total_reach rest) (some : 0 < length (stairs_after rest)) where
    abbrev left : ℕ
    left = (stair_at r 0).gap - reach

    -- the first stair goes with its junction, or its gap falls,
    module _ (e : Stair) (l : List Stair) (is : stairs_after spans ≡ e ∷ l) where
      first_is : stair_at r 0 ≡ e
      first_is = h.stair 0 (omega (arith, ap length is)) ∙ ap (λ (m : List Stair). stair_from m 0) is

      rest_is : (gone : Bool) → eqb left 0 ≡ gone → stairs_after rest ≡ cond gone l (stair left (stair_at r 0).cap ∷ l)
      rest_is gone p =
          sym nearer-is ∙ ap (nearer reach) is
          ∙ (λ i. nearer reach (sym first_is i ∷ l))
          ∙ ap (λ (b : Bool). cond b l (stair left (stair_at r 0).cap ∷ l)) p

      later : (j : ℕ) → suc j < length (stairs_after spans) → stair_at r (suc j) ≡ stair_from l j
      later j g = h.stair (suc j) g ∙ ap (λ (m : List Stair). stair_from m (suc j)) is

      counted : r.stairs_before ≡ length l
      counted = omega (arith, h.counted, ap length is)

      lowered_by_lem : (gone : Bool) → eqb left 0 ≡ gone → Climbed (lowered_by gone r reach left) rest
      lowered_by_lem true p =
          let new = rest_is true p in
          record {
            counted = omega (arith, counted, ap length new);
            stair = λ j g.
                ap (λ (s : ℕ). get_or r.stairs s no_stair) (omega arith)
                ∙ later j (omega (arith, ap length new, ap length is)) ∙ ap (λ (m : List Stair). stair_from m j) (sym new);
            total = omega (arith, h.total);
          }
      lowered_by_lem false p =
          let new = rest_is false p in
          record {
            counted = omega (arith, counted, ap length new);
            stair = λ j g. lowered j (omega (arith, ap length new)) ∙ ap (λ (m : List Stair). stair_from m j) (sym new);
            total = omega (arith, h.total);
          }
        where
          lowered : (j : ℕ) → j < suc (length l) → stair_at (lowered_by false r reach left) j ≡ stair_from (stair left (stair_at r 0).cap ∷ l) j
          lowered zero g = ring_same no_stair r.stairs sized r.first_stair 0 (stair left (stair_at r 0).cap)
          lowered (suc j) g =
              ring_other no_stair r.stairs sized r.first_stair 0 (suc j) (stair left (stair_at r 0).cap) (omega arith) (omega (arith, after_few spans, ap length is)) (omega arith)
              ∙ later j (omega (arith, ap length is))

    -- the rest's stairs are held
    pub lowered_climbed : Climbed (lowered r reach) rest
    lowered_climbed = go (stairs_after spans) refl
      where
        go : (l : List Stair) → stairs_after spans ≡ l → Climbed (lowered r reach) rest
        go [] e = absurd (omega (arith, h.counted, ap length e))
        go (e ∷ l) is = lowered_by_lem e l is (eqb left 0) refl
