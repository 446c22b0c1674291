-- A part of a listing, stored, with the header in part 0. From the laws of texts stored.
use mathlib.Core.Path.{◌≡◌, refl, ap}
use mathlib.Core.List.{List, []}
use Prim.Native.Nat.{ℕ, zero, suc, ◌*◌, ◌≤◌, ◌<◌, zero-le}
use native.Mathlib.Omega.{arith}
use lib.ListN.{length}
use Rattle.text.specs.Store.{Stored}
use Rattle.text.proofs.Store.{stored_next, stored_none}
use Rattle.std.specs.Prelude.{⊤, Result, Ok, Err}
use Rattle.display.specs.declared.RefusedAt.{RefusedAt}
use Rattle.listing.specs.Parts.{answer_part, head_in, header_size, most_parts, only_first, part_blocks, part_lines, part_of, planned_part, row_lines}
use Rattle.listing.specs.declared.Listing.{Listing}
use Rattle.listing.proofs.Lengths.{header_length}
use Rattle.tapeplan.specs.declared.Measured.{Measured}

-- a text in part 0, stored, and none in a later part
pub first_stored : (p : ℕ) {text t u after : List ℕ} {end : ℕ} → (0 < p → ⊥) → t ≡ u → Stored text 0 t end after → Stored text 0 (only_first p u) end after
first_stored zero h e r = rw e at r
first_stored (suc p) h e r = absurd (h (omega arith))

pub later_stored : (p : ℕ) (text t : List ℕ) → 0 < p → Stored text 0 (only_first p t) 0 text
later_stored zero text t h = absurd (omega arith)
later_stored (suc p) text t h = stored_none

-- the header at most
pub head_most : (p : ℕ) → length (head_in p) ≤ header_size
head_most zero = omega (arith, header_length)
head_most (suc p) = zero-le

-- no part from part 16 on,
none_behind : (blocks : ℕ) (sheet : List Measured) (plan : List ℕ) (p : ℕ) → most_parts ≤ p → planned_part blocks sheet plan p ≡ []
unfolding row_lines planned_part
none_behind blocks sheet plan zero h = absurd (omega arith)
none_behind blocks sheet plan (suc p) h = let none : part_lines (suc p) ≡ 0 = omega arith in ap (row_lines blocks sheet plan (part_blocks * suc p)) none

module _ (blocks : ℕ) (sheet : List Measured) (plan : List ℕ) (p : ℕ) where
  pub part_behind : (text : List ℕ) → most_parts ≤ p → Stored text 0 (planned_part blocks sheet plan p) 0 text
  part_behind text h = rw (none_behind blocks sheet plan p h) stored_none

  -- else the header, in part 0, and the lines behind it
  pub part_stored : {text between after : List ℕ} {at end : ℕ} → p < most_parts → Stored text 0 (head_in p) at between
      → Stored between at (row_lines blocks sheet plan (part_blocks * p) part_blocks) end after → Stored text 0 (planned_part blocks sheet plan p) end after
  unfolding planned_part
  part_stored h r q =
      let size : part_lines p ≡ part_blocks = omega arith in
      rw size (stored_next r q zero-le)

-- No listing has a part from part 16 on.
pub parts_bounded : (listing : Listing) (sheet : List Measured) (plan : List ℕ) (p : ℕ) → most_parts ≤ p → part_of listing sheet plan p ≡ []
parts_bounded listing sheet plan p h = by listing.planned p h
  where
    by : (a : Result ⊤ RefusedAt) (q : ℕ) → most_parts ≤ q → answer_part a listing sheet plan q ≡ []
    by a zero l = absurd (omega arith)
    by (Ok tt) (suc q) l = none_behind listing.blocks sheet plan (suc q) l
    by (Err r) (suc q) l = refl
