-- A block's label: it fits 21 bits, and label and block come back from each other. From the ranges of what passes the checks.
use mathlib.Core.Path.{◌≡◌, refl}
use Prim.Native.Nat.{ℕ, ◌^◌, ◌<◌}
use native.Mathlib.Omega.{arith}
use lib.IntN.{ℤ}
use Rattle.machine.specs.Checks.{block_refusal}
use Rattle.machine.specs.Labels.{labelled_block, label_of}
use Rattle.machine.specs.declared.Block.{Block}
use Rattle.machine.proofs.Bounds.{in_range}

-- the label of a block that passes 2 to 6 fits 21 bits
pub label_fits : (b : Block) → block_refusal b ≡ 0 → label_of b < 2 ^ 21
unfolding label_of
label_fits b e = omega (arith, (in_range b e).mark_below)

-- and such a block comes back from it
pub label_back : (b : Block) → block_refusal b ≡ 0 → labelled_block b.x b.y b.z b.feed b.radius (label_of b) ≡ b
unfolding labelled_block label_of
label_back b e = refl

-- a label of 21 bits comes back from its block
pub label_forth : (x y z : ℤ) (feed radius label : ℕ) → label < 2 ^ 21 → label_of (labelled_block x y z feed radius label) ≡ label
unfolding labelled_block label_of
label_forth x y z feed radius label h = refl
