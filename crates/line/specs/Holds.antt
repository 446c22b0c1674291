-- A ring that holds a line.
use Rattle.std.specs.Prelude.{◌≡◌, List, ℕ, ◌+◌, ◌≤◌, ◌<◌, length, get_or}
use Rattle.profile.specs.Line.{cap_at, total_reach}
use Rattle.profile.specs.declared.Span.{Span}
use Rattle.profile.specs.Passes.{CanBrake}
use Rattle.profile.specs.Stairs.{stair_from, stairs_after}
use Rattle.machine.specs.Checks.{limits_refusal, block_refusal}
use Rattle.machine.specs.Numbers.{numbers_of, block_cap}
use Rattle.machine.specs.Labels.{no_block}
use Rattle.machine.specs.Line.{spans_of}
use Rattle.machine.specs.declared.Block.{Block}
use Rattle.machine.specs.declared.Machine.{Machine}
use Rattle.line.specs.Blocks.{most_held, Line}
use Rattle.line.specs.Ring.{Ring, place_at, stair_at, block_in, numbers_in}

-- block k of a list; past its end there is none
abbrev pub block_at : List Block → ℕ → Block
block_at blocks k = get_or blocks k no_block

-- the ring's places from the first on are the blocks with their numbers and junction caps
pub record Placed (r : Ring) (m : Machine) (blocks : List Block) : Type 0 where
  pub block : (k : ℕ) → k < length blocks → block_in (place_at r k) ≡ block_at blocks k
  pub numbers : (k : ℕ) → k < length blocks → numbers_in (place_at r k) ≡ numbers_of m (block_at blocks k)
  pub junction : (k : ℕ) → 0 < k → k < length blocks → (place_at r k).junction ≡ cap_at (spans_of m blocks) k

-- the ring's stairs from the first on are those of the spans, the end among them, and its total is that of their reaches
pub record Climbed (r : Ring) (spans : List Span) : Type 0 where
  pub counted : r.stairs_before + 1 ≡ length (stairs_after spans)
  pub stair : (j : ℕ) → j < length (stairs_after spans) → stair_at r j ≡ stair_from (stairs_after spans) j
  pub total : r.total ≡ total_reach spans

-- the ring holds the line: its places are the line's blocks, its stairs the line's where it has blocks; the line can
-- brake from the committed squared speed, which is within the first block's cap
pub record Holds (r : Ring) (line : Line) : Type 0 where
  pub limited : limits_refusal line.machine.limits ≡ 0
  pub machine : r.machine ≡ line.machine
  pub committed : r.committed ≡ line.committed
  pub sized : (length r.places ≡ most_held) × (length r.stairs ≡ most_held)
  pub room : length line.blocks ≤ most_held
  pub counted : r.count ≡ length line.blocks
  pub passed : (k : ℕ) → k < length line.blocks → block_refusal (block_at line.blocks k) ≡ 0
  pub placed : Placed r line.machine line.blocks
  pub climbed : 0 < length line.blocks → Climbed r (spans_of line.machine line.blocks)
  pub brakes : CanBrake line.committed (spans_of line.machine line.blocks)
  pub entered : 0 < length line.blocks → line.committed ≤ block_cap line.machine.limits (block_at line.blocks 0)
