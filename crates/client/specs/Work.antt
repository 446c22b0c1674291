-- The blocks of the worked results, and the lines that they make.
use Rattle.std.specs.Prelude.{List, ◌∷◌, [], ◌≡◌, ℕ, ℤ, pos}
use Rattle.display.specs.Display.{checked_means}
use Rattle.machine.specs.Labels.{plain_block}
use Rattle.machine.specs.Torque.{machine_of}
use Rattle.machine.specs.declared.Block.{Block}
use Rattle.machine.specs.declared.Limits.{Limits}
use Rattle.machine.specs.declared.Ramp.{Ramp}
use Rattle.line.specs.Answers.{done_means, take_means}
use Rattle.line.specs.Demand.{Demand3}
use Rattle.line.specs.declared.Given.{Given}
use Rattle.line.specs.Blocks.{Line, Call, add, take, fresh_line, line_after}
use Rattle.cases.specs.Shop.{machine_m}
use Rattle.client.specs.declared.Answered.{Answered}

-- a block of feed 20,000 µm/s along X and Y
abbrev pub block_of : (x y : ℤ) (mark : ℕ) → Block
block_of x y mark = plain_block x y (pos 0) 20_000 0 mark

-- the line of one block on machine M, and of two
abbrev pub line_of_one : Block → Line
line_of_one a = line_after (fresh_line machine_m) (add a)

abbrev pub line_of_two : Block → Block → Line
line_of_two a b = line_after (line_of_one a) (add b)

-- two adds and a take
abbrev pub pair_calls : Block → Block → List Call
pair_calls a b = add a ∷ add b ∷ take ∷ []

-- demand 3 of these on a fresh planner, where its limits and loaded torque steps pass
abbrev pub PairDemand3 : Limits → (loaded : List ℕ) (a b : Block) → Answered → (lent left : List ℕ) → Type 0
PairDemand3 l loaded a b r lent left =
    checked_means r.made ≡ 0
    → Demand3 (machine_of l loaded) (pair_calls a b) (done_means r.first ∷ done_means r.second ∷ take_means r.third ∷ []) r.told lent (done_means r.shown) left

-- the ramp of a block of the right-angle pair
pub record Ramps (r : Ramp) (up down : ℕ) : Type 0 where
  pub peak_is : r.peak ≡ 201_000_000
  pub up_is : r.up ≡ up
  pub cruise_is : r.cruise ≡ 0
  pub down_is : r.down ≡ down

-- a block of it given out with these numbers
pub record Gives (g : Given) (mark entry exit up down : ℕ) : Type 0 where
  pub mark_is : g.block.mark ≡ mark
  pub length_is : g.length ≡ 1_000
  pub accel_is : g.accel ≡ 200_000
  pub entry_is : g.entry ≡ entry
  pub exit_is : g.exit ≡ exit
  pub ramp_is : Ramps g.ramp up down
