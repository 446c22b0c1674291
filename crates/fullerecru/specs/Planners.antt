-- What the planner's functions for C return and leave in the lists that they are lent.
use Rattle.std.specs.Prelude.{List, ◌∷◌, [], ◌≡◌, ℕ, ◌<◌, ℤ}
use Rattle.machine.specs.declared.Block.{Block}
use Rattle.machine.specs.declared.Machine.{Machine}
use Rattle.line.specs.Answers.{Answer, accepted, gave, refused, answer_by, answer_number, given_numbers}
use Rattle.line.specs.Blocks.{Call, add, take}
use Rattle.line.specs.Demand.{Demand3}
use Rattle.line.specs.declared.Given.{Given}
use Rattle.planner.specs.Calls.{Called}
use Rattle.fullerecru.specs.Moves.{block_moves}

-- what a lent list has after an answer: that of the block given out, else what it had
abbrev pub filled_by : {A : Type 0} → (Given → A) → Answer → A → A
filled_by of accepted had = had
filled_by of (gave g) had = of g
filled_by of (refused n) had = had

-- the moves of a block given out, and its other numbers, in the lists that a take is lent
abbrev pub moves_after : Answer → List ℤ → List ℤ
moves_after = filled_by (λ g. block_moves g.block)

abbrev pub numbers_after : Answer → List ℕ → List ℕ
numbers_after = filled_by given_numbers

-- A take, whose answer C sees as a number and in the lists that it lends. An add and showing the plan return no more than a number, which
-- `answer_by` turns into the planner's answer: they promise what the planner's own calls do.
pub record TakenOut (entry : List ℕ) (number : ℕ) (exit : List ℕ) (moves moves' : List ℤ) (numbers numbers' : List ℕ) : Type 0 where
  pub said : Answer
  pub called : Called entry take said exit
  pub number_is : number ≡ answer_number said
  pub moves_are : moves' ≡ moves_after said moves
  pub numbers_are : numbers' ≡ numbers_after said numbers
  -- refused: the memory and both lists are as they were
  pub unchanged : 0 < number → (exit ≡ entry) × (moves' ≡ moves) × (numbers' ≡ numbers)

-- What C sees of a call: the number of an add; the number and the two lists, before and after, of a take.
pub data Seen : Type 0 where
  added : (number : ℕ) → Seen
  taken : (number : ℕ) (moves moves' : List ℤ) (numbers numbers' : List ℕ) → Seen

-- an answer that is seen so
abbrev pub SeenAs : Answer → Seen → Type 0
SeenAs a (added n) = a ≡ answer_by n
SeenAs a (taken n moves moves' numbers numbers') = (n ≡ answer_number a) × (moves' ≡ moves_after a moves) × (numbers' ≡ numbers_after a numbers)

pub data SeenAll : List Answer → List Seen → Type 0 where
  none : SeenAll [] []
  next : {a : Answer} {s : Seen} {answers : List Answer} {seen : List Seen} → SeenAs a s → SeenAll answers seen → SeenAll (a ∷ answers) (s ∷ seen)

-- Calls of `fullerecru_add` and `fullerecru_take` one after the other, each on the memory that the one before it left.
pub data ExportedAll : (memory : List ℕ) (calls : List Call) (seen : List Seen) (memory' : List ℕ) → Type 0 where
  none : {m : List ℕ} → ExportedAll m [] [] m
  add_next : {m m' m'' : List ℕ} {b : Block} {n : ℕ} {calls : List Call} {seen : List Seen} → Called m (add b) (answer_by n) m' → ExportedAll m' calls seen m''
      → ExportedAll m (add b ∷ calls) (added n ∷ seen) m''
  take_next : {m m' m'' : List ℕ} {n : ℕ} {moves moves' : List ℤ} {numbers numbers' : List ℕ} {calls : List Call} {seen : List Seen}
      → TakenOut m n m' moves moves' numbers numbers' → ExportedAll m' calls seen m''
      → ExportedAll m (take ∷ calls) (taken n moves moves' numbers numbers' ∷ seen) m''

-- Demand 3 of such calls from a fresh planner of machine m: of the answers that C saw, the number told, and what showing the plan in a lent
-- list then returned and left there.
pub record ExportedDemand3 (m : Machine) (calls : List Call) (seen : List Seen) (told : ℕ) (lent : List ℕ) (number : ℕ) (left : List ℕ) : Type 0 where
  pub answers : List Answer
  pub seen_are : SeenAll answers seen
  pub demand : Demand3 m calls answers told lent (answer_by number) left
