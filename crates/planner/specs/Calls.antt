-- What the calls of a planner promise: the answer, and every number of the memory afterwards.
use Rattle.std.specs.Prelude.{◌≡◌, ℕ, zero, suc, ◌+◌, ◌<◌, List, length}
use Rattle.profile.specs.Line.{number_at}
use Rattle.profile.specs.Passes.{Braked}
use Rattle.machine.specs.Torque.{machine_of, machine_refusal}
use Rattle.machine.specs.declared.Limits.{Limits}
use Rattle.machine.specs.declared.Machine.{Machine}
use Rattle.line.specs.Answers.{Answer, refused, answer_by}
use Rattle.line.specs.Blocks.{Call, Line, fresh_line, line_answer, line_after}
use Rattle.line.specs.Chains.{Chain}
use Rattle.line.specs.Demand.{ShownOf}
use Rattle.line.specs.Holds.{Holds}
use Rattle.line.specs.declared.Given.{Given}
use Rattle.line.specs.Ring.{Ring, spans_in, given_in, taken_from, fresh_ring, ring_answer, ring_after, told_of, shown_in, show_refusal}
use Rattle.planner.specs.View.{memory_size, view_of}

-- A memory that holds a ring.
pub record Memory (ring : Ring) (m : List ℕ) : Type 0 where
  pub sized : length m ≡ memory_size
  pub view : view_of m ≡ ring

-- A memory from which a block was given out.
pub record GaveFirst (entry : List ℕ) (out : Given) (exit : List ℕ) : Type 0 where
  pub given : out ≡ given_in (view_of entry)
  pub held : Memory (taken_from (view_of entry)) exit

-- A list that holds the backward pass over n blocks held, from junction 1 on.
pub record BrakedHeld (m : List ℕ) (n : ℕ) (list : List ℕ) : Type 0 where
  pub sized : length list ≡ n + 1
  pub braked : Braked (spans_in (view_of m) n 0) (number_at list) 1

-- A memory that holds a line of blocks. A client needs to know no more of it than what the promises below say.
abbrev pub MemoryHolds : List ℕ → Line → Type 0
MemoryHolds m line = Holds (view_of m) line

-- what is so of every line of blocks that a memory holds
abbrev pub ForLine : List ℕ → (Line → Type 0) → Type 0
ForLine m P = (line : Line) → MemoryHolds m line → P line

-- An add or a take. The view determines every number of the memory: the law `view_determines`. A refusal leaves each as it was.
-- For every line of blocks that the memory holds, the line says what is answered and which line is held afterwards.
pub record Called (entry : List ℕ) (call : Call) (said : Answer) (exit : List ℕ) : Type 0 where
  pub sized : length exit ≡ memory_size
  pub answer : said ≡ ring_answer (view_of entry) call
  pub after : view_of exit ≡ ring_after (view_of entry) call
  pub unchanged : (n : ℕ) → said ≡ refused n → exit ≡ entry
  pub line : ForLine entry (λ line. (said ≡ line_answer line call) × MemoryHolds exit (line_after line call))

-- Adds and takes one after the other, each on the memory that the one before it left, with their answers.
abbrev pub CalledAll : (memory : List ℕ) (calls : List Call) (answers : List Answer) (memory' : List ℕ) → Type 0
CalledAll = Chain Called

-- A fresh planner of a machine, or a refusal and no change.
abbrev pub fresh_in : (refusal : ℕ) → Ring → Machine → Ring
fresh_in zero r m = fresh_ring m r.places r.stairs
fresh_in (suc n) r m = r

-- a fresh planner of limits and loaded torque steps, or refusal 1, then 14
pub record Freshened (entry : List ℕ) (l : Limits) (loaded : List ℕ) (refusal : ℕ) (exit : List ℕ) : Type 0 where
  pub sized : length exit ≡ memory_size
  pub answer : refusal ≡ machine_refusal l loaded
  pub after : view_of exit ≡ fresh_in (machine_refusal l loaded) (view_of entry) (machine_of l loaded)
  pub unchanged : 0 < refusal → exit ≡ entry
  pub line : refusal ≡ 0 → MemoryHolds exit (fresh_line (machine_of l loaded))

-- The plan in a lent list, or refusal 11 and no change.
abbrev pub shown_list : (refusal : ℕ) → Ring → List ℕ → List ℕ
shown_list zero r list = shown_in r
shown_list (suc n) r list = list

pub record Showed (memory held : List ℕ) (said : Answer) (exit : List ℕ) : Type 0 where
  pub answer : said ≡ answer_by (show_refusal (view_of memory) (length held))
  pub list : exit ≡ shown_list (show_refusal (view_of memory) (length held)) (view_of memory) held
  pub unchanged : (n : ℕ) → said ≡ refused n → exit ≡ held
  pub line : ForLine memory (λ line. ShownOf line held said exit)

-- The number of blocks held.
pub record Told (memory : List ℕ) (number : ℕ) : Type 0 where
  pub number_is : number ≡ told_of (view_of memory)
  pub line : ForLine memory (λ line. number ≡ length line.blocks)
