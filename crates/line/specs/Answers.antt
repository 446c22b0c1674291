-- What is answered, as document 01's numbers and values.
use Rattle.std.specs.Prelude.{cond, List, ◌∷◌, [], ℕ, zero, suc, ◌+◌, ⊤, Result, Ok, Err, Option, Some, None}
use Rattle.display.specs.Display.{refusal_number}
use Rattle.display.specs.declared.Refusal.{Refusal}
use Rattle.machine.specs.Labels.{fields_size, no_block}
use Rattle.machine.specs.Numbers.{numbers_of, ramp_of, rampable, no_ramp}
use Rattle.machine.specs.declared.Block.{Block}
use Rattle.machine.specs.declared.Machine.{Machine}
use Rattle.machine.specs.declared.Numbers.{Numbers}
use Rattle.machine.specs.declared.Ramp.{Ramp}
use Rattle.line.specs.declared.Given.{Given}

-- an answer: accepted, a block given out, or the number on the display
pub data Answer : Type 0 where
  accepted : Answer
  gave : Given → Answer
  refused : ℕ → Answer

-- what a call that gives out no block answers: accepted at 0, else refused by that number
abbrev pub answer_by : ℕ → Answer
answer_by zero = accepted
answer_by (suc n) = refused (suc n)

-- the number on the display; 0 says accepted, or a block given out
abbrev pub answer_number : Answer → ℕ
answer_number accepted = 0
answer_number (gave g) = 0
answer_number (refused n) = n

-- of an add, and of a request to show the plan
abbrev pub done_means : Result ⊤ Refusal → Answer
done_means (Ok _) = accepted
done_means (Err why) = refused (refusal_number why)

-- of a take
abbrev pub take_means : Result Given Refusal → Answer
take_means (Ok g) = gave g
take_means (Err why) = refused (refusal_number why)

-- of a call: an add gives out nothing
abbrev pub answer_means : Result (Option Given) Refusal → Answer
answer_means (Ok None) = accepted
answer_means (Ok (Some g)) = gave g
answer_means (Err why) = refused (refusal_number why)

-- a block given out with its entry and exit squared speeds; the rest is worked out from machine and block
unfoldable pub given_of : Machine → Block → (entry exit : ℕ) → Given
given_of m b entry exit =
    record {
      block = b;
      length = (numbers_of m b).length;
      accel = (numbers_of m b).accel;
      entry = entry;
      exit = exit;
      ramp = ramp_of (numbers_of m b) entry exit;
    }

-- the ramp between two squared speeds; zeros if no plan has them at the block's ends
abbrev pub ramp_between : Numbers → (entry exit : ℕ) → Ramp
ramp_between n entry exit = cond (rampable n entry exit) (ramp_of n entry exit) no_ramp

-- a block given out from its numbers, with that ramp
unfoldable pub given_between : Block → Numbers → (entry exit : ℕ) → Given
given_between b n entry exit =
    record {
      block = b;
      length = n.length;
      accel = n.accel;
      entry = entry;
      exit = exit;
      ramp = ramp_between n entry exit;
    }

-- what stands for a block given out where there is none
abbrev pub no_given : Given
no_given = record { block = no_block; length = 0; accel = 0; entry = 0; exit = 0; ramp = no_ramp }

-- how many numbers a block given out has beside its moves: its fields and eight more
abbrev pub given_size : ℕ
given_size = fields_size + 8

-- these numbers
abbrev pub given_numbers : Given → List ℕ
given_numbers g =
    g.block.feed
    ∷ g.block.radius
    ∷ g.block.mark
    ∷ g.length
    ∷ g.accel
    ∷ g.entry
    ∷ g.exit
    ∷ g.ramp.peak
    ∷ g.ramp.up
    ∷ g.ramp.cruise
    ∷ g.ramp.down
    ∷ []
