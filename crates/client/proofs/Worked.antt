-- The worked results: what the definitions compute of their lines, and what follows for answers that are the line's.
use mathlib.Core.List.{List, ◌∷◌, []}
use mathlib.Core.Path.{◌≡◌, refl, ap, ◌∙◌}
use Prim.Native.Nat.{ℕ}
use native.Mathlib.Omega.{arith}
use lib.IntN.{pos}
use lib.ListN.{length}
use Rattle.arith.specs.Root.{root_of, root_by_digits, next_root}
use Rattle.arith.specs.Quotient.{capped_quotient}
use Rattle.fields.specs.Bytes.{number_of}
use Rattle.fields.specs.Layouts.{joined}
use Rattle.profile.specs.Passes.{brake, start_limit, forward, plan_of}
use Rattle.machine.specs.Checks.{limits_within, limits_refusal, greatest_move, block_refusal}
use Rattle.machine.specs.Numbers.{length_from, axis_limit, each_axis, speed_of, axis_accel, accel_of, reach_from, chord_factor, block_cap_from, numbers_of, turn_from, corner_from, corner_cap, junction_cap, peak_of, up_of, down_of, ramp_of}
use Rattle.machine.specs.Torque.{machine_refusal, steps_refusal, torque_percent}
use Rattle.machine.specs.Line.{spans_after, spans_of}
use Rattle.machine.specs.declared.Block.{Block}
use Rattle.machine.specs.declared.Limits.{Limits}
use Rattle.line.specs.Answers.{Answer, accepted, gave, refused, given_of}
use Rattle.line.specs.Blocks.{add, take, fresh_line, line_plan, line_answer, line_after}
use Rattle.line.specs.declared.Given.{Given}
use Rattle.planner.specs.Calls.{MemoryHolds, Freshened, Called, Showed}
use Rattle.cases.specs.Shop.{limits_m, machine_m}
use Rattle.client.specs.Work.{Gives, block_of, line_of_one, line_of_two}

-- the limits of machine M pass 1, and no loaded steps 14
machine_pass : machine_refusal limits_m [] ≡ 0
unfolding limits_refusal limits_within steps_refusal
machine_pass = refl

-- one block added to a fresh planner on machine M, and two: the memory holds their line
pub held_fresh : {m n : List ℕ} {l : Limits} {refusal : ℕ} → l ≡ limits_m → Freshened m l [] refusal n → MemoryHolds n (fresh_line machine_m)
held_fresh e f = rw e at (f.line (f.answer ∙ ap (λ (l : Limits). machine_refusal l []) e ∙ machine_pass))

module _ (a b : Block) {m n p : List ℕ} {l : Limits} {refusal : ℕ} {x : Block} {said : Answer} (el : l ≡ limits_m) (ex : x ≡ a) where
  pub held_one : Freshened m l [] refusal n → Called n (add x) said p → MemoryHolds p (line_of_one a)
  held_one f g = rw ex at (g.line (fresh_line machine_m) (held_fresh el f)).1

  pub held_two : {q : List ℕ} {y : Block} {also : Answer} → y ≡ b → Freshened m l [] refusal n → Called n (add x) said p → Called p (add y) also q → MemoryHolds q (line_of_two a b)
  held_two ey f g h = rw ey at (h.line (line_of_one a) (held_one f g)).1

-- the right-angle pair; a block along X, and one that does not move
abbrev pub east : Block
east = block_of (pos 1_000) (pos 0) 7

abbrev pub north : Block
north = block_of (pos 0) (pos 1_000) 8

abbrev pub ahead : Block
ahead = block_of (pos 1_000) (pos 0) 0

abbrev pub still : Block
still = block_of (pos 0) (pos 0) 0

-- a block of the right-angle pair as it is given out
abbrev pair_given : Block → (entry exit up down : ℕ) → Given
pair_given b entry exit up down =
    record {
      block = b;
      length = 1_000;
      accel = 200_000;
      entry = entry;
      exit = exit;
      ramp = record { peak = 201_000_000; up = up; cruise = 0; down = down };
    }

-- What the definitions compute.
pub record Worked : Type 0 where
  -- the plan of two blocks straight on
  pub straight : line_plan (line_of_two ahead ahead) ≡ 0 ∷ 400_000_000 ∷ 0 ∷ []
  -- the right-angle pair, given out block after block
  pub first : line_answer (line_of_two east north) take ≡ gave (pair_given east 0 2_000_000 502 498)
  pub second : line_answer (line_after (line_of_two east north) take) take ≡ gave (pair_given north 2_000_000 0 497 503)
  -- the block that does not move is refused by 2, and the line stays
  pub refusal : line_answer (line_of_one ahead) (add still) ≡ refused 2
  pub stays : length (line_after (line_of_one ahead) (add still)).blocks ≡ 1

pub worked : Worked
unfolding line_after line_answer given_of root_of root_by_digits next_root capped_quotient brake start_limit forward plan_of length_from axis_limit each_axis speed_of number_of joined torque_percent axis_accel accel_of reach_from chord_factor block_cap_from numbers_of turn_from corner_from corner_cap junction_cap peak_of up_of down_of ramp_of spans_after spans_of greatest_move block_refusal
worked = record { straight = refl; first = refl; second = refl; refusal = refl; stays = refl }

-- an answer has one case, and one block or number in it
gives : (g : Given) (b : Block) (entry exit up down : ℕ) → gave g ≡ gave (pair_given b entry exit up down) → Gives g b.mark entry exit up down
gives g b entry exit up down e =
    let same : g ≡ pair_given b entry exit up down = cc in
    rw same
    record {
      mark_is = refl;
      length_is = refl;
      accel_is = refl;
      entry_is = refl;
      exit_is = refl;
      ramp_is = record { peak_is = refl; up_is = refl; cruise_is = refl; down_is = refl };
    }

never_refused : (n : ℕ) (g : Given) → refused n ≡ gave g → ⊥
never_refused n g e = let z : ◌≡◌ {A = ℕ} 0 1 = cc in omega arith

not_accepted : (n : ℕ) → accepted ≡ refused n → ⊥
not_accepted n e = let z : ◌≡◌ {A = ℕ} 0 1 = cc in omega arith

same_number : (n m : ℕ) → refused n ≡ refused m → n ≡ m
same_number n m e = cc

-- so the pair is given out with these numbers
pub gives_first : (g : Given) → gave g ≡ line_answer (line_of_two east north) take → Gives g 7 0 2_000_000 502 498
gives_first g e = gives g east _ _ _ _ (e ∙ worked.first)

pub gives_second : (g : Given) → gave g ≡ line_answer (line_after (line_of_two east north) take) take → Gives g 8 2_000_000 0 497 503
gives_second g e = gives g north _ _ _ _ (e ∙ worked.second)

pub first_given : (n : ℕ) → refused n ≡ line_answer (line_of_two east north) take → ⊥
first_given n e = never_refused n _ (e ∙ worked.first)

pub second_given : (n : ℕ) → refused n ≡ line_answer (line_after (line_of_two east north) take) take → ⊥
second_given n e = never_refused n _ (e ∙ worked.second)

-- the block that does not move is refused by 2
pub still_number : (n : ℕ) → refused n ≡ line_answer (line_of_one ahead) (add still) → n ≡ 2
still_number n e = same_number n 2 (e ∙ worked.refusal)

pub still_refused : accepted ≡ line_answer (line_of_one ahead) (add still) → ⊥
still_refused e = not_accepted 2 (e ∙ worked.refusal)

-- a list of one number is refused by 11 where one block is held, and stays
pub short_shown : {m left : List ℕ} {n : ℕ} {said : Answer} → MemoryHolds m (line_of_one ahead) → Showed m (n ∷ []) said left → (said ≡ refused 11) × (left ≡ n ∷ [])
unfolding line_after greatest_move block_refusal
short_shown h s = (s.line (line_of_one ahead) h).other (λ e. omega arith)

pub shown_refused : {said : Answer} → said ≡ refused 11 → accepted ≡ said → ⊥
shown_refused e q = not_accepted 11 (q ∙ e)

pub short_number : {said : Answer} (n : ℕ) → said ≡ refused 11 → refused n ≡ said → n ≡ 11
short_number n e q = same_number n 11 (q ∙ e)
