-- Demand 3 of the planner's own calls: from the promises of fresh, add, take, told and shown alone.
use Rattle.std.proofs.Common.{◌≡◌, ℕ, zero, suc, ◌≤◌, List, ◌∷◌, take, refl, arith}
use Rattle.machine.specs.Torque.{machine_of}
use Rattle.machine.specs.declared.Limits.{Limits}
use Rattle.line.specs.declared.Given.{Given}
use Rattle.line.specs.Answers.{Answer, gave}
use Rattle.line.specs.Blocks.{most_held, Call, Line, fresh_line, line_answers, line_after_all}
use Rattle.line.specs.Chains.{none, next}
use Rattle.line.specs.Demand.{GivenFrom, answer_at, Demand3}
use Rattle.line.proofs.Takes.{holds_given}
use Rattle.planner.specs.Calls.{MemoryHolds, CalledAll, Freshened, Told, Showed}

-- A planner tells no more than are held at most, whatever its memory holds.
pub told_few : {m : List ℕ} {told : ℕ} → Told m told → told ≤ most_held
told_few t = omega (arith, t.number_is)

-- Calls on a memory that holds a line are answered as the line says, and it holds the line after them.
pub called_line : {m m' : List ℕ} {calls : List Call} {answers : List Answer} → CalledAll m calls answers m' → (line : Line) → MemoryHolds m line
    → (answers ≡ line_answers line calls) × MemoryHolds m' (line_after_all line calls)
unfolding line_answers line_after_all
called_line none line h = (refl, h)
called_line (next one more) line h =
    let s = one.line line h in
    let t = called_line more _ s.1 in
    ((λ i. s.0 i ∷ t.0 i), t.1)

-- Each block given out among them has the first two speeds of the highest lawful profile as it stood before its take.
called_given : {m m' : List ℕ} {calls : List Call} {answers : List Answer} → CalledAll m calls answers m' → (line : Line) → MemoryHolds m line
    → (k : ℕ) (g : Given) → answer_at answers k ≡ gave g → GivenFrom (line_after_all line (take k calls)) g
unfolding line_after_all
called_given none line h k g e = absurd (let z : ◌≡◌ {A = ℕ} 0 1 = cc in omega arith)
called_given (next {c} one more) line h zero g e = holds_given h c g (let s = (one.line line h).0 in cc)
called_given (next one more) line h (suc k) g e = called_given more _ (one.line line h).1 k g e

-- DEMAND 3. From a fresh planner of any limits and loaded torque steps in any memory, for every list of adds and takes, each on the memory that the one before it left,
-- refused ones included, then told and shown: every call is answered as the line of blocks says, every block given out has
-- the speeds of the highest lawful profile as it stood then, the number told is the line's, and the plan shown is its highest
-- lawful profile.
pub demand3 : {m₀ m m' loaded lent left : List ℕ} {l : Limits} {refusal told : ℕ} {calls : List Call} {answers : List Answer} {said : Answer}
    → Freshened m₀ l loaded refusal m → refusal ≡ 0 → CalledAll m calls answers m' → Told m' told → Showed m' lent said left
    → Demand3 (machine_of l loaded) calls answers told lent said left
demand3 {loaded} {l} {calls} fresh passed called told showed =
    let begin = fresh.line passed in
    let end = line_after_all (fresh_line (machine_of l loaded)) calls in
    let run = called_line called (fresh_line (machine_of l loaded)) begin in
    record {
      answered = run.0;
      given = called_given called (fresh_line (machine_of l loaded)) begin;
      number = told.line end run.1;
      plan = showed.line end run.1;
    }
