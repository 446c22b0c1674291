-- Demand 3 with a host's orders in the list. From the promises of fresh, order, add, take, told and shown alone, and the planner's theorem.
use mathlib.Core.List.{List, ◌∷◌, []}
use mathlib.Core.Path.{◌≡◌, refl, sym, ap, subst, ◌∙◌}
use Prim.Native.Nat.{ℕ, zero, suc, ◌<◌}
use native.Mathlib.Omega.{arith}
use lib.ListN.{length}
use Rattle.display.specs.Display.{by_number, ◌then◌}
use Rattle.display.proofs.Answers.{at_zero, above_zero, then_first, then_second}
use Rattle.machine.specs.Torque.{machine_of}
use Rattle.machine.specs.declared.Limits.{Limits}
use Rattle.line.specs.Answers.{Answer, answer_by}
use Rattle.line.specs.Blocks.{Line, fresh_line, add, add_refusal, line_answer, line_after_all}
use Rattle.line.specs.Chains.{none, next}
use Rattle.line.proofs.Answers.{refused_by}
use Rattle.line.proofs.Chains.{chain_both}
use Rattle.planner.specs.Calls.{Called, CalledAll, MemoryHolds, Freshened, Told, Showed}
use Rattle.planner.proofs.Demand.{demand3}
use Rattle.host.specs.Fields.{readings_of, order_fault}
use Rattle.host.specs.State.{Host, fresh_host, host_of, host_numbers, host_behind, order_block}
use Rattle.host.specs.Calls.{Ordered, host_after}
use Rattle.host.specs.Events.{Held, EventDone, event_fault, calls_of, event_answer, event_line, event_host, calls_of_all, event_answers, host_after_all, planner_answers}
use Rattle.host.specs.Demand.{EventsDone, OrdersDemand3}
use Rattle.host.specs.declared.orders.Event.{Event}
use Rattle.host.specs.declared.orders.Event.TheVariants as event
use Rattle.host.specs.declared.orders.Order.{Order}
use Rattle.host.specs.declared.orders.Point.{Point}
use Rattle.host.proofs.Fields.{fields_read}
use Rattle.host.proofs.Hosts.{host_back, fresh_back}

-- What one event does, of a host and a line that the numbers hold: it is answered as they say, is a call of the planner or none, and leaves
-- numbers that hold the next host and line.
record Stepped (h : Host) (line : Line) (e : Event) (said : Answer) (s s' : Held) : Type 0 where
  pub answer : said ≡ event_answer h line e
  pub called : CalledAll s.memory (calls_of h e) (by_number (event_fault e) (said ∷ []) []) s'.memory
  pub host : host_of s'.host ≡ event_host h line e
  pub holds : MemoryHolds s'.memory (event_line h line e)

module _ {s s' : Held} (h : Host) (line : Line) (kept : host_of s.host ≡ h) (holds : MemoryHolds s.memory line) where
  module _ {o : Order} {offset : Point} {said : Answer} (done : Ordered s.memory s.host o offset said s'.memory s'.host) where
    -- An order whose fields pass is the add of its block,
    order_call : order_fault o offset ≡ 0 → Called s.memory (add (order_block h o offset)) said s'.memory
    order_call e = subst (λ (g : Host). Called s.memory (add (order_block g o offset)) said s'.memory) kept (done.block e)

    -- which moves the host where it is accepted.
    moved : (n : ℕ) → add_refusal (length line.blocks) (order_block h o offset) ≡ n → said ≡ answer_by n
        → host_of s'.host ≡ by_number n (host_behind h (readings_of o offset)) h
    moved zero e f =
        ap host_of (done.host_is ∙ ap (λ (a : Answer). host_after a s.host (readings_of o offset)) f)
        ∙ ap (λ (g : Host). host_of (host_numbers (host_behind g (readings_of o offset)))) kept
        ∙ host_back h (readings_of o offset) (length line.blocks) (fields_read o offset) e
    moved (suc n) e f = ap host_of (done.host_is ∙ ap (λ (a : Answer). host_after a s.host (readings_of o offset)) f) ∙ kept

    order_passed : order_fault o offset ≡ 0 → Stepped h line (event.Order o offset) said s s'
    unfolding line_answer line_after_all
    order_passed e =
        let call = order_call e in
        let by = call.line line holds in
        record {
          answer = by.0 ∙ sym (at_zero _ _ e);
          called = rw (at_zero (add (order_block h o offset) ∷ []) [] e, at_zero (said ∷ []) [] e) (next call none);
          host = moved _ refl by.0 ∙ ap (λ (n : ℕ). by_number n (host_behind h (readings_of o offset)) h) (sym (then_second e refl));
          holds = rw (at_zero (add (order_block h o offset) ∷ []) [] e) by.1;
        }

    -- One of which a field is refused leaves both as they were.
    order_refused : 0 < order_fault o offset → Stepped h line (event.Order o offset) said s s'
    unfolding line_after_all
    order_refused e =
        let field = done.field e in
        let fault = order_fault o offset in
        let same = done.unchanged fault field.0 in
        let all = fault then add_refusal (length line.blocks) (order_block h o offset) in
        let above : 0 < all = rw (then_first (add_refusal (length line.blocks) (order_block h o offset)) e) e in
        record {
          answer = field.0 ∙ sym (refused_by fault e) ∙ sym (above_zero _ _ e);
          called = rw (above_zero (add (order_block h o offset) ∷ []) [] e, above_zero (said ∷ []) [] e, field.1) none;
          host = ap host_of same.1 ∙ kept ∙ sym (above_zero (host_behind h (readings_of o offset)) h {n = all} above);
          holds = rw (above_zero (add (order_block h o offset) ∷ []) [] e, field.1) holds;
        }

  stepped : (e : Event) {said : Answer} → EventDone s e said s' → Stepped h line e said s s'
  unfolding line_after_all
  stepped (event.Order o offset) {said} done = go (order_fault o offset) refl
    where
      go : (n : ℕ) → order_fault o offset ≡ n → Stepped h line (event.Order o offset) said s s'
      go zero e = order_passed done e
      go (suc n) e = order_refused done (omega (arith, e))
  stepped (event.Call c) done =
      let by = done.0.line line holds in
      record { answer = by.0; called = next done.0 none; host = ap host_of done.1 ∙ kept; holds = by.1 }

-- What a list of events does.
record Run (h : Host) (line : Line) (events : List Event) (answers : List Answer) (s s' : Held) : Type 0 where
  pub answered : answers ≡ event_answers h line events
  pub called : CalledAll s.memory (calls_of_all h line events) (planner_answers events answers) s'.memory
  pub host : host_of s'.host ≡ host_after_all h line events

run : {s s' : Held} {events : List Event} {answers : List Answer} → EventsDone s events answers s' → (h : Host) (line : Line) → host_of s.host ≡ h
    → MemoryHolds s.memory line → Run h line events answers s s'
unfolding calls_of_all event_answers host_after_all planner_answers
run none h line kept holds = record { answered = refl; called = none; host = kept }
run (next {c} one more) h line kept holds =
    let step = stepped h line kept holds c one in
    let rest = run more (event_host h line c) (event_line h line c) step.host step.holds in
    record { answered = λ i. step.answer i ∷ rest.answered i; called = chain_both step.called rest.called; host = rest.host }

-- DEMAND 3 with orders. From a fresh planner of any limits and loaded torque steps in any memory and a fresh host, for every list of orders, adds
-- and takes, refused ones included, then told and shown: every one is answered as the host and the line of blocks say, demand 3 holds of the
-- planner's calls among them, each order the add of its block, and the host's point is the last accepted order's.
pub orders_demand3 : {m₀ loaded lent left : List ℕ} {l : Limits} {refusal told : ℕ} {events : List Event} {answers : List Answer} {said : Answer} {s s' : Held}
    → Freshened m₀ l loaded refusal s.memory → refusal ≡ 0 → s.host ≡ host_numbers fresh_host → EventsDone s events answers s'
    → Told s'.memory told → Showed s'.memory lent said left
    → OrdersDemand3 (machine_of l loaded) events answers told lent said left s'.host
orders_demand3 {loaded} {l} fresh passed at done told showed =
    let ran = run done fresh_host (fresh_line (machine_of l loaded)) (ap host_of at ∙ fresh_back) (fresh.line passed) in
    record { answered = ran.answered; demand = demand3 fresh passed ran.called told showed; host_is = ran.host }
