-- Demand 3 of the functions for C, without a host and with one. From what they promise and the theorems of planner and host alone.
use mathlib.Core.List.{List, ◌∷◌, []}
use mathlib.Core.Path.{◌≡◌, refl}
use Prim.Native.Nat.{ℕ}
use Rattle.machine.specs.Torque.{machine_of}
use Rattle.machine.specs.declared.Limits.{Limits}
use Rattle.line.specs.Answers.{Answer, answer_by}
use Rattle.line.specs.Blocks.{Call}
use Rattle.line.specs.Chains as chain
use Rattle.line.specs.declared.Call.TheVariants as call
use Rattle.planner.specs.Calls.{CalledAll, Freshened, Told, Showed}
use Rattle.planner.proofs.Demand.{demand3}
use Rattle.host.specs.Demand.{EventsDone}
use Rattle.host.specs.Events.{Held, EventDone}
use Rattle.host.specs.State.{fresh_host, host_numbers}
use Rattle.host.specs.declared.orders.Event.{Event}
use Rattle.host.specs.declared.orders.Event.TheVariants as event
use Rattle.host.proofs.Demand.{orders_demand3}
use Rattle.fullerecru.specs.Orders.{EventSeen, EventsSeen, ExportedOrders3}
use Rattle.fullerecru.specs.Planners as seen
use Rattle.fullerecru.specs.Planners.{Seen, SeenAs, SeenAll, ExportedAll, none, add_next, take_next, added, taken, ExportedDemand3}

-- The planner's calls behind the calls of C, with the answers of which C saw the numbers and the lists.
record Behind (memory : List ℕ) (calls : List Call) (seen : List Seen) (memory' : List ℕ) : Type 0 where
  pub answers : List Answer
  pub called : CalledAll memory calls answers memory'
  pub seen_are : SeenAll answers seen

behind : {m m' : List ℕ} {calls : List Call} {seen : List Seen} → ExportedAll m calls seen m' → Behind m calls seen m'
behind none = record { answers = []; called = chain.none; seen_are = seen.none }
behind (add_next {n} one more) =
    let b = behind more in
    record { answers = answer_by n ∷ b.answers; called = chain.next one b.called; seen_are = seen.next {s = seen.added n} refl b.seen_are }
behind (take_next {n} {moves} {moves'} {numbers} {numbers'} one more) =
    let b = behind more in
    record {
      answers = one.said ∷ b.answers;
      called = chain.next one.called b.called;
      seen_are = seen.next {s = seen.taken n moves moves' numbers numbers'} (one.number_is, one.moves_are, one.numbers_are) b.seen_are;
    }

-- DEMAND 3 for C. From `fullerecru_fresh` in any memory, for every list of `fullerecru_add` and `fullerecru_take`, refused ones included,
-- then `fullerecru_told` and `fullerecru_shown`.
pub exported_demand3 : {m₀ m m' loaded lent left : List ℕ} {l : Limits} {calls : List Call} {seen : List Seen} {refusal told number : ℕ}
    → Freshened m₀ l loaded refusal m → refusal ≡ 0 → ExportedAll m calls seen m' → Told m' told → Showed m' lent (answer_by number) left
    → ExportedDemand3 (machine_of l loaded) calls seen told lent number left
exported_demand3 fresh passed calls told showed =
    let b = behind calls in
    record { answers = b.answers; seen_are = b.seen_are; demand = demand3 fresh passed b.called told showed }

-- The same of one call with orders among them: the answer of which C saw the number and the lists.
record OneBehind (s : Held) (e : Event) (n : Seen) (s' : Held) : Type 0 where
  pub answer : Answer
  pub done : EventDone s e answer s'
  pub seen_as : SeenAs answer n

one_behind : {s s' : Held} (e : Event) (n : Seen) → EventSeen s e n s' → OneBehind s e n s'
one_behind (event.Order o offset) (added n) one = record { answer = answer_by n; done = one; seen_as = refl }
one_behind (event.Order o offset) (taken n moves moves' numbers numbers') one = absurd one
one_behind (event.Call (call.Add b)) (added n) one = record { answer = answer_by n; done = one; seen_as = refl }
one_behind (event.Call (call.Add b)) (taken n moves moves' numbers numbers') one = absurd one
one_behind (event.Call call.Take) (added n) one = absurd one
one_behind (event.Call call.Take) (taken n moves moves' numbers numbers') one =
    let t = one.0 in
    record { answer = t.said; done = (t.called, one.1); seen_as = (t.number_is, t.moves_are, t.numbers_are) }

record EventsBehind (s : Held) (events : List Event) (seen : List Seen) (s' : Held) : Type 0 where
  pub answers : List Answer
  pub done : EventsDone s events answers s'
  pub seen_are : SeenAll answers seen

events_behind : {s s' : Held} {events : List Event} {seen : List Seen} → EventsSeen s events seen s' → EventsBehind s events seen s'
events_behind chain.none = record { answers = []; done = chain.none; seen_are = seen.none }
events_behind (chain.next {c} {a} one more) =
    let o = one_behind c a one in
    let b = events_behind more in
    record { answers = o.answer ∷ b.answers; done = chain.next o.done b.done; seen_are = seen.next {s = a} o.seen_as b.seen_are }

-- DEMAND 3 for C with a host. From `fullerecru_fresh` in any memory and `fullerecru_host_fresh`, for every list of `fullerecru_rapid`, `_feed`,
-- `_curve_chord`, `_add` and `_take`, refused ones included, then `fullerecru_told` and `fullerecru_shown`.
pub exported_orders3 : {m₀ loaded lent left : List ℕ} {l : Limits} {events : List Event} {seen : List Seen} {refusal told number : ℕ} {s s' : Held}
    → Freshened m₀ l loaded refusal s.memory → refusal ≡ 0 → s.host ≡ host_numbers fresh_host → EventsSeen s events seen s'
    → Told s'.memory told → Showed s'.memory lent (answer_by number) left
    → ExportedOrders3 (machine_of l loaded) events seen told lent number left s'.host
exported_orders3 fresh passed at events told showed =
    let b = events_behind events in
    record { answers = b.answers; seen_are = b.seen_are; demand = orders_demand3 fresh passed at b.done told showed }
