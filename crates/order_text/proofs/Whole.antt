-- What is written chunk by chunk, then for a cut event and at the end, is the text of the whole orders. From the laws of turns and heads and the
-- host's theorem.
use mathlib.Core.Path.{◌≡◌, ap, ◌∙◌}
use mathlib.Core.List.{List, ◌++◌}
use Prim.Native.Nat.{ℕ, ◌-◌, ◌<◌}
use native.Mathlib.Omega.{arith}
use lib.ListN.{length, take, drop}
use Rattle.fields.specs.Records.{cut_place, whole_records}
use Rattle.display.specs.Display.{given, refused}
use Rattle.machine.specs.Torque.{machine_of}
use Rattle.machine.specs.declared.Limits.{Limits}
use Rattle.planner.specs.Calls.{Freshened}
use Rattle.tape.specs.Tape.{limits_bytes, limits_at}
use Rattle.tape.specs.Answers.{read_limits}
use Rattle.text.specs.Text.{refused_at}
use Rattle.text.proofs.Store.{take_front, stored_next}
use Rattle.host.specs.State.{fresh_host, host_numbers, position_of}
use Rattle.host.specs.Events.{Held}
use Rattle.host.proofs.Demand.{orders_demand3}
use Rattle.replay_text.specs.Texts.{answers_text, cut_text}
use Rattle.replay_text.specs.Turns.{chunks_joined, Chunked, place_in, Turns}
use Rattle.replay_text.proofs.Heads.{limits_refused, steps_refused, head_passed}
use Rattle.replay_text.proofs.Turns.{turns_whole, place_input}
use Rattle.order_text.specs.Orders.{event_bytes, event_of, orders_events}
use Rattle.order_text.specs.Texts.{recorded_events, closing_orders, events_text, orders_text}
use Rattle.order_text.specs.Closes.{ClosedOrders}

module _ (s loaded : List ℕ) where
  -- the place of the orders' cut event, and the text of their events
  abbrev place : ℕ
  place = cut_place event_bytes 0 (length s - limits_bytes)

  abbrev body : List ℕ
  body = events_text (machine_of (limits_at s) loaded) (orders_events s) place

  -- Orders or steps that are refused have that one line, by the limits,
  pub refusal_written : {n : ℕ} → read_limits (take limits_bytes s) ≡ refused n → refused_at n 0 ≡ orders_text s loaded
  unfolding orders_text
  refusal_written e = limits_refused s loaded body e

  -- or by the steps, which the planner refuses.
  pub steps_written : {l : Limits} {n : ℕ} {m₀ m : List ℕ} → read_limits (take limits_bytes s) ≡ given l → Freshened m₀ l loaded n m → 0 < n → refused_at n 0 ≡ orders_text s loaded
  unfolding orders_text
  steps_written e f h = steps_refused s loaded body e f h

  -- Any other orders: what is written chunk by chunk from a fresh planner and a fresh host, then the line of a cut event, and then the closing
  -- lines are their whole text.
  pub orders_written : {l : Limits} {chunks : List (List ℕ)} {m₀ written text text' : List ℕ} {n end : ℕ} {h h' : Held} → read_limits (take limits_bytes s) ≡ given l
      → Freshened m₀ l loaded n h.memory → n ≡ 0 → h.host ≡ host_numbers fresh_host → chunks_joined chunks ≡ drop limits_bytes s → Chunked recorded_events chunks
      → Turns recorded_events chunks h h' written → ClosedOrders h' text end text'
      → written ++ cut_text (place_in recorded_events 0 chunks) ++ take end text' ≡ orders_text s loaded
  unfolding orders_text
  orders_written {l} {chunks} e f passed at j c r closing =
      let head = head_passed s loaded body e f passed in
      let ran = turns_whole recorded_events (omega arith) c r in
      let cut : place_in recorded_events 0 chunks ≡ place = place_input recorded_events (omega arith) s chunks c j in
      let closed = closing.closed in
      let demand = orders_demand3 f passed at ran.called closed.tells closed.shows in
      let number = demand.demand.number in
      let plan = (demand.demand.plan.fits (rw number at closed.fits)).1 in
      (λ i. (ran.all_is ∙ ap answers_text demand.answered) i
      ++ cut_text (cut i)
      ++ (take_front (stored_next closed.ended.stored closing.stored (omega arith)) ∙ (λ k. closing_orders (number k) (plan k) (position_of (demand.host_is k)))) i)
      ∙ (λ i. events_text (machine_of (head.1 i) loaded) (whole_records event_bytes event_of (j i)) place)
      ∙ head.0
