-- Each promise to C has one outcome: the number returned, the memory and the lent lists.
use mathlib.Core.List.{List, ◌++◌}
use mathlib.Core.Path.{◌≡◌, refl, sym, ap, subst, ◌∙◌}
use Prim.Native.Nat.{ℕ, zero, suc, ◌+◌}
use native.Mathlib.Omega.{arith}
use lib.IntN.{ℤ}
use lib.ListN.{length, drop, take-append-drop}
use Rattle.machine.specs.declared.Block.{Block}
use Rattle.machine.specs.declared.Machine.{Machine}
use Rattle.line.specs.Answers.{Answer, answer_by, answer_number}
use Rattle.line.specs.Blocks.{Call, add, add_refusal}
use Rattle.line.specs.Ring.{ring_answer, show_refusal}
use Rattle.line.proofs.Demand.{demand_one}
use Rattle.planner.specs.Calls.{Called, Showed}
use Rattle.planner.specs.View.{view_of}
use Rattle.planner.proofs.Determined.{called_one}
use Rattle.host.specs.Calls.{Ordered}
use Rattle.host.specs.declared.orders.Order.{Order}
use Rattle.host.specs.declared.orders.Point.{Point}
use Rattle.host.proofs.Determined as host
use Rattle.replay.specs.Rows.{rows_of}
use Rattle.replay.specs.Replays.{Demanded}
use Rattle.fullerecru.specs.Planners.{moves_after, numbers_after, TakenOut}
use Rattle.fullerecru.specs.Plans.{PlanLent, ReplayLent}
use Rattle.fullerecru.proofs.Displayed.{number_back}

one_number : {n k : ℕ} → answer_by n ≡ answer_by k → n ≡ k
one_number {n} {k} e = sym (number_back n) ∙ ap answer_number e ∙ number_back k

-- The number that C gets of an add, and of showing the plan,
pub added_number : {m m' : List ℕ} {b : Block} {n : ℕ} → Called m (add b) (answer_by n) m' → n ≡ add_refusal (view_of m).count b
unfolding ring_answer
added_number p = one_number p.answer

pub shown_number : {m lent left : List ℕ} {n : ℕ} → Showed m lent (answer_by n) left → n ≡ show_refusal (view_of m) (length lent)
shown_number p = one_number p.answer

-- all that an order returns and leaves,
pub ordered_one : {m h a b c d : List ℕ} {o : Order} {offset : Point} {n k : ℕ} → Ordered m h o offset (answer_by n) a c → Ordered m h o offset (answer_by k) b d
    → (n ≡ k) × ((a ≡ b) × (c ≡ d))
ordered_one p q = let s = host.ordered_one p q in (one_number s.0, s.1)

-- all that a take returns and leaves,
pub taken_one : {m a b numbers na nb : List ℕ} {moves ma mb : List ℤ} {n k : ℕ} → TakenOut m n a moves ma numbers na → TakenOut m k b moves mb numbers nb
    → (n ≡ k) × (a ≡ b) × (ma ≡ mb) × (na ≡ nb)
taken_one {numbers} {moves} p q =
    let s = called_one p.called q.called in (
      p.number_is ∙ ap answer_number s.0 ∙ sym q.number_is,
      s.1,
      p.moves_are ∙ ap (λ (x : Answer). moves_after x moves) s.0 ∙ sym q.moves_are,
      p.numbers_are ∙ ap (λ (x : Answer). numbers_after x numbers) s.0 ∙ sym q.numbers_are,
    )

-- a whole tape's plan,
pub planned_one : {tape loaded lent a b p q : List ℕ} {n k : ℕ} → PlanLent tape loaded n lent a p → PlanLent tape loaded k lent b q → (n ≡ k) × (a ≡ b) × (p ≡ q)
planned_one x y = (x.number_is ∙ sym y.number_is, x.list_is ∙ sym y.list_is, x.place_is ∙ sym y.place_is)

demanded_one : {m : Machine} {calls : List Call} {told : ℕ} {a b plan p q : List ℕ} → Demanded m calls told a plan p → Demanded m calls told b plan q → (a ≡ b) × (p ≡ q)
demanded_one {told} {p} {q} x y =
    let d = demand_one x.demand y.demand in
    let back : drop (told + 1) p ≡ drop (told + 1) q = x.rest ∙ sym y.rest in
    (x.rows ∙ ap rows_of d.0 ∙ sym y.rows, sym (take-append-drop (told + 1) p) ∙ (λ i. d.3 i ++ back i) ∙ take-append-drop (told + 1) q)

-- and the run of a trace.
pub replayed_one : {trace loaded answers a b plan p q told t u : List ℕ} {n k : ℕ} → ReplayLent trace loaded n answers a plan p told t → ReplayLent trace loaded k answers b plan q told u
    → (n ≡ k) × (a ≡ b) × (p ≡ q) × (t ≡ u)
replayed_one {trace} {loaded} {answers} {a} {b} {plan} {p} {q} {told} {t} {u} {n} {k} x y =
    let same : n ≡ k = x.number_is ∙ sym y.number_is in
    let rest = go n x (subst (λ (j : ℕ). ReplayLent trace loaded j answers b plan q told u) (sym same) y) in
    (same, rest.0, rest.1, rest.2)
  where
    go : (j : ℕ) → ReplayLent trace loaded j answers a plan p told t → ReplayLent trace loaded j answers b plan q told u → (a ≡ b) × (p ≡ q) × (t ≡ u)
    go zero x y = let d = demanded_one (x.run refl) (y.run refl) in (d.0, d.1, x.told_is ∙ sym y.told_is)
    go (suc j) x y =
        let v = x.refused (omega arith) in
        let w = y.refused (omega arith) in
        (v.answers_same ∙ sym w.answers_same, v.plan_same ∙ sym w.plan_same, x.told_is ∙ sym y.told_is)
