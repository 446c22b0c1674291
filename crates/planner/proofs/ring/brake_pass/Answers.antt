-- `planner::ring::brake_pass`: from junction k on the list holds the backward pass. From the laws of the pass in place, with the numbers read for block k.
use Rattle.std.proofs.Common.{◌≡◌, ℕ, ◌+◌, ◌-◌, ◌<◌, ◌≤◌, List, length, set, sym, arith, rules}
use Rattle.profile.specs.Line.{number_at}
use Rattle.profile.specs.Passes.{Braked, brake_from}
use Rattle.profile.proofs.InPlace.{store_end, store_brake}
use Rattle.line.specs.Ring.{slot, spans_in}
use Rattle.line.proofs.Shows.{spans_in_length}
use Rattle.planner.specs.View.{base_of, place_from, view_of}
use Rattle.planner.proofs.Shows.{span_cap, span_reach}
use Rattle.planner.proofs.ring.brake_pass.Goals as goal

turn : (m list : List ℕ) (n k at v : ℕ) → length list ≡ n + 1 → 1 < k → k ≤ n → at ≡ base_of (slot (view_of m) (k - 1))
    → v ≡ brake_from (place_from m at).junction (place_from m at).reach (number_at list (k - 1 + 1))
    → Braked (spans_in (view_of m) n 0) (number_at list) k → Braked (spans_in (view_of m) n 0) (number_at (set list (k - 1) v)) (k - 1)
turn m list n k at v sized p h here e b =
    let all = spans_in_length (view_of m) n 0 in
    store_brake (spans_in (view_of m) n 0) list (omega arith) (k - 1) v (omega arith)
    (omega (arith, span_cap m n (k - 1) at here (omega arith) (omega arith), span_reach m n (k - 1) at here (omega arith)))
    (λ i q. b i (omega arith))

pub loop-k-init : goal.loop-k-init
loop-k-init c =
    let all = spans_in_length (view_of c.args.memory.now) c.args.n 0 in
    (search rules, store_end (spans_in (view_of c.args.memory.now) c.args.n 0) c.args.list.now (omega arith) _ (sym all))

pub loop-k-preserved : goal.loop-k-preserved
unfolding view_of
loop-k-preserved c = (
  search rules,
  turn c.args.memory.now c.loop-k.list c.args.n c.loop-k.k c.place.result.base _ c.loop-k.invariant.0 c.loop-k-test.true c.loop-k.auto.k
      c.place.ensures c.brake_at.ensures c.loop-k.invariant.1,
)

pub returns : goal.returns
returns c =
    record { sized = c.loop-k.invariant.0; braked = λ i p. c.loop-k.invariant.1 i (omega arith) }
