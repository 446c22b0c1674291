-- `planner::ring::forward_pass`: up to junction k the list holds the forward pass, behind it the backward pass. From the laws of the passes in place, with the reach read of block k.
use Rattle.std.proofs.Common.{◌≡◌, ℕ, ◌+◌, ◌<◌, ◌≤◌, List, length, set, arith, length-set, rules}
use Rattle.profile.specs.Line.{number_at}
use Rattle.profile.specs.Passes.{exit_from, forward}
use Rattle.profile.proofs.Kept.{forwarded_all}
use Rattle.profile.proofs.InPlace.{InPlace, in_place_first, in_place_exit}
use Rattle.line.specs.Ring.{slot, spans_in}
use Rattle.line.proofs.Shows.{spans_in_length}
use Rattle.planner.specs.View.{base_of, place_from, view_of}
use Rattle.planner.proofs.Shows.{span_reach}
use Rattle.planner.proofs.ring.forward_pass.Goals as goal

turn : (m list : List ℕ) (n committed k at reach v : ℕ) → length list ≡ n + 1 → k < n → at ≡ base_of (slot (view_of m) k)
    → reach ≡ (place_from m at).reach → v ≡ exit_from (number_at list k) reach (number_at list (k + 1))
    → InPlace committed (spans_in (view_of m) n 0) list k → InPlace committed (spans_in (view_of m) n 0) (set list (k + 1) v) (k + 1)
turn m list n committed k at reach v sized h here r e b =
    let all = spans_in_length (view_of m) n 0 in
    in_place_exit (spans_in (view_of m) n 0) list (omega arith) committed k v (omega arith) (omega (arith, span_reach m n k at here h)) b

ends : (m list : List ℕ) (n committed k : ℕ) → length list ≡ n + 1 → n ≤ k → InPlace committed (spans_in (view_of m) n 0) list k → list ≡ forward committed (spans_in (view_of m) n 0)
ends m list n committed k sized h b =
    let all = spans_in_length (view_of m) n 0 in
    forwarded_all committed (spans_in (view_of m) n 0) list (omega arith) (λ i p. b.0 i (omega arith))

pub loop-k-init : goal.loop-k-init
unfolding view_of
loop-k-init c =
    let m = c.args.memory.now in
    let all = spans_in_length (view_of m) c.args.n 0 in (
      rw length-set c.requires.sized,
      in_place_first (spans_in (view_of m) c.args.n 0) c.args.list.now (omega (arith, c.requires.sized)) (view_of m).committed c.requires.braked,
    )

pub loop-k-preserved : goal.loop-k-preserved
unfolding view_of
loop-k-preserved c =
    let m = c.args.memory.now in (
      search rules,
      turn m c.loop-k.list c.args.n (view_of m).committed c.loop-k.k c.place.result.base c.reach_at-reach.result _ c.loop-k.invariant.0 (search rules)
          c.place.ensures c.reach_at-reach.ensures c.exit_from.ensures c.loop-k.invariant.1,
    )

pub returns : goal.returns
returns c =
    ends c.args.memory.now c.loop-k.list c.args.n (view_of c.args.memory.now).committed c.loop-k.k c.loop-k.invariant.0 (search rules) c.loop-k.invariant.1
