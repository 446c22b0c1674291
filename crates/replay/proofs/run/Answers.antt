-- `replay::run` meets its contract: before call k those before it have been run, each into its row. From `ran_none` and `ran_stored`.
use mathlib.Core.Path.{◌≡◌, subst}
use mathlib.Core.List.{List}
use Prim.Native.Nat.{ℕ, ◌+◌, ◌-◌, ◌*◌, ◌/◌}
use native.Mathlib.Omega.{arith}
use lib.ListN.{length}
use lib.Seq.{take_all}
use Rattle.planner.specs.Calls.{Called}
use Rattle.replay.specs.Trace.{call_bytes, call_of, calls_from}
use Rattle.replay.specs.Rows.{row_of, row_size}
use Rattle.replay.specs.Runs.{Ran}
use Rattle.replay.proofs.Runs.{ran_none, ran_stored}
use borrow.Author.Rules.{rules}
use Rattle.replay.proofs.run.Goals as goal

pub loop-k-init : goal.loop-k-init
loop-k-init c = (search rules, ran_none call_bytes call_of c.args.bytes.now c.args.memory.now)

pub loop-k-preserved : goal.loop-k-preserved
loop-k-preserved c =
    let k = c.loop-k.k in (
      search rules,
      ran_stored c.args.bytes.now c.loop-k.answers c.write_row.new.row k (row_size * k + row_size - row_size * k) (search rules) c.loop-k.invariant.1
          c.read_call.ensures c.call-answer.ensures c.write_row.ensures,
    )

pub returns : goal.returns
returns c =
    let s = c.args in
    let all : c.loop-k.k ≡ length s.bytes.now / call_bytes = search rules in
    subst (λ (j : ℕ). Ran Called row_of (calls_from s.bytes.now 0 j) s.memory.now c.loop-k.memory c.loop-k.answers) all
    (subst (λ (rows : List ℕ). Ran Called row_of (calls_from s.bytes.now 0 c.loop-k.k) s.memory.now c.loop-k.memory rows) (take_all (row_size * c.loop-k.k) c.loop-k.answers (omega arith)) c.loop-k.invariant.1)
