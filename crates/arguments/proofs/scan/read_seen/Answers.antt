-- `arguments::scan::read_seen`: a turn looks at one word more, from `one_further`.
use Rattle.std.proofs.Common.{sym, subst, arith}
use Rattle.arguments.specs.Starts.{SeenBefore}
use Rattle.arguments.proofs.Scans.{none_before, one_further, all_before}
use Rattle.arguments.proofs.scan.read_seen.Goals as goal

pub loop-place-init : goal.loop-place-init
loop-place-init g c = (omega arith, subst (SeenBefore c.args.form 1) (sym c.none_seen-seen.ensures) (none_before c.args.form))

pub loop-place-preserved : goal.loop-place-preserved
loop-place-preserved g c =
    (omega arith, one_further _ c.loop-place.place c.loop-place.seen _ c.word_at.result (omega arith) c.loop-place.invariant.1 c.word_at.ensures c.with_word-seen.ensures)

pub returns : goal.returns
returns g c = all_before _ c.loop-place.place _ _ (omega arith) c.loop-place.invariant.1
