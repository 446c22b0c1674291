-- `words::scan::part` meets its contract: each slot is as in the one list. From `parted`.
use Rattle.std.proofs.Common.{◌≤◌, arith}
use Rattle.words.specs.Words.{slots}
use Rattle.words.proofs.ApartLaws.{parted}
use Rattle.words.proofs.scan.part.Goals as goal

pub returns : goal.returns
returns c =
    let l = c.loop-k in
    let all : slots ≤ l.k = omega arith in
    parted c.args.words.now c.args.values.now c.told-words c.told-values l.stands l.values (record { told = l.invariant.told; numbers = l.invariant.numbers })
    (λ k h. l.invariant.stands k (omega arith)) (λ k h. l.invariant.values k (omega arith))
