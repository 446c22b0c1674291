-- `words::scan::join` meets its contract: each slot has the number of the word that stands there, or none. From `parted`.
use mathlib.Core.Path.{sym, ap, ◌∙◌}
use Rattle.std.proofs.Common.{◌≤◌, ℤ, Option, pos, false, get_or, arith}
use Rattle.std.specs.Option.{is_some, unwrap_or}
use Rattle.words.specs.Words.{slots}
use Rattle.words.proofs.ApartLaws.{joined_stands, joined_value, parted}
use Rattle.words.proofs.scan.join.Goals as goal

pub returns : goal.returns
returns c =
    let stands = c.args.stands.now in
    let values = c.args.values.now in
    let l = c.loop-k in
    let all : slots ≤ l.k = omega arith in
    sym
    (parted l.words values l.invariant.0 c.told-values stands values (record { told = c.told-stands; numbers = c.told-values })
    (λ k h. sym (ap is_some (l.invariant.1 k (omega arith)) ∙ joined_stands (get_or stands k false) (get_or values k (pos 0))))
    (λ k h. sym (ap (λ (o : Option ℤ). unwrap_or o (get_or values k (pos 0))) (l.invariant.1 k (omega arith)) ∙ joined_value (get_or stands k false) (get_or values k (pos 0)))))
