-- `machine::measure::block_cap` meets its contract: no product passes 64 bits but the one that the quotient takes.
use mathlib.Core.Path.{sym, ap, ◌∙◌}
use Prim.Native.Nat.{ℕ, ◌*◌}
use borrow.Author.Tests.{eq-eqb, ne_eqb}
use Rattle.arith.specs.Quotient.{capped_quotient}
use Rattle.machine.specs.Numbers.{block_cap_from}
use Rattle.machine.proofs.measure.block_cap.Goals as goal

pub returns-then-radius-eq0 : goal.returns-then-radius-eq0
unfolding block_cap_from
returns-then-radius-eq0 c = simp (eq-eqb _ _ c.if-radius-eq0.true)

pub returns : goal.returns
unfolding block_cap_from
returns c =
    let a = c.args in
    c.capped_quotient.ensures
    ∙ ap (λ (n : ℕ). capped_quotient (a.speed * a.speed) (n * 1_000_000_000_000) (a.l.tick * a.l.tick)) c.chord_factor.ensures
    ∙ sym (simp (ne_eqb _ _ c.if-radius-eq0.false))
