-- `arith::quotient::capped_quotient` meets its contract: a quotient of 2^64 or more passes every cap; a smaller one is worked out.
use Rattle.std.proofs.Common.{ℕ, ◌*◌, ◌/◌, ◌^◌, min, sym, ap, ◌∙◌, mul-le-mul, arith}
use Rattle.arith.proofs.QuotientLaws.{quotient_cap, quotient_positive}
use Rattle.arith.proofs.quotient.capped_quotient.Goals as goal

pub returns-then-d-high : goal.returns-then-d-high
returns-then-d-high c =
    let a = c.args in
    let n = c.product-high.result in
    sym (quotient_cap a.cap (a.a * a.b) a.d (omega (arith, c.product-high.ensures, mul-le-mul {n₁ = a.cap} {m₁ = a.d} {n₂ = 2 ^ 64} {m₂ = n.high} (omega arith) c.if-d-high.true)))

pub returns-then-high-eq0 : goal.returns-then-high-eq0
returns-then-high-eq0 c =
    let a = c.args in
    let n = c.product-high in
    c.min.ensures
    ∙ ap (λ (x : ℕ). min a.cap (x / a.d)) (omega (arith, n.ensures, c.if-high-eq0.true))
    ∙ sym (quotient_positive a.cap (a.a * a.b) a.d (omega (arith, c.if-d-high.false)))

pub returns : goal.returns
returns c =
    let a = c.args in
    let n = c.product-high in
    c.min-2.ensures
    ∙ ap (λ (x : ℕ). min a.cap x) (c.quotient.ensures ∙ ap (λ (x : ℕ). x / a.d) n.ensures)
    ∙ sym (quotient_positive a.cap (a.a * a.b) a.d (omega (arith, c.if-d-high.false)))
