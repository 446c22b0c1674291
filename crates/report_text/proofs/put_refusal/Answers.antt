-- `report_text::put_refusal`: from the length of a refusal's line with a name.
use mathlib.Core.Path.{subst}
use native.Mathlib.Omega.{arith}
use Prim.Native.Nat.{ℕ}
use Rattle.text.specs.Text.{refused_named}
use Rattle.text.proofs.Lines.{refused_named_most}
use Rattle.report_text.specs.Text.{PutLine}
use Rattle.report_text.proofs.put_refusal.Goals as goal

pub returns : goal.returns
returns c =
    let a = c.args in
    subst (λ (n : ℕ). PutLine (refused_named n a.r.place a.name.now) a.name.now a.text.now c.put_refused_named.result c.put_refused_named.new.out)
    c.refusal_number.ensures (
    record {
      answered = c.put_refused_named.ensures;
      short = omega (arith, refused_named_most c.refusal_number.result a.r.place a.name.now c.refusal_number.type_inv (omega arith));
    }
    )
