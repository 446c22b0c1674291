-- `report_text::put_numbers`: from the length of a row of 64-bit numbers with a name.
use native.Mathlib.Omega.{arith}
use Rattle.text.proofs.Lines.{named_row_most}
use Rattle.report_text.proofs.put_numbers.Goals as goal

pub returns : goal.returns
returns c =
    let a = c.args in
    record {
      answered = c.put_named_row.ensures;
      short = omega (arith, named_row_most a.numbers.now a.name.now (λ i. omega (arith, c.fits-numbers i)), c.told-numbers);
    }
