-- `fields::read_word`: two halves side by side are the word, from `number_add`.
use native.Mathlib.Omega.{arith}
use Rattle.fields.proofs.Bytes.{number_add}
use Rattle.fields.proofs.read_word.Goals as goal

pub returns : goal.returns
returns c =
    let a = c.args in
    record {
      is = number_add a.s.now a.from 4 4 c.load.ensures.is c.load-2.ensures.is (omega arith);
      small = omega arith;
    }
