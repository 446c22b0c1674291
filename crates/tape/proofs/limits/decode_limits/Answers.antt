-- `tape::limits::decode_limits` meets its contract, from `limits_field`.
use mathlib.Core.Path.{◌∙◌}
use Rattle.machine.specs.Lists.{limits_from}
use Rattle.tape.specs.Tape.{limits_at}
use Rattle.tape.proofs.Words.{limits_field}
use Rattle.tape.proofs.limits.decode_limits.Goals as goal

pub returns : goal.returns
unfolding limits_at limits_from
returns c =
    let at = limits_field (record { each = λ i. (c.type_inv.s i).fits }) c.requires in
    λ i. record {
      accel = record {
        x = (c.read_field.ensures.is ∙ at 0) i;
        y = (c.read_field-2.ensures.is ∙ at 1) i;
        z = (c.read_field-3.ensures.is ∙ at 2) i;
      };
      speed = record {
        x = (c.read_field-4.ensures.is ∙ at 3) i;
        y = (c.read_field-5.ensures.is ∙ at 4) i;
        z = (c.read_field-6.ensures.is ∙ at 5) i;
      };
      jump = (c.read_field-7.ensures.is ∙ at 6) i;
      chord = (c.read_field-8.ensures.is ∙ at 7) i;
      tick = (c.read_field-9.ensures.is ∙ at 8) i;
    }
