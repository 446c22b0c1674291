-- `fields::to_word`: std's cast, from `bits_cast`.
use mathlib.Core.Path.{ap, ◌∙◌}
use mir.Syntax.{w64}
use mir.Val.{of_z}
use mir.Facts.{to_z-of_z}
use Rattle.fields.proofs.Signed.{bits_cast}
use Rattle.fields.proofs.to_word.Goals as goal

pub returns : goal.returns
returns c = c.cast_unsigned.ensures ∙ ap (of_z w64) (to_z-of_z c.ranges.z) ∙ bits_cast c.args.z c.ranges.z
