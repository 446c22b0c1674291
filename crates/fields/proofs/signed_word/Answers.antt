-- `fields::signed_word`: std's cast, from `signed_cast`.
use mathlib.Core.Path.{◌∙◌}
use mir.Syntax.{w64}
use mir.Facts.{to_z-of_z}
use Rattle.fields.proofs.Signed.{signed_cast}
use Rattle.fields.proofs.signed_word.Goals as goal

pub returns : goal.returns
returns c = to_z-of_z {w = w64} (record { sfits = c.cast_signed.type_inv }) ∙ c.cast_signed.ensures ∙ signed_cast c.args.word c.ranges.word.fits
