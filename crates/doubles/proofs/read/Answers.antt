-- `doubles::read` meets its contract: a double that is finite is read by its magnitude and its sign.
use mathlib.Core.Path.{◌≡◌, sym, ap, ◌∙◌}
use Prim.Native.Nat.{ℕ, ◌<◌}
use Rattle.std.specs.Prelude.{Ok}
use Rattle.std.specs.Float.{float_is_finite}
use Rattle.doubles.specs.Readings.{magnitude_of, reading_by, reading_of}
use Rattle.doubles.proofs.Decoding.{finite_fields, reading_at, reading_beyond, reading_fields, reading_infinite, signed_back}
use Rattle.doubles.proofs.read.Goals as goal
use Rattle.doubles.proofs.read.Goals.{After-fields_of-f, After-magnitude-n}

pub returns-then-not-is_finite : goal.returns-then-not-is_finite
returns-then-not-is_finite c = reading_infinite c.args.x (sym c.is_finite.ensures.value ∙ c.if-not-is_finite.true)

-- the exponent's field of a double that is finite
below : (c : After-fields_of-f) → c.fields_of-f.result.exponent < 2047
below c =
    let f = c.fields_of-f in
    finite_fields f.result.negative f.result.exponent f.result.digits
    (ap float_is_finite (sym f.ensures.is) ∙ sym c.is_finite.ensures.value ∙ c.if-not-is_finite.false) f.ensures.exponent_fits

pub magnitude-n-requires : goal.magnitude-n-requires
magnitude-n-requires c = (below c, c.fields_of-f.ensures.digits_fit)

module _ (c : After-magnitude-n) where
  abbrev fields : After-fields_of-f
  fields = c.before

  abbrev size : ℕ
  size = magnitude_of fields.fields_of-f.result.exponent fields.fields_of-f.result.digits

  reading : reading_of fields.args.x ≡ reading_by fields.fields_of-f.result.negative size
  reading =
      let f = fields.fields_of-f in
      ap reading_of f.ensures.is ∙ reading_fields f.result.negative f.result.exponent f.result.digits (below fields)

pub returns-then-n-gt-MOST : goal.returns-then-n-gt-MOST
returns-then-n-gt-MOST c =
    let s = (goal.at.returns-then-n-gt-MOST c).After-magnitude-n in
    reading_beyond c.fields_of-f.result.negative c.magnitude-n.result (size s) c.magnitude-n.ensures c.if-n-gt-MOST.true ∙ sym (reading s)

pub returns : goal.returns
returns c =
    let s = (goal.at.returns c).After-magnitude-n in
    ap Ok (signed_back c.fields_of-f.result.negative c.magnitude-n.result c.signed_by.result c.if-n-gt-MOST.false c.signed_by.ensures)
    ∙ reading_at c.fields_of-f.result.negative c.magnitude-n.result (size s) c.magnitude-n.ensures c.if-n-gt-MOST.false
    ∙ sym (reading s)
