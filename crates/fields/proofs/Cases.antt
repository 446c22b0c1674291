-- Worked examples of the definitions, which compute.
use mathlib.Core.Path.{◌≡◌, refl}
use mathlib.Core.List.{◌∷◌, []}
use lib.IntN.{pos, negsuc}
use Rattle.fields.specs.Layouts.{joined, split}
use Rattle.fields.specs.Bytes.{number_of, bytes_of}
use Rattle.fields.specs.Fields.{with_part, field_of, with_field}
use Rattle.fields.specs.Signed.{signed_of, bits_of}

-- the bytes 12 34 56, hexadecimal, are the number 123456
three : number_of (18 ∷ 52 ∷ 86 ∷ []) ≡ 1193046
unfolding number_of joined
three = refl

-- the 8 bits from bit 4 of 12 34 are 23
inner : field_of (18 ∷ 52 ∷ []) 4 8 ≡ 35
unfolding field_of number_of joined
inner = refl

-- all ones written there give 1f f4
written : with_field (18 ∷ 52 ∷ []) 4 8 255 ≡ 31 ∷ 244 ∷ []
unfolding with_field with_part number_of joined bytes_of split
written = refl

-- widths 3, 5 and 8: the first value is above the others
side : joined (3 ∷ 5 ∷ 8 ∷ []) (5 ∷ 1 ∷ 2 ∷ []) ≡ 41218
unfolding joined
side = refl

-- 21 bits: the ends of the range, and -1
least : signed_of 21 1048576 ≡ negsuc 1048575
unfolding signed_of
least = refl

most : signed_of 21 1048575 ≡ pos 1048575
unfolding signed_of
most = refl

minus_one : bits_of 21 (negsuc 0) ≡ 2097151
unfolding bits_of
minus_one = refl
