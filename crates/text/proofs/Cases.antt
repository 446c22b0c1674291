-- Lines of a listing and of a replay, which the definitions compute.
use mathlib.Core.Path.{◌≡◌, refl}
use mathlib.Core.List.{◌∷◌, []}
use Rattle.text.specs.Text.{digits_of, decimal, spaced, line, named, row, named_row, refused_words, refused_at, refused_named, refused, held, plan}

-- `0` and `18446744073709551615`
zero : decimal 0 ≡ 48 ∷ []
unfolding decimal digits_of
zero = refl

largest : decimal 18446744073709551615 ≡ 49 ∷ 56 ∷ 52 ∷ 52 ∷ 54 ∷ 55 ∷ 52 ∷ 52 ∷ 48 ∷ 55 ∷ 51 ∷ 55 ∷ 48 ∷ 57 ∷ 53 ∷ 53 ∷ 49 ∷ 54 ∷ 49 ∷ 53 ∷ []
unfolding decimal digits_of
largest = refl

-- `7 1000 200000 0 201000000 2000000 502 0 498`
listed : row (7 ∷ 1000 ∷ 200000 ∷ 0 ∷ 201000000 ∷ 2000000 ∷ 502 ∷ 0 ∷ 498 ∷ []) ≡ 55 ∷ 32 ∷ 49 ∷ 48 ∷ 48 ∷ 48 ∷ 32 ∷ 50 ∷ 48 ∷ 48 ∷ 48 ∷ 48 ∷ 48 ∷ 32 ∷ 48 ∷ 32 ∷ 50 ∷ 48 ∷ 49 ∷ 48 ∷ 48 ∷ 48 ∷ 48 ∷ 48 ∷ 48 ∷ 32 ∷ 50 ∷ 48 ∷ 48 ∷ 48 ∷ 48 ∷ 48 ∷ 48 ∷ 32 ∷ 53 ∷ 48 ∷ 50 ∷ 32 ∷ 48 ∷ 32 ∷ 52 ∷ 57 ∷ 56 ∷ 10 ∷ []
unfolding row line spaced decimal digits_of
listed = refl

-- `refused 9 at 0`
refused_at_lem : refused_at 9 0 ≡ 114 ∷ 101 ∷ 102 ∷ 117 ∷ 115 ∷ 101 ∷ 100 ∷ 32 ∷ 57 ∷ 32 ∷ 97 ∷ 116 ∷ 32 ∷ 48 ∷ 10 ∷ []
unfolding refused_words line spaced decimal digits_of
refused_at_lem = refl

-- `2 1000 a`, and `refused 9 at 0 a`
named_numbers : named_row (2 ∷ 1000 ∷ []) (97 ∷ []) ≡ 50 ∷ 32 ∷ 49 ∷ 48 ∷ 48 ∷ 48 ∷ 32 ∷ 97 ∷ 10 ∷ []
unfolding named_row named spaced decimal digits_of
named_numbers = refl

named_refusal : refused_named 9 0 (97 ∷ []) ≡ 114 ∷ 101 ∷ 102 ∷ 117 ∷ 115 ∷ 101 ∷ 100 ∷ 32 ∷ 57 ∷ 32 ∷ 97 ∷ 116 ∷ 32 ∷ 48 ∷ 32 ∷ 97 ∷ 10 ∷ []
unfolding refused_words named spaced decimal digits_of
named_refusal = refl

-- `refused 10`
refused_ten : refused 10 ≡ 114 ∷ 101 ∷ 102 ∷ 117 ∷ 115 ∷ 101 ∷ 100 ∷ 32 ∷ 49 ∷ 48 ∷ 10 ∷ []
unfolding line spaced decimal digits_of
refused_ten = refl

-- `held 64`
held_all : held 64 ≡ 104 ∷ 101 ∷ 108 ∷ 100 ∷ 32 ∷ 54 ∷ 52 ∷ 10 ∷ []
unfolding line spaced decimal digits_of
held_all = refl

-- `plan 0 400000000 0`
planned : plan (0 ∷ 400000000 ∷ 0 ∷ []) ≡ 112 ∷ 108 ∷ 97 ∷ 110 ∷ 32 ∷ 48 ∷ 32 ∷ 52 ∷ 48 ∷ 48 ∷ 48 ∷ 48 ∷ 48 ∷ 48 ∷ 48 ∷ 48 ∷ 32 ∷ 48 ∷ 10 ∷ []
unfolding line spaced decimal digits_of
planned = refl
