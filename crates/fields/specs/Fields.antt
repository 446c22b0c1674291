-- Bit fields in bytes, most significant bit first: bit 0 is the highest bit of byte 0. Offsets and widths are in bits.
use Rattle.std.specs.Prelude.{◌≡◌, ℕ, ◌+◌, ◌-◌, ◌*◌, ◌/◌, ◌%◌, ◌^◌, ◌<◌, List, length}
use Rattle.fields.specs.Bytes.{number_of, bytes_of}

-- the `width` bits of n that have `low` bits below them
abbrev pub part_of : ℕ → ℕ → ℕ → ℕ
part_of n low width = n / 2 ^ low % 2 ^ width

-- n with those bits replaced by the `width` low bits of v, and every other bit as it was
unfoldable pub with_part : ℕ → ℕ → ℕ → ℕ → ℕ
with_part n low width v = (n / 2 ^ low / 2 ^ width * 2 ^ width + v % 2 ^ width) * 2 ^ low + n % 2 ^ low

-- how many bits of s lie below a field that ends before bit `end`
abbrev pub below : List ℕ → ℕ → ℕ
below s end = 8 * length s - end

-- the field of `width` bits from bit `at` on
unfoldable pub field_of : List ℕ → ℕ → ℕ → ℕ
field_of s at width = part_of (number_of s) (below s (at + width)) width

-- s with that field replaced by the `width` low bits of v, and every other bit as it was
unfoldable pub with_field : List ℕ → ℕ → ℕ → ℕ → List ℕ
with_field s at width v = bytes_of (length s) (with_part (number_of s) (below s (at + width)) width v)

-- r is 2 ^ k, and so no zero divisor
pub record Power (k r : ℕ) : Type 0 where
  pub is : r ≡ 2 ^ k
  pub positive : 0 < r

-- r is `value`, and has at most `width` bits
pub record Bits (width value r : ℕ) : Type 0 where
  pub is : r ≡ value
  pub small : r < 2 ^ width
