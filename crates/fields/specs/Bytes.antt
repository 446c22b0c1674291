-- Bytes as a number, most significant byte first: the layout whose widths are all 8.
use Rattle.std.specs.Prelude.{ℕ, ◌+◌, ◌<◌, List, ◌++◌, length, get_or, take, drop, replicate}
use Rattle.fields.specs.Layouts.{joined, split}

-- each element is a byte, below 256
pub record Bytes (s : List ℕ) : Type 0 where
  pub each : (i : ℕ) → get_or s i 0 < 256

-- the layout of n bytes
abbrev pub eights : ℕ → List ℕ
eights n = replicate n 8

-- the number that the bytes write, most significant byte first
unfoldable pub number_of : List ℕ → ℕ
number_of s = joined (eights (length s)) s

-- the n low bytes of v, most significant first
unfoldable pub bytes_of : ℕ → ℕ → List ℕ
bytes_of n v = split (eights n) v

-- s with the n low bytes of v from byte `from` on, and every other byte as it was
unfoldable pub with_bytes : List ℕ → ℕ → ℕ → ℕ → List ℕ
with_bytes s from n v = take from s ++ bytes_of n v ++ drop (from + n) s
