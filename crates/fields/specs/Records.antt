-- Bytes cut in records of one size, in bytes, one behind the other.
use Rattle.std.specs.Prelude.{ℕ, zero, suc, ◌+◌, ◌*◌, ◌/◌, ◌%◌, cond, List, ◌∷◌, [], eqb, length, take, drop}

-- the bytes of record k, counted from 0
abbrev pub record_in : (size : ℕ) → List ℕ → ℕ → List ℕ
record_in size bytes k = take size (drop (size * k) bytes)

-- what n records say, from record k on, where `says` is what the bytes of one say; and what all whole ones say
unfoldable pub each_record : {A : Type 0} (size : ℕ) (says : List ℕ → A) → List ℕ → (k n : ℕ) → List A
each_record size says bytes k zero = []
each_record size says bytes k (suc n) = says (record_in size bytes k) ∷ each_record size says bytes (suc k) n

abbrev pub whole_records : {A : Type 0} (size : ℕ) (says : List ℕ → A) → List ℕ → List A
whole_records size says bytes = each_record size says bytes 0 (length bytes / size)

-- the place from 1 of the record that so many bytes, behind so many whole records, end inside; 0 where they end with a whole one
abbrev pub cut_place : (size records bytes : ℕ) → ℕ
cut_place size records bytes = cond (eqb (bytes % size) 0) 0 (records + bytes / size + 1)
