-- Counts, sums and greatest numbers over the first numbers of a sequence, and the list of these.
use Rattle.std.specs.Prelude.{ℕ, zero, suc, ◌+◌, max, Bool, true, false, List, [], ◌∷◌, ◌==◌}

-- 1 where a test holds
abbrev pub one : Bool → ℕ
one true = 1
one false = 0

-- how many of the first k pass a test
unfoldable pub count_to : (ℕ → Bool) → (k : ℕ) → ℕ
count_to test zero = 0
count_to test (suc k) = count_to test k + one (test k)

-- the sum of the first k numbers, and the greatest of them; 0 where k is
unfoldable pub sum_to : (ℕ → ℕ) → (k : ℕ) → ℕ
sum_to f zero = 0
sum_to f (suc k) = sum_to f k + f k

unfoldable pub greatest_to : (ℕ → ℕ) → (k : ℕ) → ℕ
greatest_to f zero = 0
greatest_to f (suc k) = max (greatest_to f k) (f k)

-- n numbers in order, from number k on
unfoldable pub list_from : (ℕ → ℕ) → (k n : ℕ) → List ℕ
list_from f k zero = []
list_from f k (suc n) = f k ∷ list_from f (suc k) n

-- how often a number stands in a list
unfoldable pub times_in : (what : ℕ) → List ℕ → ℕ
times_in what [] = 0
times_in what (n ∷ list) = one (n == what) + times_in what list
