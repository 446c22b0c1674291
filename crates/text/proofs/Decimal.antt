-- `decimal n` is the one text that writes n, and how long it is. From the definitions.
use mathlib.Core.Path.{◌≡◌, refl, sym, ap, ◌∙◌}
use Prim.Native.Nat.{ℕ, zero, suc, ◌+◌, ◌-◌, ◌*◌, ◌/◌, ◌%◌, ◌^◌, ◌≤◌, ◌<◌}
use native.Mathlib.Omega.{arith}
use native.Mathlib.Nat.{pow-suc, one-le-pow, div-one, div-div-eq-div-mul}
use mathlib.Core.Bool.{Bool, true, false}
use mathlib.Core.List.{List, ◌∷◌, ◌++◌, append_assoc, append-nil, []}
use lib.Dec.{ltb}
use lib.ListN.{length, get_or, length-append, get_or-append}
use lib.Seq.{append_snoc}
use borrow.Author.Tests.{ltb-true, ltb-false, lt-ltb, le-ltb}
use Rattle.text.specs.Text.{digit, digits_of, decimal, last_digits, value_behind, value, OnlyDigits, Writes}

-- Two cases: below ten, or not.
by_ten : {A : Type 0} (n : ℕ) → (n < 10 → A) → (10 ≤ n → A) → A
by_ten {A} n one more = by (ltb n 10) refl
  where
    by : (b : Bool) → ltb n 10 ≡ b → A
    by true e = one (ltb-true n 10 e)
    by false e = more (ltb-false n 10 e)

-- What holds below ten, and of a number where it holds of its tenth, holds of every number.
by_tenths : (P : ℕ → Type 0) → ((n : ℕ) → n < 10 → P n) → ((n : ℕ) → 10 ≤ n → P (n / 10) → P n) → (n : ℕ) → P n
by_tenths P one more n = below (suc n) n (omega arith)
  where
    below : (k m : ℕ) → m < k → P m
    below zero m h = absurd (omega arith)
    below (suc k) m h = by_ten m (one m) (λ g. more m g (below k (m / 10) (omega arith)))

-- Room for more digits than there are changes nothing.
digits_enough : (k m n : ℕ) → n < k → n < m → digits_of k n ≡ digits_of m n
unfolding digits_of
digits_enough zero m n h g = absurd (omega arith)
digits_enough (suc k) zero n h g = absurd (omega arith)
digits_enough (suc k) (suc m) n h g =
    by_ten n (λ l. rw (lt-ltb n 10 l))
    (λ l. rw (le-ltb n 10 l, digits_enough k m (n / 10) (omega arith) (omega arith)))

-- A number below ten is one digit; of any other the last digit stands behind those of its tenth.
pub decimal_one : (n : ℕ) → n < 10 → decimal n ≡ digit n ∷ []
unfolding decimal digits_of
decimal_one n h = rw (lt-ltb n 10 h)

pub decimal_more : (n : ℕ) → 10 ≤ n → decimal n ≡ decimal (n / 10) ++ digit (n % 10) ∷ []
unfolding decimal digits_of
decimal_more n h = rw (le-ltb n 10 h, digits_enough n (suc (n / 10)) (n / 10) (omega arith) (omega arith))

-- The last k digits are k. In a number that has more they stand behind those of what is above them.
length_digits : (k n : ℕ) → length (last_digits k n) ≡ k
length_digits zero n = refl
length_digits (suc k) n = rw (length-append (last_digits k (n / 10)) (digit (n % 10) ∷ []), length_digits k (n / 10)) (omega arith)

pub decimal_last : (k n : ℕ) → 10 ^ k ≤ n → decimal n ≡ decimal (n / 10 ^ k) ++ last_digits k n
decimal_last zero n h = rw (div-one n, append-nil (decimal n))
decimal_last (suc k) n h =
    let some = pow-suc 10 k in
    let above : n / 10 / 10 ^ k ≡ n / 10 ^ suc k = div-div-eq-div-mul n 10 (10 ^ k) ∙ ap (λ (d : ℕ). n / d) (omega arith) in
    rw (decimal_more n (omega (arith, one-le-pow k 10 (omega arith))), decimal_last k (n / 10) (omega arith), above) (simp append_assoc)

pub length_last : (k n : ℕ) → 10 ^ k ≤ n → length (decimal n) ≡ length (decimal (n / 10 ^ k)) + k
length_last k n h = rw (decimal_last k n h, length-append (decimal (n / 10 ^ k)) (last_digits k n), length_digits k n)

-- A number below 100 has two digits, one below 1,000 three.
pub decimal_two : (n : ℕ) → 10 ≤ n → n < 100 → decimal n ≡ digit (n / 10) ∷ digit (n % 10) ∷ []
decimal_two n h l = rw (decimal_more n h, decimal_one (n / 10) (omega arith))

pub decimal_three : (n : ℕ) → 100 ≤ n → n < 1_000 → decimal n ≡ last_digits 3 n
decimal_three n h l =
    let first : n / 10 / 10 ≡ n / 10 / 10 % 10 = omega arith in
    rw (decimal_more n (omega arith), decimal_two (n / 10) (omega arith) (omega arith), ← first)

-- How many digits there are: at least one, and no more than k below the k-th power of ten.
pub length_one : (n : ℕ) → n < 10 → length (decimal n) ≡ 1
length_one n h = rw (decimal_one n h)

pub length_more : (n : ℕ) → 10 ≤ n → length (decimal n) ≡ length (decimal (n / 10)) + 1
length_more n h = rw (decimal_more n h, length-append (decimal (n / 10)) (digit (n % 10) ∷ []))

pub length_positive : (n : ℕ) → 0 < length (decimal n)
length_positive n =
    by_ten n (λ h. omega (arith, length_one n h)) (λ h. omega (arith, length_more n h))

pub length_below : (k n : ℕ) → n < 10 ^ suc k → length (decimal n) ≤ suc k
length_below zero n h = omega (arith, length_one n (omega arith))
length_below (suc k) n h =
    by_ten n (λ l. omega (arith, length_one n l))
    (λ l. omega (arith, length_more n l, length_below k (n / 10) (omega (arith, pow-suc 10 (suc k)))))

-- From the k-th power of ten on there are more than k.
pub length_power : (k n : ℕ) → 10 ^ k ≤ n → n < 10 * 10 ^ k → length (decimal n) ≡ k + 1
length_power k n h l = omega (arith, length_last k n h, length_positive (n / 10 ^ k), length_below k n (omega (arith, pow-suc 10 k)))

-- A number of 64 bits has at most 20 digits.
pub length_word : (n : ℕ) → n < 2 ^ 64 → length (decimal n) ≤ 20
length_word n h = length_below 19 n (omega arith)

-- Every byte is a digit.
digits_last : (text : List ℕ) (d : ℕ) → OnlyDigits text → d < 10 → OnlyDigits (text ++ digit d ∷ [])
digits_last [] d h l = (omega arith, (omega arith, tt))
digits_last (b ∷ text) d h l = (h.0, (h.1.0, digits_last text d h.1.1 l))

pub decimal_digits : (n : ℕ) → OnlyDigits (decimal n)
decimal_digits =
    by_tenths (λ n. OnlyDigits (decimal n)) (λ n h. rw (decimal_one n h) (digits_last [] n tt h))
    (λ n h d. rw (decimal_more n h) (digits_last (decimal (n / 10)) (n % 10) d (omega arith)))

-- The first is no zero but of zero itself.
decimal_first : (n : ℕ) → 0 < n → digit 0 < get_or (decimal n) 0 0
decimal_first =
    by_tenths (λ n. 0 < n → digit 0 < get_or (decimal n) 0 0) (λ n h p. rw (decimal_one n h) (omega arith))
    (λ n h first p.
    rw (decimal_more n h, get_or-append (decimal (n / 10)) (digit (n % 10) ∷ []) 0 0 (length_positive (n / 10)))
    (first (omega arith)))

-- The number is read back.
value_last : (above : ℕ) (text : List ℕ) (d : ℕ) → value_behind above (text ++ digit d ∷ []) ≡ value_behind above text * 10 + d
unfolding value_behind
value_last above [] d = omega arith
value_last above (b ∷ text) d = value_last (above * 10 + (b - digit 0)) text d

pub value_decimal : (n : ℕ) → value (decimal n) ≡ n
unfolding value_behind
value_decimal =
    by_tenths (λ n. value (decimal n) ≡ n) (λ n h. rw (decimal_one n h) (omega arith))
    (λ n h v. rw (decimal_more n h, value_last 0 (decimal (n / 10)) (n % 10), v) (omega arith))

-- `decimal n` writes n.
pub decimal_writes : (n : ℕ) → Writes n (decimal n)
decimal_writes n =
    record {
      digits = decimal_digits n;
      some = length_positive n;
      front = λ h. decimal_first n (by_ten n (λ l. absurd (omega (arith, length_one n l))) (λ l. omega arith));
      reads = value_decimal n;
    }

-- Digits behind those of a number that is not zero are those of the number that they make.
decimal_behind : (above : ℕ) (text : List ℕ) → 0 < above → OnlyDigits text → decimal above ++ text ≡ decimal (value_behind above text)
unfolding value_behind
decimal_behind above [] p h = append-nil (decimal above)
decimal_behind above (b ∷ text) p h =
    let n : ℕ = above * 10 + (b - digit 0) in
    let tenth : n / 10 ≡ above = omega arith in
    let last : digit (n % 10) ≡ b = omega arith in
    let more : decimal n ≡ decimal above ++ b ∷ [] = rw (decimal_more n (omega arith), tenth, last) in
    sym (append_snoc (decimal above) b text) ∙ rw (← more) (decimal_behind n text (omega arith) h.1.1)

-- Nothing else writes n.
one_digit : (b : ℕ) → digit 0 ≤ b → b ≤ digit 9 → decimal (b - digit 0) ≡ b ∷ []
one_digit b h g = let e : digit (b - digit 0) ≡ b = omega arith in rw (decimal_one (b - digit 0) (omega arith), e)

pub decimal_only : (n : ℕ) (text : List ℕ) → Writes n text → text ≡ decimal n
unfolding value_behind
decimal_only n [] w = absurd (omega (arith, w.some))
decimal_only n (b ∷ []) w =
    let e : b - digit 0 ≡ n = omega (arith, w.reads) in
    sym (one_digit b w.digits.0 w.digits.1.0) ∙ ap decimal e
decimal_only n (b ∷ d ∷ text) w =
    let e : b - digit 0 ≡ 0 * 10 + (b - digit 0) = omega arith in
    ap (λ (t : List ℕ). t ++ d ∷ text) (sym (one_digit b w.digits.0 w.digits.1.0))
    ∙ decimal_behind (b - digit 0) (d ∷ text) (omega (arith, w.front (omega arith))) w.digits.1.1
    ∙ ap decimal (ap (λ (k : ℕ). value_behind k (d ∷ text)) e ∙ w.reads)

-- So no two numbers have one text.
pub decimal_unique : (m n : ℕ) → decimal m ≡ decimal n → m ≡ n
decimal_unique m n e = sym (value_decimal m) ∙ ap value e ∙ value_decimal n
