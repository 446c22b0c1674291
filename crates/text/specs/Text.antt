-- The text of a listing and of a replay, as ASCII bytes.
use Rattle.std.specs.Prelude.{◌≡◌, ℕ, zero, suc, ◌+◌, ◌-◌, ◌*◌, ◌/◌, ◌%◌, ◌<◌, ◌≤◌, cond, List, ◌∷◌, ◌++◌, [], ltb, length, get_or}

abbrev pub space : ℕ
space = 32

abbrev pub line_feed : ℕ
line_feed = 10

-- the byte of a digit
abbrev pub digit : ℕ → ℕ
digit d = 48 + d

-- n in decimal, by at most k digits: those of n / 10, and the last. The `let` is computed only where it is needed
unfoldable pub digits_of : ℕ → ℕ → List ℕ
digits_of zero n = []
digits_of (suc k) n = let more = digits_of k (n / 10) ++ digit (n % 10) ∷ [] in cond (ltb n 10) (digit n ∷ []) more

-- n in decimal, with no zero in front
unfoldable pub decimal : ℕ → List ℕ
decimal n = digits_of (suc n) n

-- the last k digits of n, zeros in front among them
abbrev pub last_digits : ℕ → ℕ → List ℕ
last_digits zero n = []
last_digits (suc k) n = last_digits k (n / 10) ++ digit (n % 10) ∷ []

-- every byte is a digit
abbrev pub OnlyDigits : List ℕ → Type 0
OnlyDigits [] = Unit
OnlyDigits (b ∷ text) = (digit 0 ≤ b) × ((b ≤ digit 9) × OnlyDigits text)

-- the number that digits write, behind digits that write `above`
unfoldable pub value_behind : ℕ → List ℕ → ℕ
value_behind above [] = above
value_behind above (b ∷ text) = value_behind (above * 10 + (b - digit 0)) text

-- the number that digits write
abbrev pub value : List ℕ → ℕ
value text = value_behind 0 text

-- text writes n: digits alone, at least one, with no zero in front of another, that are read as n
pub record Writes (n : ℕ) (text : List ℕ) : Type 0 where
  pub digits : OnlyDigits text
  pub some : 0 < length text
  pub front : 1 < length text → digit 0 < get_or text 0 0
  pub reads : value text ≡ n

-- r is how many digits a number n of 64 bits has
pub record Digits (n r : ℕ) : Type 0 where
  pub is : r ≡ length (decimal n)
  pub positive : 0 < r
  pub few : r ≤ 20

-- each number in decimal, after one space
unfoldable pub spaced : List ℕ → List ℕ
spaced [] = []
spaced (n ∷ numbers) = space ∷ decimal n ++ spaced numbers

-- words, the numbers each after one space, and a line feed
unfoldable pub line : List ℕ → List ℕ → List ℕ
line words numbers = words ++ spaced numbers ++ line_feed ∷ []

-- words, the numbers each after one space, a name after one space, and a line feed
unfoldable pub named : (words numbers name : List ℕ) → List ℕ
named words numbers name = words ++ spaced numbers ++ space ∷ name ++ line_feed ∷ []

-- the numbers parted by one space, and a line feed
unfoldable pub row : List ℕ → List ℕ
row [] = line_feed ∷ []
row (n ∷ numbers) = line (decimal n) numbers

-- the numbers and a name, parted by one space, and a line feed
unfoldable pub named_row : (numbers name : List ℕ) → List ℕ
named_row [] name = name ++ line_feed ∷ []
named_row (n ∷ numbers) name = named (decimal n) numbers name

-- the line `mark length accel entry peak exit up cruise down`
unfoldable pub header : List ℕ
header = 109 ∷ 97 ∷ 114 ∷ 107 ∷ 32 ∷ 108 ∷ 101 ∷ 110 ∷ 103 ∷ 116 ∷ 104 ∷ 32 ∷ 97 ∷ 99 ∷ 99 ∷ 101 ∷ 108 ∷ 32 ∷ 101 ∷ 110 ∷ 116 ∷ 114 ∷ 121 ∷ 32 ∷ 112 ∷ 101 ∷ 97 ∷ 107 ∷ 32 ∷ 101 ∷ 120 ∷ 105 ∷ 116 ∷ 32 ∷ 117 ∷ 112 ∷ 32 ∷ 99 ∷ 114 ∷ 117 ∷ 105 ∷ 115 ∷ 101 ∷ 32 ∷ 100 ∷ 111 ∷ 119 ∷ 110 ∷ line_feed ∷ []

-- `refused`
abbrev pub refused_word : List ℕ
refused_word = 114 ∷ 101 ∷ 102 ∷ 117 ∷ 115 ∷ 101 ∷ 100 ∷ []

-- `refused`, the number, `at`
unfoldable pub refused_words : ℕ → List ℕ
refused_words number = refused_word ++ spaced (number ∷ []) ++ space ∷ 97 ∷ 116 ∷ []

-- the line `refused`, the number, `at`, the place
abbrev pub refused_at : ℕ → ℕ → List ℕ
refused_at number place = line (refused_words number) (place ∷ [])

-- that line with a name behind it
abbrev pub refused_named : (number place : ℕ) (name : List ℕ) → List ℕ
refused_named number place name = named (refused_words number) (place ∷ []) name

-- the line `refused`, the number
abbrev pub refused : ℕ → List ℕ
refused number = line refused_word (number ∷ [])

-- the line `added`
abbrev pub added : List ℕ
added = 97 ∷ 100 ∷ 100 ∷ 101 ∷ 100 ∷ line_feed ∷ []

-- the line `held`, the number
abbrev pub held : ℕ → List ℕ
held number = line (104 ∷ 101 ∷ 108 ∷ 100 ∷ []) (number ∷ [])

-- the line `plan`, the numbers
abbrev pub plan : List ℕ → List ℕ
plan numbers = line (112 ∷ 108 ∷ 97 ∷ 110 ∷ []) numbers
