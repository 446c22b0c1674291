-- A quotient rounded to the nearest whole number.
use Rattle.std.specs.Prelude.{◌≡◌, ℕ, ◌+◌, ◌-◌, ◌*◌, ◌%◌, ◌≤◌, ◌≢◌}

-- how far n is from q × d, above it or below it
abbrev pub distance : (n d q : ℕ) → ℕ
distance n d q = (n - q * d) + (q * d - n)

-- q is the whole number nearest to n / d: none is nearer, and of two that are equally near, n / d being half way between them, q is the
-- one that the rule for an exact half prefers (the law `nearest_one` says that there is one such number only)
pub record Nearest (Preferred : (q p : ℕ) → Type 0) (n d q : ℕ) : Type 0 where
  pub none_nearer : (p : ℕ) → distance n d q ≤ distance n d p
  pub half : (p : ℕ) → distance n d p ≡ distance n d q → Preferred q p

-- an exact half goes down
abbrev pub NearestHalfDown : (n d q : ℕ) → Type 0
NearestHalfDown = Nearest (λ q p. q ≤ p)

-- an exact half goes up
abbrev pub NearestHalfUp : (n d q : ℕ) → Type 0
NearestHalfUp = Nearest (λ q p. p ≤ q)

-- an exact half goes to the even one of the two; by a d above 0 there is one such number only (the law `half_even_one`)
abbrev pub NearestHalfEven : (n d q : ℕ) → Type 0
NearestHalfEven = Nearest (λ q p. (p ≢ q) → q % 2 ≡ 0)
