-- The stairs of a line: the junctions that can ever be what its backward pass is held by, whatever is added last and however
-- many blocks are taken first, and how far apart they are. All numbers are squared speeds, in (µm/s)².
use Rattle.std.specs.Prelude.{Bool, true, false, cond, List, ◌∷◌, [], ℕ, zero, suc, ◌+◌, ◌-◌, ◌%◌, ◌^◌, eqb, leb, get_or}
use Rattle.profile.specs.declared.Span.{Span}
use Rattle.profile.specs.declared.Stay.{Stay}

-- One stair: the reaches between the stair before and it, and the junction cap there. The gap of the first is counted from
-- where its list begins. The line's end, where the squared speed is 0, is the last.
pub record Stair : Type 0 where
  pub gap : ℕ
  pub cap : ℕ

abbrev pub stair : (gap cap : ℕ) → Stair
stair g c = record { gap = g; cap = c }

-- What is read past the last stair.
abbrev pub no_stair : Stair
no_stair = stair 0 0

-- Stair j of a list, stair 0 the first.
abbrev pub stair_from : List Stair → ℕ → Stair
stair_from l j = get_or l j no_stair

-- The stairs seen from where the block before them begins.
abbrev pub farther : (reach : ℕ) → List Stair → List Stair
farther reach [] = []
farther reach (e ∷ l) = stair (reach + e.gap) e.cap ∷ l

-- Whether the first stair keeps a junction that stands before it from ever being what holds: its own cap with the reaches up to it
-- is no more. The end does not: it moves on with the next block added.
abbrev pub hides : (cap : ℕ) → List Stair → Bool
hides cap [] = false
hides cap (e ∷ []) = false
hides cap (e ∷ f ∷ l) = leb (e.gap + e.cap) cap

-- A junction put before the stairs that are seen from it.
abbrev pub raised : (cap : ℕ) → List Stair → List Stair
raised cap l = cond (hides cap l) l (stair 0 cap ∷ l)

-- The stairs of a line, seen from where it begins, the junction there among them.
unfoldable pub stairs_of : List Span → List Stair
stairs_of [] = stair 0 0 ∷ []
stairs_of (s ∷ line) = raised s.cap (farther s.reach (stairs_of line))

-- The same without that junction, whose cap is never read in a plan; none of a line without blocks.
unfoldable pub stairs_after : List Span → List Stair
stairs_after [] = []
stairs_after (s ∷ line) = farther s.reach (stairs_of line)

-- The gaps together.
unfoldable pub gaps_of : List Stair → ℕ
gaps_of [] = 0
gaps_of (e ∷ l) = e.gap + gaps_of l

-- What the first stair allows where the list begins.
abbrev pub first_allows : List Stair → ℕ
first_allows [] = 0
first_allows (e ∷ l) = e.gap + e.cap

-- A block's reach taken from where the list begins: the first gap falls by it, and the first stair goes where nothing is left of its gap.
abbrev pub nearer : (reach : ℕ) → List Stair → List Stair
nearer reach [] = []
nearer reach (e ∷ l) = cond (eqb (e.gap - reach) 0) l (stair (e.gap - reach) e.cap ∷ l)

-- A new junction is put behind s stairs: those that it hides go, from the last on. `count` stairs stay, and `allows` is what the
-- new junction allows at the last of them. Sums are of 64 bits.
unfoldable pub stay_from : (at : ℕ → Stair) (s allows : ℕ) → Stay
stay_from at zero v = record { count = 0; allows = v }
stay_from at (suc s) v = elim (leb v (at s).cap) [ true ↦ stay_from at s ((v + (at s).gap) % 2 ^ 64) | false ↦ record { count = suc s; allows = v } ]
