-- A list of spans that is filled from the front, and the line that it comes to. From the laws of lists.
use mathlib.Core.Path.{◌≡◌, refl, ◌∙◌}
use mathlib.Core.List.{List, ◌∷◌, []}
use Prim.Native.Nat.{ℕ, suc, ◌+◌, ◌≤◌, ◌<◌, zero-le, suc-le-suc}
use native.Mathlib.Nat.{not-suc-le-zero, le_of_suc-le-suc}
use native.Mathlib.Decide.{dec_lt}
use native.Mathlib.Omega.{arith}
use lib.ListN.{length, take, set}
use lib.Seq.{get_or-set_same, get_or-set_other}
use Rattle.profile.specs.Line.{no_span, span_at}
use Rattle.profile.specs.declared.Span.{Span}

-- the first k spans are those of a line
abbrev pub Filled : (list : List Span) (k : ℕ) (line : List Span) → Type 0
Filled list k line = (i : ℕ) → i < k → span_at list i ≡ span_at line i

-- one more
pub filled_more : (list : List Span) (k : ℕ) (s : Span) (line : List Span) → k < length list → s ≡ span_at line k → Filled list k line → Filled (set list k s) (k + 1) line
filled_more list k s line h e g i j = go (dec_lt i k)
  where
    go : Dec (i < k) → span_at (set list k s) i ≡ span_at line i
    go (yes b) = get_or-set_other list k i s no_span (omega arith) ∙ g i b
    go (no b) = let same : i ≡ k = omega arith in rw same (get_or-set_same list k s no_span h ∙ e)

-- all of them
pub filled_line : (line list : List Span) → length line ≤ length list → Filled list (length line) line → take (length line) list ≡ line
filled_line [] list h f = refl
filled_line (s ∷ line) [] h f = absurd (not-suc-le-zero h)
filled_line (s ∷ line) (r ∷ list) h f =
    let rest = filled_line line list (le_of_suc-le-suc h) (λ i b. f (suc i) (suc-le-suc b)) in
    λ i. f 0 (suc-le-suc zero-le) i ∷ rest i
