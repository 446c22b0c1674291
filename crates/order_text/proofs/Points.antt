-- The line of a host's point: its doubles are no NaN, so that each has its pattern, and the line has room. From the laws of doubles and of lines.
use mathlib.Core.Path.{◌≡◌, sym, subst}
use mathlib.Core.Bool.{not}
use mathlib.Core.List.{List, ◌∷◌, []}
use Prim.Native.Nat.{ℕ, zero, suc, ◌+◌, ◌^◌, ◌≤◌, ◌<◌}
use native.Mathlib.Omega.{arith}
use lib.Dec.{T}
use lib.Ieee.{Float, binary64, is_nan, of_int, to_bits}
use lib.ListN.{length, get_or}
use Rattle.doubles.proofs.Positions.{position_number}
use Rattle.text.specs.Store.{place_behind, Answered}
use Rattle.text.specs.Text.{line}
use Rattle.std.specs.Prelude.{Option}
use Rattle.text.proofs.Lines.{line_most}
use Rattle.given_text.specs.Given.{WroteLine}
use Rattle.given_text.proofs.GivenLines.{wrote}
use Rattle.host.specs.State.{coordinate_of}
use Rattle.host.specs.declared.orders.Point.{Point}
use Rattle.host.proofs.Hosts.{coordinate_small}
use Rattle.replay_text.specs.Chunks.{line_bytes}
use Rattle.order_text.specs.Texts.{patterns_of, point_word, point_text}

-- A coordinate that is kept, as a double.
pub coordinate_number : (n : ℕ) {x : Float} → x ≡ of_int binary64 (coordinate_of n) → T (not (is_nan x))
coordinate_number n e = subst (λ (x : Float). T (not (is_nan x))) (sym e) (position_number (coordinate_of n) (omega (arith, coordinate_small n)))

-- Three numbers of 64 bits.
below : (x y z : ℕ) → x < 2 ^ 64 → y < 2 ^ 64 → z < 2 ^ 64 → (i : ℕ) → get_or (x ∷ y ∷ z ∷ []) i 0 < 2 ^ 64
below x y z a b c zero = a
below x y z a b c (suc zero) = b
below x y z a b c (suc (suc zero)) = c
below x y z a b c (suc (suc (suc i))) = omega arith

-- The line of three patterns is that of the point whose they are.
module _ (p : Point) {x y z : ℕ} (x-is : x ≡ to_bits binary64 p.x) (y-is : y ≡ to_bits binary64 p.y) (z-is : z ≡ to_bits binary64 p.z) where
  patterns_are : x ∷ y ∷ z ∷ [] ≡ patterns_of p
  patterns_are = λ i. x-is i ∷ y-is i ∷ z-is i ∷ []

  pub point_wrote : {s after : List ℕ} {at end : ℕ} {answer : Option ℕ} → x < 2 ^ 64 → y < 2 ^ 64 → z < 2 ^ 64 → at + line_bytes ≤ length s
      → Answered s at (line point_word (x ∷ y ∷ z ∷ [])) answer after → end ≡ place_behind at answer → WroteLine (point_text p) s at end after
  point_wrote {s} {after} {at} {end} a b c room r e =
      let short = line_most point_word (x ∷ y ∷ z ∷ []) (below x y z a b c) in
      subst (λ (patterns : List ℕ). WroteLine (line point_word patterns) s at end after) patterns_are (wrote (omega arith) room r e)
