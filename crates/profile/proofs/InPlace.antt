-- The two passes in one list of n + 1 numbers: the backward pass stores from the end to junction 1, then the forward pass
-- stores its own numbers from junction 0 to the end. One law for each store, from those of kept numbers.
use mathlib.Core.Path.{◌≡◌, ◌∙◌, ap}
use mathlib.Core.List.{List}
use Prim.Native.Nat.{ℕ, ◌+◌, ◌<◌}
use native.Mathlib.Nat.{le_refl}
use native.Mathlib.Omega.{arith}
use lib.ListN.{length, drop, set}
use lib.Seq.{get_or-set_same, get_or-set_other}
use Rattle.profile.specs.Line.{cap_at, reach_at, number_at}
use Rattle.profile.specs.declared.Span.{Span}
use Rattle.profile.specs.Passes.{brake, brake_from, exit_from, Braked, Forwarded}
use Rattle.profile.proofs.Kept.{braked_end, braked_store, forwarded_first, forwarded_store}

-- During the forward pass: its numbers up to junction k, the backward pass's after it.
abbrev pub InPlace : ℕ → List Span → List ℕ → ℕ → Type 0
InPlace committed line list k = Forwarded committed line (number_at list) k × Braked line (number_at list) (k + 1)

module _ (line : List Span) (list : List ℕ) (sized : length list ≡ length line + 1) where
  -- A store before the junctions that are right leaves them right.
  pub braked_set : (first k v : ℕ) → k < first → Braked line (number_at list) first → Braked line (number_at (set list k v)) first
  braked_set first k v h b i p q = get_or-set_other list k i v 0 (omega arith) ∙ b i p q

  -- The backward pass stores 0 at the end,
  pub store_end : (n : ℕ) → n ≡ length line → Braked line (number_at (set list n 0)) n
  store_end n e = rw e (braked_end line (number_at (set list (length line) 0)) (get_or-set_same list (length line) 0 0 (omega arith)))

  -- and then at each junction before it.
  pub store_brake : (k v : ℕ) → k < length line → v ≡ brake_from (cap_at line k) (reach_at line k) (number_at list (k + 1))
      → Braked line (number_at list) (k + 1) → Braked line (number_at (set list k v)) k
  store_brake k v h e =
      braked_store line (number_at list) k (number_at (set list k v)) h (get_or-set_same list k v 0 (omega arith) ∙ e)
      λ i p q. get_or-set_other list k i v 0 (omega arith)

  module _ (committed : ℕ) where
    -- The forward pass stores the committed squared speed at junction 0,
    pub store_first : Forwarded committed line (number_at (set list 0 committed)) 0
    store_first = forwarded_first committed line (number_at (set list 0 committed)) (get_or-set_same list 0 committed 0 (omega arith))

    -- and then the exit of each block, under the backward pass there.
    pub store_exit : (k v : ℕ) → k < length line → v ≡ exit_from (number_at list k) (reach_at line k) (brake (drop (k + 1) line))
        → Forwarded committed line (number_at list) k → Forwarded committed line (number_at (set list (k + 1) v)) (k + 1)
    store_exit k v h e =
        forwarded_store committed line (number_at list) k (number_at (set list (k + 1) v)) h (get_or-set_same list (k + 1) v 0 (omega arith) ∙ e)
        λ i p. get_or-set_other list (k + 1) i v 0 (omega arith)

    -- The same two stores in the list that holds the backward pass.
    pub in_place_first : Braked line (number_at list) 1 → InPlace committed line (set list 0 committed) 0
    in_place_first b = (store_first, braked_set 1 0 committed (omega arith) b)

    pub in_place_exit : (k v : ℕ) → k < length line → v ≡ exit_from (number_at list k) (reach_at line k) (number_at list (k + 1))
        → InPlace committed line list k → InPlace committed line (set list (k + 1) v) (k + 1)
    in_place_exit k v h e a = (
      store_exit k v h (e ∙ ap (exit_from (number_at list k) (reach_at line k)) (a.1 (k + 1) (le_refl (k + 1)) (omega arith))) a.0,
      braked_set (k + 1 + 1) (k + 1) v (omega arith) (λ i p. a.1 i (omega arith)),
    )
