-- Lines as they are stored with room. From the laws of listings.
use mathlib.Core.Path.{◌≡◌, ap, ◌∙◌}
use mathlib.Core.List.{List, ◌∷◌, []}
use Prim.Native.Nat.{ℕ, zero, suc, ◌≤◌, ◌<◌, ◌^◌}
use native.Mathlib.Omega.{arith}
use lib.ListN.{length, get_or}
use Rattle.replay.specs.Replays.{plan_size}
use Rattle.text.specs.Store.{place_behind, Answered}
use Rattle.std.specs.Prelude.{Option}
use Rattle.text.specs.Text as text
use Rattle.text.proofs.Store.{stored_with_room, stored_next, length_put}
use Rattle.text.proofs.Lines.{line_most}
use Rattle.replay_text.specs.Chunks.{line_bytes, text_bytes}
use Rattle.replay_text.specs.Runs.{Ended}

-- One number of 64 bits.
below : (n : ℕ) → n < 2 ^ 64 → (i : ℕ) → get_or (n ∷ []) i 0 < 2 ^ 64
below n h zero = h
below n h (suc i) = omega arith

-- A refusal's line is no longer.
pub refused_few : (n : ℕ) → n < 2 ^ 64 → length (text.refused n) ≤ line_bytes
refused_few n h = omega (arith, line_most text.refused_word (n ∷ []) (below n h))

-- The closing lines have room.
pub both_lines : (told : ℕ) → told < 2 ^ 64 → (plan : List ℕ) → ((i : ℕ) → get_or plan i 0 < 2 ^ 64) → length plan ≤ plan_size
    → {s between after : List ℕ} {end last : ℕ} {first second : Option ℕ} → length s ≡ text_bytes
    → Answered s 0 (text.held told) first between → end ≡ place_behind 0 first
    → Answered between end (text.plan plan) second after → last ≡ place_behind end second → Ended told plan s last after
both_lines told t plan p few {s} {between} size a e b f =
    let short = line_most (104 ∷ 101 ∷ 108 ∷ 100 ∷ []) (told ∷ []) (below told t) in
    let long = line_most (112 ∷ 108 ∷ 97 ∷ 110 ∷ []) plan p in
    let first = stored_with_room (omega arith) a e in
    let same : length between ≡ length s = ap length first.bytes ∙ length_put s 0 (text.held told) (omega arith) in
    let second = stored_with_room (omega (arith, first.next)) b f in
    record { few = omega (arith, first.next, second.next); stored = stored_next first second (omega arith) }
