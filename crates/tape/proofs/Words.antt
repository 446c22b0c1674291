-- A record as two words, and the limits as fields and as three words. From the laws of `fields`, at the two layouts.
use mathlib.Core.Path.{◌≡◌, refl, sym, ap, ◌∙◌}
use Prim.Native.Nat.{ℕ, suc, ◌+◌, ◌*◌, ◌/◌, ◌%◌, ◌^◌, ◌≤◌, ◌<◌}
use native.Mathlib.Omega.{arith}
use mathlib.Core.List.{List, ◌∷◌, []}
use lib.ListN.{length, take, drop, get_or}
use lib.Pow.{shr_lt}
use Rattle.fields.specs.Layouts.{total, joined}
use Rattle.fields.specs.Bytes.{Bytes, number_of}
use Rattle.fields.specs.Fields.{field_of, part_of}
use Rattle.fields.specs.Signed.{signed_of, bits_of}
use Rattle.fields.proofs.Parts.{part_upper, part_lower, part_across}
use Rattle.fields.proofs.Layouts.{joined_cut, split_at}
use Rattle.fields.proofs.Bytes.{number_add}
use Rattle.fields.proofs.Fields.{split_part}
use Rattle.fields.proofs.Signed.{signed_mod}
use Rattle.machine.specs.Labels.{label_of, labelled_block}
use Rattle.machine.specs.declared.Limits.{Limits}
use Rattle.machine.specs.declared.Block.{Block}
use Rattle.tape.specs.Tape.{limits_layout, limits_number, limits_values, move_bits, record_layout, block_number, record_values, block_at}

-- The fields of a record, from its two words.
module _ (s : List ℕ) {first second : ℕ} (e : first ≡ number_of (take 8 s)) (f : second ≡ number_of (take 8 (drop 8 s))) (l : 16 ≤ length s) (h : second < 2 ^ 64) where
  value : (i : ℕ) → get_or (record_values s) i 0 ≡ part_of (first * 2 ^ 64 + second) (total (drop (suc i) record_layout)) (get_or record_layout i 0)
  value i =
      split_at record_layout (number_of (take 16 s)) i
      ∙ ap (λ (n : ℕ). part_of n (total (drop (suc i) record_layout)) (get_or record_layout i 0)) (sym (number_add s 0 8 8 e f l))

  move : (i k : ℕ) → get_or (record_values s) i 0 ≡ first / 2 ^ k % 2 ^ move_bits → signed_of move_bits (first / 2 ^ k) ≡ signed_of move_bits (get_or (record_values s) i 0)
  move i k p = sym (ap (signed_of move_bits) p ∙ signed_mod move_bits (first / 2 ^ k))

  feed_is : first % 2 * 2 ^ 19 + second / 2 ^ 45 ≡ get_or (record_values s) 3 0
  feed_is = sym (value 3 ∙ part_across first second 45 1 19 h ∙ omega (arith, shr_lt {n = second} 19 45 h))

  label_is : second % 2 ^ 21 ≡ get_or (record_values s) 5 0
  label_is = sym (value 5 ∙ part_lower first second 0 21 {t = 64} (omega arith) ∙ omega arith)

  -- The block that they say.
  pub block_of_words :
      labelled_block (signed_of move_bits (first / 2 ^ 43)) (signed_of move_bits (first / 2 ^ 22)) (signed_of move_bits (first / 2))
      (first % 2 * 2 ^ 19 + second / 2 ^ 45) (second / 2 ^ 21 % 2 ^ 24) (second % 2 ^ 21)
      ≡ block_at s
  unfolding block_at
  block_of_words = λ i.
      labelled_block (move 0 43 (value 0 ∙ part_upper first second 64 43 21 h) i) (move 1 22 (value 1 ∙ part_upper first second 64 22 21 h) i)
      (move 2 1 (value 2 ∙ part_upper first second 64 1 21 h) i) (feed_is i) (sym (value 4 ∙ part_lower first second 21 24 {t = 64} (omega arith)) i)
      (label_is i)

-- The two words of a block's number: the feed is cut between them.
pub words_of_block : (b : Block) {x y z first second : ℕ} → x ≡ bits_of move_bits b.x → y ≡ bits_of move_bits b.y → z ≡ bits_of move_bits b.z
    → first ≡ x * 2 ^ 43 + y * 2 ^ 22 + z * 2 + b.feed / 2 ^ 19
    → second ≡ b.feed % 2 ^ 19 * 2 ^ 45 + b.radius * 2 ^ 21 + label_of b
    → first * 2 ^ 64 + second ≡ block_number b
unfolding block_number joined
words_of_block b {x} {y} {z} {first} {second} p q r e f =
    sym (
    joined_cut (21 ∷ 21 ∷ 21 ∷ []) (24 ∷ 21 ∷ []) (bits_of move_bits b.x ∷ bits_of move_bits b.y ∷ bits_of move_bits b.z ∷ [])
    (b.radius ∷ label_of b ∷ []) 1 19 b.feed refl
    ∙ omega arith
    )

-- The fields of the limits: each begins where the widths before it end.
pub limits_field : {s : List ℕ} → Bytes s → 24 ≤ length s → (i : ℕ)
    → field_of s (0 + total (take i limits_layout)) (get_or limits_layout i 0) ≡ get_or (limits_values s) i 0
limits_field h l i = sym (split_part h 0 24 limits_layout i l refl)

-- The three words of the limits' number: acceleration Z and speed Z are cut between them.
pub words_of_limits : (l : Limits) {first second third : ℕ}
    → first ≡ l.accel.x * 2 ^ 39 + l.accel.y * 2 ^ 14 + l.accel.z / 2 ^ 11
    → second ≡ l.accel.z % 2 ^ 11 * 2 ^ 53 + l.speed.x * 2 ^ 33 + l.speed.y * 2 ^ 13 + l.speed.z / 2 ^ 7
    → third ≡ l.speed.z % 2 ^ 7 * 2 ^ 57 + l.jump * 2 ^ 37 + l.chord * 2 ^ 27 + l.tick * 2 ^ 13
    → (first * 2 ^ 64 + second) * 2 ^ 64 + third ≡ limits_number l
unfolding limits_number joined
words_of_limits l {first} {second} {third} e f g =
    sym (
    joined_cut (25 ∷ 25 ∷ 25 ∷ 20 ∷ 20 ∷ []) (20 ∷ 10 ∷ 14 ∷ 13 ∷ [])
    (l.accel.x ∷ l.accel.y ∷ l.accel.z ∷ l.speed.x ∷ l.speed.y ∷ []) (l.jump ∷ l.chord ∷ l.tick ∷ 0 ∷ []) 13 7 l.speed.z refl
    ∙ (λ i. (upper i) * 2 ^ 64 + lower i)
    )
  where
    lower : joined (7 ∷ 20 ∷ 10 ∷ 14 ∷ 13 ∷ []) (l.speed.z % 2 ^ 7 ∷ l.jump ∷ l.chord ∷ l.tick ∷ 0 ∷ []) ≡ third
    lower = omega arith

    upper : joined (25 ∷ 25 ∷ 25 ∷ 20 ∷ 20 ∷ 13 ∷ []) (l.accel.x ∷ l.accel.y ∷ l.accel.z ∷ l.speed.x ∷ l.speed.y ∷ l.speed.z / 2 ^ 7 ∷ [])
        ≡ first * 2 ^ 64 + second
    upper =
        joined_cut (25 ∷ 25 ∷ []) (20 ∷ 20 ∷ 13 ∷ []) (l.accel.x ∷ l.accel.y ∷ []) (l.speed.x ∷ l.speed.y ∷ l.speed.z / 2 ^ 7 ∷ []) 14 11 l.accel.z refl
        ∙ omega arith
