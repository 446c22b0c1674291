-- Texts stored in a list, one behind the other. From the laws of lists.
use mathlib.Core.Path.{◌≡◌, refl, sym, ap, ◌∙◌}
use Prim.Native.Nat.{ℕ, ◌+◌, ◌≤◌, ◌<◌}
use native.Mathlib.Omega.{arith}
use mathlib.Core.Bool.{Bool, true, false, cond}
use mathlib.Core.List.{List, ◌∷◌, ◌++◌, append_assoc, append-nil, []}
use lib.Dec.{leb}
use lib.ListN.{length, take, drop, set, length-append, length-drop, take-append-drop}
use lib.Seq.{length-take-le, take_at, drop_at, drop-drop, set_split}
use native.Mathlib.Nat.{add_assoc, add-zero}
use native.Mathlib.Numerals.{add-one}
use borrow.Author.Tests.{le-leb, lt-leb, leb-true, leb-false}
use Rattle.std.specs.Prelude.{Option, Some, None}
use borrow.Rule.Slice.PartMut.{put_mid}
use Rattle.text.specs.Store.{put, place_behind, Stored, Answered}

-- Storing no byte, and one.
pub put_none : (s : List ℕ) (at : ℕ) → put s at [] ≡ s
unfolding put
put_none s at = rw (append-nil (take at s), add-zero at, take-append-drop at s)

pub put_one : (s : List ℕ) (at b : ℕ) → at < length s → set s at b ≡ put s at (b ∷ [])
unfolding put
put_one s at b l = rw (set_split s at b l, add-one at) (simp append_assoc)

-- A text behind a text.
pub put_next : (s : List ℕ) (at : ℕ) (t u : List ℕ) → at ≤ length s → put (put s at t) (at + length t) u ≡ put s at (t ++ u)
unfolding put
put_next s at t u l =
    let front : List ℕ = take at s ++ t in
    let size : length front ≡ at + length t = rw (length-append (take at s) t, length-take-le at s l) in
    rw (
      take_at front (drop (at + length t) s) (at + length t) size,
      ← drop-drop (length u) (at + length t) (front ++ drop (at + length t) s),
      drop_at front (drop (at + length t) s) (at + length t) size,
      drop-drop (length u) (at + length t) s,
      length-append t u,
      ← add_assoc at (length t) (length u),
    ) (simp append_assoc)

-- A byte, and the text behind it.
pub put_cons : (s : List ℕ) (at b : ℕ) (t : List ℕ) → at < length s → put (set s at b) (at + 1) t ≡ put s at (b ∷ t)
put_cons s at b t l = rw (put_one s at b l) (put_next s at (b ∷ []) t (omega arith))

-- What stands before a text, where it is, and behind it; and the whole is as long as it was.
module _ (s : List ℕ) (at : ℕ) (t : List ℕ) (l : at + length t ≤ length s) where
  before_text : length (take at s ++ t) ≡ at + length t
  before_text = rw (length-append (take at s) t, length-take-le at s (omega arith))

  pub take_put : take at (put s at t) ≡ take at s
  unfolding put
  take_put = rw (append_assoc (take at s) t (drop (at + length t) s)) (take_at (take at s) (t ++ drop (at + length t) s) at (length-take-le at s (omega arith)))

  pub text_put : take (length t) (drop at (put s at t)) ≡ t
  unfolding put
  text_put =
      rw (
        append_assoc (take at s) t (drop (at + length t) s),
        drop_at (take at s) (t ++ drop (at + length t) s) at (length-take-le at s (omega arith)),
      ) (take_at t (drop (at + length t) s) (length t) refl)

  pub drop_put : drop (at + length t) (put s at t) ≡ drop (at + length t) s
  unfolding put
  drop_put = drop_at (take at s ++ t) (drop (at + length t) s) (at + length t) before_text

  pub length_put : length (put s at t) ≡ length s
  unfolding put
  length_put = rw (length-append (take at s ++ t) (drop (at + length t) s), before_text, length-drop (at + length t) s) (omega arith)

-- A text is stored behind a text; no byte, a byte before a text, and one byte.
pub stored_next : {s t u after both : List ℕ} {at next end : ℕ} → Stored s at t next after → Stored after next u end both → at ≤ length s
    → Stored s at (t ++ u) end both
stored_next {s} {t} {u} {at} r q l =
    record {
      bytes = q.bytes ∙ rw (r.bytes, r.next) (put_next s at t u l);
      next = rw (q.next, r.next, length-append t u) (omega arith);
    }

-- A text that is copied to its place is stored.
pub stored_copy : (s : List ℕ) (at k : ℕ) {t now : List ℕ} → now ≡ t → k ≡ length t → Stored s at t (at + length t) (put_mid at k s now)
unfolding put
stored_copy s at k {t} e f = record { bytes = rw (e, f, drop-drop (length t) at s) (simp append_assoc); next = refl }

pub stored_none : {s : List ℕ} {at : ℕ} → Stored s at [] at s
stored_none {s} {at} = record { bytes = sym (put_none s at); next = sym (add-zero at) }

pub stored_cons : {s t after : List ℕ} {at end : ℕ} (next b : ℕ) → next ≡ at + 1 → at < length s → Stored (set s at b) next t end after
    → Stored s at (b ∷ t) end after
stored_cons {s} {t} {at = at} next b e l r =
    record {
      bytes = r.bytes ∙ rw e (put_cons s at b t l);
      next = omega (arith, r.next);
    }

pub stored_byte : {s : List ℕ} {at : ℕ} (b : ℕ) → at < length s → Stored s at (b ∷ []) (at + 1) (set s at b)
stored_byte {s} {at} b l = stored_cons (at + 1) b refl l stored_none

-- What stands before the place behind a text: what stood before it, and the text.
pub take_stored : {s t after : List ℕ} {at end : ℕ} → Stored s at t end after → at ≤ length s → take end after ≡ take at s ++ t
unfolding put
take_stored {s} {t} {at} r l =
    rw (r.bytes, r.next)
    (take_at (take at s ++ t) (drop (at + length t) s) (at + length t) (rw (length-append (take at s) t, length-take-le at s l)))

pub take_front : {s t after : List ℕ} {end : ℕ} → Stored s 0 t end after → take end after ≡ t
take_front r = take_stored r (omega arith)

pub length_front : {s t after : List ℕ} {end : ℕ} → Stored s 0 t end after → end ≡ length (take end after)
length_front r = omega (arith, r.next, ap length (take_front r))

pub within : {s t after : List ℕ} {at end : ℕ} → Stored s at t end after → at ≤ length s → end ≤ length after
unfolding put
within {s} {t} {at} r l =
    rw (r.bytes, r.next, length-append (take at s ++ t) (drop (at + length t) s), length-append (take at s) t, length-take-le at s l) (omega arith)

-- Tests that agree are equal.
pub same_test : (a b c d : ℕ) → (a ≤ b → c ≤ d) → (b < a → d < c) → leb a b ≡ leb c d
same_test a b c d f g = by (leb a b) refl
  where
    by : (t : Bool) → leb a b ≡ t → t ≡ leb c d
    by true e = sym (le-leb c d (f (leb-true a b e)))
    by false e = sym (lt-leb c d (g (leb-false a b e)))

-- The two answers.
pub stored : (s : List ℕ) (at : ℕ) (text : List ℕ) {end : ℕ} {after : List ℕ} → at + length text ≤ length s → Stored s at text end after
    → Answered s at text (Some end) after
stored s at text h r = record { bytes = rw (le-leb _ _ h) r.bytes; next = rw (le-leb _ _ h) (ap Some r.next) }

pub no_room : (s : List ℕ) (at : ℕ) (text : List ℕ) → length s < at + length text → Answered s at text None s
no_room s at text h = record { bytes = rw (lt-leb _ _ h); next = rw (lt-leb _ _ h) }

-- A text that has room is stored, and the place behind it answered.
pub stored_with_room : {s text after : List ℕ} {at end : ℕ} {answer : Option ℕ} → at + length text ≤ length s → Answered s at text answer after → end ≡ place_behind at answer
    → Stored s at text end after
stored_with_room {s} {text} {at} h r e =
    let fits : leb (at + length text) (length s) ≡ true = le-leb _ _ h in
    record {
      bytes = r.bytes ∙ ap (λ (b : Bool). cond b (put s at text) s) fits;
      next = e ∙ ap (place_behind at) r.next ∙ ap (λ (b : Bool). place_behind at (cond b (Some (at + length text)) None)) fits;
    }

-- What an answer says: the text stands there.
pub was_stored : {s text after : List ℕ} {at end : ℕ} {answer : Option ℕ} → answer ≡ Some end → Answered s at text answer after
    → (at + length text ≤ length s) × Stored s at text end after
was_stored {s} {text} {after} {at} {end} {answer} is r = by (leb (at + length text) (length s)) refl r.bytes r.next
  where
    by : (b : Bool) → leb (at + length text) (length s) ≡ b → after ≡ cond b (put s at text) s
        → answer ≡ cond b (Some (at + length text)) None → (at + length text ≤ length s) × Stored s at text end after
    by true e f g = (leb-true _ _ e, record { bytes = f; next = cc })
    by false e f g = let z : ◌≡◌ {A = ℕ} 0 1 = cc in absurd (omega arith)

-- The place behind a text lies in its list, whether it was stored or not.
pub behind_within : {s text after : List ℕ} {at end : ℕ} {answer : Option ℕ} → at ≤ length s → Answered s at text answer after → end ≡ place_behind at answer
    → end ≤ length after
behind_within {s} {text} {after} {at} {end} l r e = by (leb (at + length text) (length s)) refl r.bytes (e ∙ ap (place_behind at) r.next)
  where
    by : (b : Bool) → leb (at + length text) (length s) ≡ b → after ≡ cond b (put s at text) s
        → end ≡ place_behind at (cond b (Some (at + length text)) None) → end ≤ length after
    by true f g h = rw (g, length_put s at text (leb-true _ _ f)) (omega (arith, leb-true (at + length text) (length s) f))
    by false f g h = rw g (omega arith)
