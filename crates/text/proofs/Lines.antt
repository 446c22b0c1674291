-- Spaced numbers, lines and rows as they are stored, and how long they are. From the laws of decimals and of texts stored.
use mathlib.Core.Path.{◌≡◌, refl, ◌∙◌}
use Prim.Native.Nat.{ℕ, zero, suc, ◌+◌, ◌*◌, ◌^◌, ◌≤◌, ◌<◌}
use native.Mathlib.Omega.{arith}
use native.Mathlib.Numerals.{add-one}
use mathlib.Core.List.{List, ◌∷◌, ◌++◌, append-nil, []}
use lib.ListN.{length, get_or, drop, set, length-append}
use lib.Seq.{drop-cons, lt-length-set}
use Rattle.text.specs.Store.{put, Stored}
use Rattle.text.specs.Text.{space, line_feed, decimal, spaced, line, named, row, named_row, refused_at, refused_words, refused_named}
use Rattle.text.proofs.Decimal.{length_word}
use Rattle.text.proofs.Store.{put_next, put_cons}

-- One of several numbers: what is left to store leads to the same list.
pub spaced_turn : (s : List ℕ) (at : ℕ) (numbers : List ℕ) (i : ℕ) {after : List ℕ} {end : ℕ} → at < length s → i < length numbers
    → Stored (set s at space) (at + 1) (decimal (get_or numbers i 0)) end after
    → put after end (spaced (drop (i + 1) numbers)) ≡ put s at (spaced (drop i numbers))
unfolding spaced
spaced_turn s at numbers i l h r =
    let n : ℕ = get_or numbers i 0 in
    rw (r.bytes, r.next, drop-cons numbers i 0 h, add-one i)
    (put_next (set s at space) (at + 1) (decimal n) (spaced (drop (suc i) numbers)) (omega (arith, lt-length-set s at space l))
    ∙ put_cons s at space (decimal n ++ spaced (drop (suc i) numbers)) l)

-- How much of it one number takes.
pub length_spaced : (numbers : List ℕ) (i : ℕ) → i < length numbers
    → length (spaced (drop i numbers)) ≡ length (decimal (get_or numbers i 0)) + 1 + length (spaced (drop (i + 1) numbers))
unfolding spaced
length_spaced numbers i h =
    rw (drop-cons numbers i 0 h, add-one i, length-append (decimal (get_or numbers i 0)) (spaced (drop (suc i) numbers))) (omega arith)

pub length_line : (words numbers : List ℕ) → length (line words numbers) ≡ length words + length (spaced numbers) + 1
unfolding line
length_line words numbers = rw (length-append (words ++ spaced numbers) (line_feed ∷ []), length-append words (spaced numbers))

pub length_named : (words numbers name : List ℕ)
    → length (named words numbers name) ≡ length words + length (spaced numbers) + 1 + length name + 1
unfolding named
length_named words numbers name = simp length-append (omega arith)

-- A name makes a line longer by itself and a space.
pub named_line : (words numbers name : List ℕ) → length (named words numbers name) ≡ length (line words numbers) + 1 + length name
named_line words numbers name = omega (arith, length_line words numbers, length_named words numbers name)

-- A row with no number is a line feed alone, behind the name where there is one.
pub row_none : (numbers : List ℕ) → length numbers ≡ 0 → row numbers ≡ line_feed ∷ []
unfolding row
row_none [] e = refl
row_none (n ∷ numbers) e = absurd (omega arith)

pub named_row_none : (numbers name : List ℕ) → length numbers ≡ 0 → named_row numbers name ≡ line name numbers
unfolding named_row line spaced
named_row_none [] name e = rw (append-nil name)
named_row_none (n ∷ numbers) name e = absurd (omega arith)

-- Numbers of 64 bits take at most 21 bytes each, with the space before them.
pub spaced_most : (numbers : List ℕ) → ((i : ℕ) → get_or numbers i 0 < 2 ^ 64) → length (spaced numbers) ≤ 21 * length numbers
unfolding spaced
spaced_most [] h = omega arith
spaced_most (n ∷ numbers) h =
    rw (length-append (decimal n) (spaced numbers)) (omega (arith, length_word n (h 0), spaced_most numbers (λ i. h (suc i))))

pub refused_most : (number : ℕ) → number < 2 ^ 64 → length (refused_words number) ≤ 31
unfolding refused_words spaced
refused_most number h =
    rw (append-nil (decimal number), length-append (decimal number) (space ∷ 97 ∷ 116 ∷ [])) (omega (arith, length_word number h))

pub line_most : (words numbers : List ℕ) → ((i : ℕ) → get_or numbers i 0 < 2 ^ 64)
    → length (line words numbers) ≤ length words + 21 * length numbers + 1
line_most words numbers h = omega (arith, length_line words numbers, spaced_most numbers h)

pub row_most : (numbers : List ℕ) → ((i : ℕ) → get_or numbers i 0 < 2 ^ 64) → length (row numbers) ≤ 21 * length numbers + 1
unfolding row
row_most [] h = omega arith
row_most (n ∷ numbers) h = omega (arith, line_most (decimal n) numbers (λ i. h (suc i)), length_word n (h 0))

-- With a name: the longest row of numbers, and the name.
pub named_most : (words numbers name : List ℕ) → ((i : ℕ) → get_or numbers i 0 < 2 ^ 64)
    → length (named words numbers name) ≤ length words + 21 * length numbers + length name + 2
named_most words numbers name h = omega (arith, length_named words numbers name, spaced_most numbers h)

pub named_row_most : (numbers name : List ℕ) → ((i : ℕ) → get_or numbers i 0 < 2 ^ 64)
    → length (named_row numbers name) ≤ 21 * length numbers + length name + 1
unfolding named_row
named_row_most [] name h = rw (length-append name (line_feed ∷ [])) (omega arith)
named_row_most (n ∷ numbers) name h = omega (arith, named_most (decimal n) numbers name (λ i. h (suc i)), length_word n (h 0))

-- The longest refusal, without a name and with one.
alone : {n : ℕ} → n < 2 ^ 64 → (i : ℕ) → get_or (n ∷ []) i 0 < 2 ^ 64
alone h zero = h
alone h (suc i) = omega arith

pub refused_at_most : (number place : ℕ) → number < 2 ^ 64 → place < 2 ^ 64 → length (refused_at number place) ≤ 53
refused_at_most number place n p = omega (arith, line_most (refused_words number) (place ∷ []) (alone p), refused_most number n)

pub refused_named_most : (number place : ℕ) (name : List ℕ) → number < 2 ^ 64 → place < 2 ^ 64
    → length (refused_named number place name) ≤ 54 + length name
refused_named_most number place name n p = omega (arith, named_most (refused_words number) (place ∷ []) name (alone p), refused_most number n)
