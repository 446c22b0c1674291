-- From what the tape's readers and writers promise to the promises of their functions for C.
use mathlib.Core.List.{List, []}
use mathlib.Core.Path.{◌≡◌, sym, ap, ◌∙◌}
use Prim.Native.Nat.{ℕ}
use lib.IntN.{ℤ}
use Rattle.display.specs.Display.{checked_means, by_number, or_refused, given, refused}
use Rattle.display.proofs.Answers.{at_zero, above_zero, given_is, refused_is}
use Rattle.std.specs.Prelude.{⊤, Result}
use Rattle.display.specs.declared.Refusal.{Refusal}
use Rattle.machine.specs.Lists.{limit_numbers}
use Rattle.machine.specs.declared.Block.{Block}
use Rattle.machine.specs.declared.Limits.{Limits}
use Rattle.tape.specs.Answers.{limits_read_refusal, read_limits, record_read_refusal, read_record, Wrote}
use Rattle.tape.specs.Tape.{limits_at, block_at}
use Rattle.fullerecru.specs.Moves.{block_moves, block_numbers, Stored}
use Rattle.fullerecru.specs.Tapes.{LimitsLent, RecordLent, Written}

-- A lent list goes by the number: it has what was given, or what it had where that was refused.
module _ {A B : Type 0} (n : ℕ) (a : A) (of : A → B) (had : B) where
  filled : {left : B} {b : A} → given b ≡ or_refused n a → left ≡ of b → left ≡ by_number n (of a) had
  filled e f = let r = given_is a n n e in f ∙ ap of r.1 ∙ sym (at_zero (of a) had r.0)

  kept : {k : ℕ} → refused k ≡ or_refused n a → had ≡ by_number n (of a) had
  kept e = sym (above_zero (of a) had (refused_is a n n e).0)

module _ (bytes : List ℕ) where
  -- Limits, given or refused,
  pub limits_given : (limits : List ℕ) {limits' : List ℕ} {l : Limits} → given l ≡ read_limits bytes → limits' ≡ limit_numbers l []
      → LimitsLent bytes limits 0 limits'
  unfolding read_limits
  limits_given limits e f =
      let n = limits_read_refusal bytes in
      record { number_is = sym (given_is _ _ n e).0; limits_are = filled n (limits_at bytes) (λ l. limit_numbers l []) limits e f }

  pub limits_refused : (limits : List ℕ) {n : ℕ} → refused n ≡ read_limits bytes → LimitsLent bytes limits n limits
  unfolding read_limits
  limits_refused limits e =
      let n = limits_read_refusal bytes in
      record { number_is = (refused_is _ _ n e).1; limits_are = kept n (limits_at bytes) (λ l. limit_numbers l []) limits e }

  -- and a block.
  pub block_given : (moves : List ℤ) (numbers : List ℕ) {moves' : List ℤ} {numbers' : List ℕ} {b : Block} → given b ≡ read_record bytes
      → Stored b (block_numbers b) moves' numbers' → RecordLent bytes 0 moves moves' numbers numbers'
  unfolding read_record
  block_given moves numbers e p =
      let n = record_read_refusal bytes in
      record {
        number_is = sym (given_is _ _ n e).0;
        moves_are = filled n (block_at bytes) block_moves moves e p.moves_are;
        numbers_are = filled n (block_at bytes) block_numbers numbers e p.numbers_are;
      }

  pub block_refused : (moves : List ℤ) (numbers : List ℕ) {n : ℕ} → refused n ≡ read_record bytes → RecordLent bytes n moves moves numbers numbers
  unfolding read_record
  block_refused moves numbers e =
      let n = record_read_refusal bytes in
      record {
        number_is = (refused_is _ _ n e).1;
        moves_are = kept n (block_at bytes) block_moves moves e;
        numbers_are = kept n (block_at bytes) block_numbers numbers e;
      }

-- What is written, by its number, of what was read.
pub written : {A : Type 0} (refusal : A → ℕ) (left : A → List ℕ) {x a : A} {r : Result ⊤ Refusal} {n : ℕ} {bytes' : List ℕ} → x ≡ a → Wrote (refusal x) (left x) r bytes'
    → n ≡ checked_means r → Written (refusal a) (left a) n bytes'
written refusal left same w e = record { number_is = e ∙ w.number ∙ ap refusal same; bytes_are = w.bytes ∙ ap left same }
