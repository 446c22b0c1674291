-- From what the writer of a text's records promises to the promise of its function for C; two outcomes that meet it are equal.
use mathlib.Core.List.{List, ◌∷◌, []}
use mathlib.Core.Path.{◌≡◌, refl, sym, ap, ◌∙◌}
use Prim.Native.Nat.{ℕ, zero, suc, ◌*◌}
use native.Mathlib.Omega.{arith}
use lib.ListN.{length}
use Rattle.display.specs.Display.{Fault, ◌at◌, ◌else◌, fault_of}
use Rattle.display.proofs.Answers.{at_zero, above_zero, given_is, refused_is}
use Rattle.tape.specs.Tape.{record_bytes}
use Rattle.tape.specs.Answers.{ragged_below}
use Rattle.rs274.specs.Answers.{WroteText, lines_fault, text_answer, text_blocks, text_fault}
use Rattle.std.specs.Prelude.{Ok, Err}
use Rattle.display.specs.declared.RefusedAt.{RefusedAt}
use Rattle.fullerecru.specs.Texts.{TextLent}

-- Where the second of two faults has no place, nothing refused has none.
no_place_lem : (n p m : ℕ) → (n at p else m at 0).number ≡ 0 → (n at p else m at 0).place ≡ 0
no_place_lem zero p m e = refl
no_place_lem (suc n) p m e = absurd (omega arith)

module _ (text records : List ℕ) where
  abbrev fault : Fault
  fault = text_fault text records

  text_place : (text_fault text records).number ≡ 0 → (text_fault text records).place ≡ 0
  unfolding text_fault
  text_place = no_place_lem (lines_fault text).number (lines_fault text).place (ragged_below (record_bytes * length (text_blocks text)) records)

  -- the records are written,
  pub text_written_lem : {left blocks blocks' place' : List ℕ} (count : ℕ) → WroteText text records (Ok count) left → blocks' ≡ count ∷ [] → place' ≡ 0 ∷ []
      → TextLent text 0 records left blocks blocks' place'
  unfolding text_answer
  text_written_lem {blocks} count w b p =
      let g = given_is (length (text_blocks text)) fault fault.number w.answer in
      record {
        number_is = sym g.0;
        place_is = p ∙ ap (λ (n : ℕ). n ∷ []) (sym (text_place g.0));
        records_are = w.bytes;
        blocks_are = b ∙ ap (λ (n : ℕ). n ∷ []) g.1 ∙ sym (at_zero (length (text_blocks text) ∷ []) blocks g.0);
      }

  -- or the text is refused.
  pub text_refused : {left place' : List ℕ} (blocks : List ℕ) {n : ℕ} (r : RefusedAt) → WroteText text records (Err r) left → place' ≡ (fault_of r).place ∷ [] → n ≡ (fault_of r).number
      → TextLent text n records left blocks blocks place'
  unfolding text_answer
  text_refused blocks r w p e =
      let g = refused_is (length (text_blocks text)) fault fault.number w.answer in
      record {
        number_is = e ∙ ap (λ (f : Fault). f.number) g.1;
        place_is = p ∙ ap (λ (f : Fault). f.place ∷ []) g.1;
        records_are = w.bytes;
        blocks_are = sym (above_zero (length (text_blocks text) ∷ []) blocks g.0);
      }

-- From the promise alone each result and each lent number can be worked out.
pub texted_one : {text records a b blocks c d p q : List ℕ} {n k : ℕ} → TextLent text n records a blocks c p → TextLent text k records b blocks d q
    → (n ≡ k) × (a ≡ b) × (c ≡ d) × (p ≡ q)
texted_one x y = (
  x.number_is ∙ sym y.number_is,
  x.records_are ∙ sym y.records_are,
  x.blocks_are ∙ sym y.blocks_are,
  x.place_is ∙ sym y.place_is,
)
