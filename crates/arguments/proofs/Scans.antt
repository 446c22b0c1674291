-- What is seen of words, one word further.
use mathlib.Core.Path.{◌≡◌, refl, ap, ◌∙◌}
use mathlib.Core.List.{List, ◌∷◌, ◌++◌, map, []}
use Prim.Native.Nat.{ℕ, ◌+◌, ◌-◌, ◌≤◌}
use native.Mathlib.Omega.{arith}
use lib.ListN.{length, length-append}
use Rattle.options.specs.Kinds.{word_of}
use Rattle.options.specs.Scan.{none_seen, seen_from, with_word}
use Rattle.options.specs.declared.Form.{Form}
use Rattle.options.specs.declared.Seen.{Seen}
use Rattle.options.specs.declared.Word.{Word}
use Rattle.arguments.specs.Starts.{SeenBefore, WordRead}

-- the last word is seen after the others
seen_last : (f : Form) (s : Seen) (place : ℕ) (words : List (List ℕ)) (w : List ℕ) (at : ℕ) → at ≡ place + length words
    → with_word f (seen_from f s place (map word_of words)) (word_of w) at ≡ seen_from f s place (map word_of (words ++ w ∷ []))
unfolding seen_from
seen_last f s place [] w at e = let here : at ≡ place = omega (arith, e) in ap (with_word f s (word_of w)) here
seen_last f s place (v ∷ words) w at e = seen_last f (with_word f s (word_of v) place) (place + 1) words w at (omega arith)

pub none_before : (f : Form) → SeenBefore f 1 none_seen
unfolding seen_from
none_before f = record { words = []; many = refl; is = refl }

pub one_further : (f : Form) (place : ℕ) (s r : Seen) (w : Word) → 1 ≤ place → SeenBefore f place s → WordRead w → r ≡ with_word f s w place → SeenBefore f (place + 1) r
one_further f place s r w h b g e =
    record {
      words = b.words ++ g.bytes ∷ [];
      many = rw (length-append b.words (g.bytes ∷ [])) (omega (arith, b.many));
      is = e ∙ (λ i. with_word f (b.is i) (g.is i) place) ∙ seen_last f none_seen 1 b.words g.bytes place (omega (arith, b.many));
    }

pub all_before : (f : Form) (place end : ℕ) (s : Seen) → place - 1 ≡ end - 1 → SeenBefore f place s → SeenBefore f end s
all_before f place end s e b = record { words = b.words; many = b.many ∙ e; is = b.is }
