-- The words of a line: each at most once, and kept. From the laws of reading pieces.
use mathlib.Core.Path.{◌≡◌}
use mathlib.Core.List.{List}
use Prim.Native.Nat.{ℕ}
use Rattle.words.specs.Pieces.{pieces_of}
use Rattle.words.specs.Meaning.{Kept, Once}
use Rattle.words.specs.Words.{behind_words, words_of}
use Rattle.words.proofs.WordReads.{pieces_kept, pieces_once, pieces_right}

module _ (line : List ℕ) where
  -- Each letter but G stands at most once on a line, and so does each of the pairs G0/G1, G20/G21, G90/G91, and every word is listed: a line
  -- has no fault exactly where this holds of its pieces.
  pub words_once : (words_of line).number ≡ 0 → Once (pieces_of line)
  unfolding behind_words
  words_once e = pieces_once (pieces_of line) e

  pub words_right : Once (pieces_of line) → (words_of line).number ≡ 0
  unfolding behind_words
  words_right once = pieces_right (pieces_of line) once

  -- The slot of each word then has the word's number, and no other slot has a word.
  pub words_kept : (words_of line).number ≡ 0 → Kept (pieces_of line) (words_of line).words
  unfolding behind_words
  words_kept e = pieces_kept (pieces_of line) e
