-- An input of records run chunk by chunk: which chunks, and what is written.
use Rattle.std.specs.Prelude.{◌≡◌, List, ◌∷◌, ◌++◌, [], ℕ, ◌+◌, ◌*◌, ◌≤◌, length, take}
use Rattle.fields.specs.Records.{cut_place}
use Rattle.replay_text.specs.Chunks.{Recorded, chunk_calls}
use Rattle.replay_text.specs.Runs.{RanText}

-- the bytes of the chunks, one behind the other
unfoldable pub chunks_joined : List (List ℕ) → List ℕ
chunks_joined [] = []
chunks_joined (bytes ∷ chunks) = bytes ++ chunks_joined chunks

module _ {S C A : Type 0} (r : Recorded S C A) where
  -- bytes of a whole chunk
  abbrev pub chunk_bytes : ℕ
  chunk_bytes = r.size * r.most

  -- every chunk is whole but the last, which may be shorter
  abbrev pub Chunked : List (List ℕ) → Type 0
  Chunked [] = Unit
  Chunked (bytes ∷ []) = length bytes ≤ chunk_bytes
  Chunked (bytes ∷ next ∷ chunks) = (length bytes ≡ chunk_bytes) × Chunked (next ∷ chunks)

  -- the place of the record that chunks, behind `records` whole ones, end inside, counted chunk by chunk; 0 where they end with a whole one
  abbrev pub place_in : (records : ℕ) → List (List ℕ) → ℕ
  place_in records [] = 0
  place_in records (bytes ∷ []) = cut_place r.size records (length bytes)
  place_in records (bytes ∷ next ∷ chunks) = place_in (records + r.most) (next ∷ chunks)

-- the chunks are run in turn, each on the state that the one before it left; after each the text of its calls is written
pub data Turns {S C A : Type 0} (r : Recorded S C A) : (chunks : List (List ℕ)) (state state' : S) (written : List ℕ) → Type 0 where
  none : {s : S} → Turns r [] s s []
  turn : {bytes text text' written : List ℕ} {s s' s'' : S} {chunks : List (List ℕ)} {end : ℕ} → RanText r (chunk_calls r bytes) s s' text end text'
      → Turns r chunks s' s'' written → Turns r (bytes ∷ chunks) s s'' (take end text' ++ written)
