-- What is run and written chunk by chunk is run and written of all whole records, and the place of a cut one is that in the whole. From the laws
-- of records and runs.
use mathlib.Core.Path.{◌≡◌, sym, ap, subst, ◌∙◌}
use mathlib.Core.List.{List, ◌∷◌, ◌++◌, append-nil, []}
use Prim.Native.Nat.{ℕ, ◌+◌, ◌-◌, ◌/◌, ◌≤◌, ◌<◌, min}
use native.Mathlib.Nat.{zero-div, le_refl, min-eq_left, div-eq_of_eq-mul_right, div-le_of_le-mul}
use lib.ListN.{length, drop, length-append, length-drop}
use Rattle.fields.specs.Records.{each_record, whole_records, cut_place}
use Rattle.fields.proofs.Records.{whole_both, cut_none, cut_behind}
use Rattle.tape.specs.Tape.{limits_bytes}
use Rattle.replay.specs.Runs.{Ran}
use Rattle.replay.proofs.Runs.{ran_both, ran_none}
use Rattle.text.proofs.Store.{take_front}
use Rattle.replay_text.specs.Chunks.{Recorded, chunk_size, chunk_calls}
use Rattle.replay_text.specs.Turns.{chunk_bytes, chunks_joined, Chunked, place_in, Turns, none, turn}

module _ {S C A : Type 0} (r : Recorded S C A) (sized : 0 < r.size) where
  -- All calls of a whole chunk and of the bytes behind it,
  calls_behind : (bytes more : List ℕ) → length bytes ≡ chunk_bytes r
      → whole_records r.size r.says (bytes ++ more) ≡ chunk_calls r bytes ++ whole_records r.size r.says more
  calls_behind bytes more e =
      let count : chunk_size r bytes ≡ r.most = ap (λ (n : ℕ). min n r.most) (div-eq_of_eq-mul_right sized e) ∙ min-eq_left (le_refl r.most) in
      whole_both r.size r.says sized bytes more r.most e
      ∙ ap (λ (n : ℕ). each_record r.size r.says bytes 0 n ++ whole_records r.size r.says more) (sym count)

  -- and of the last chunk.
  calls_last : (bytes : List ℕ) → length bytes ≤ chunk_bytes r → whole_records r.size r.says (bytes ++ []) ≡ chunk_calls r bytes
  calls_last bytes h =
      let count : length bytes / r.size ≡ chunk_size r bytes = sym (min-eq_left (div-le_of_le-mul r.size h)) in
      ap (whole_records r.size r.says) (append-nil bytes) ∙ ap (each_record r.size r.says bytes 0) count

  -- Chunk by chunk, all calls are run, and what is written are the lines of their answers.
  pub turns_whole : {chunks : List (List ℕ)} {s s' : S} {written : List ℕ} → Chunked r chunks → Turns r chunks s s' written
      → Ran r.Step r.line (whole_records r.size r.says (chunks_joined chunks)) s s' written
  unfolding chunks_joined
  turns_whole {s} c none =
      subst (λ (n : ℕ). Ran r.Step r.line (each_record r.size r.says [] 0 n) s s []) (sym (zero-div r.size)) (ran_none r.size r.says [] s)
  turns_whole c (turn {bytes} {chunks = []} t none) = rw (calls_last bytes c, take_front t.stored, append-nil t.lines) t.ran
  turns_whole c (turn {bytes} {chunks = next ∷ chunks} t rest) =
      rw (calls_behind bytes (chunks_joined (next ∷ chunks)) c.0, take_front t.stored) (ran_both t.ran (turns_whole c.1 rest))

  -- Counted chunk by chunk, the place of a cut record is that in the whole.
  place_whole : (records : ℕ) (chunks : List (List ℕ)) → Chunked r chunks → place_in r records chunks ≡ cut_place r.size records (length (chunks_joined chunks))
  unfolding chunks_joined
  place_whole records [] c = sym (cut_none r.size records)
  place_whole records (bytes ∷ []) c = ap (λ (l : List ℕ). cut_place r.size records (length l)) (sym (append-nil bytes))
  place_whole records (bytes ∷ next ∷ chunks) c =
      let more : List ℕ = chunks_joined (next ∷ chunks) in
      let long : chunk_bytes r + length more ≡ length (bytes ++ more) = ap (λ (n : ℕ). n + length more) (sym c.0) ∙ sym (length-append bytes more) in
      place_whole (records + r.most) (next ∷ chunks) c.1 ∙ cut_behind r.size sized records r.most (length more) ∙ ap (cut_place r.size records) long

  -- That of an input whose chunks are the bytes behind its limits.
  pub place_input : (s : List ℕ) (chunks : List (List ℕ)) → Chunked r chunks → chunks_joined chunks ≡ drop limits_bytes s
      → place_in r 0 chunks ≡ cut_place r.size 0 (length s - limits_bytes)
  place_input s chunks c j =
      place_whole 0 chunks c ∙ ap (λ (b : List ℕ). cut_place r.size 0 (length b)) j ∙ ap (cut_place r.size 0) (length-drop limits_bytes s)
