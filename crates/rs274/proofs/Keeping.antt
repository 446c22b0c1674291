-- A line's block kept as a record behind those before it, and what a line's words come to. From the laws of one record and of positions.
use mathlib.Core.Path.{◌≡◌, refl, sym, ap, subst, ◌∙◌}
use mathlib.Core.Bool.{Bool, true, false, cond}
use mathlib.Core.List.{List, [], ◌∷◌, ◌++◌, append_assoc, append-nil}
use Prim.Native.Nat.{ℕ, zero, suc, ◌+◌, ◌-◌, ◌*◌, ◌≤◌, ◌<◌}
use native.Mathlib.Nat.{le_of_eq}
use native.Mathlib.Omega.{arith}
use borrow.Author.Tests.{lt-ltb, le-ltb, eqb-true}
use borrow.Rule.Slice.PartMut.{mid_of, put_mid, same_len_mid}
use lib.Dec.{eqb, lit<}
use lib.IntN.{ℤ, nat_abs}
use lib.ListN.{length, take, drop, length-append, length-drop}
use lib.Seq.{take_all, take_at}
use Rattle.display.specs.Display.{refusal_number, ◌then◌, Outcome, given, refused, or_refused}
use Rattle.display.specs.declared.Refusal.{Refusal}
use Rattle.display.specs.declared.Refusal.TheVariants as why
use Rattle.std.specs.Prelude.{⊤, Result, Ok, Err}
use Rattle.rs274.specs.declared.kept.Kept.{Kept}
use Rattle.display.proofs.Answers.{refusal_above, at_zero, above_zero, then_first, then_second, then_zero}
use Rattle.fields.specs.Bytes.{bytes_of, with_bytes}
use Rattle.fields.proofs.Bytes.{length_bytes}
use Rattle.machine.specs.Checks.{greatest_move, block_refusal}
use Rattle.machine.specs.Ranges.{most_move}
use Rattle.machine.specs.declared.Block.{Block}
use Rattle.machine.proofs.Bounds.{in_range}
use Rattle.tape.specs.Tape.{record_bytes, block_number}
use Rattle.tape.specs.Answers.{record_write_refusal, record_written, Wrote, most_blocks}
use Rattle.tape.proofs.Answers.{enough}
use Rattle.tape.proofs.Trips.{record_length}
use Rattle.words.specs.Words.{Words}
use Rattle.rs274.specs.Answers.{records_of}
use Rattle.rs274.specs.Kept.{kept_bytes, Holds, Near, Keeps, Takes}
use Rattle.rs274.specs.Modal.{modal_after, block_between, rounded_of, move_of}
use Rattle.rs274.specs.Text.{Run, run_of, many_blocks, with_block, with_words}
use Rattle.rs274.specs.declared.Modal.{Modal}
use Rattle.rs274.proofs.Positions.{moved_near}

-- The records of one block more, and how many bytes records have.
pub records_more : (blocks : List Block) (b : Block) → records_of (blocks ++ b ∷ []) ≡ records_of blocks ++ bytes_of record_bytes (block_number b)
unfolding records_of
records_more [] b = append-nil (bytes_of record_bytes (block_number b))
records_more (a ∷ blocks) b =
    ap (λ (s : List ℕ). bytes_of record_bytes (block_number a) ++ s) (records_more blocks b)
    ∙ sym (append_assoc (bytes_of record_bytes (block_number a)) (records_of blocks) (bytes_of record_bytes (block_number b)))

pub length_records : (blocks : List Block) → length (records_of blocks) ≡ record_bytes * length blocks
unfolding records_of
length_records [] = refl
length_records (b ∷ blocks) =
    length-append (bytes_of record_bytes (block_number b)) (records_of blocks)
    ∙ (λ i. length_bytes record_bytes (block_number b) i + length_records blocks i) ∙ more (length blocks)
  where
    more : (n : ℕ) → record_bytes + record_bytes * n ≡ record_bytes * suc n
    more n = omega arith

-- What a block behind others comes to: nothing where it is still, else a refusal, or one block more.
module _ (b : Block) (blocks : List Block) where
  with_still : eqb (greatest_move b) 0 ≡ true → with_block b blocks ≡ given blocks
  unfolding with_block
  with_still e = rw e

  with_moved : eqb (greatest_move b) 0 ≡ false → with_block b blocks ≡ or_refused (block_refusal b then many_blocks blocks) (blocks ++ b ∷ [])
  unfolding with_block
  with_moved e = rw e

  with_refused : {n : ℕ} → eqb (greatest_move b) 0 ≡ false → 0 < n → (block_refusal b then many_blocks blocks) ≡ n → with_block b blocks ≡ refused n
  with_refused {n} e h is =
      with_moved e ∙ ap (λ (k : ℕ). or_refused k (blocks ++ b ∷ [])) is ∙ above_zero (given (blocks ++ b ∷ [])) (refused n) h

  with_given : eqb (greatest_move b) 0 ≡ false → block_refusal b ≡ 0 → length blocks < most_blocks → with_block b blocks ≡ given (blocks ++ b ∷ [])
  with_given e z h =
      with_moved e ∙ at_zero (given (blocks ++ b ∷ [])) (refused (block_refusal b then many_blocks blocks)) (then_second z (rw (lt-ltb (length blocks) most_blocks h)))

  -- The move of a block that is taken is within what the blocks' number allows.
  with_moves : {more : List Block} → with_block b blocks ≡ given more → (d : ℕ) × ((length more ≡ length blocks + d) × (greatest_move b ≤ most_move * d))
  unfolding with_block
  with_moves {more} e = by (eqb (greatest_move b) 0) refl e
    where
      by : (t : Bool) → eqb (greatest_move b) 0 ≡ t → cond t (given blocks) (or_refused (block_refusal b then many_blocks blocks) (blocks ++ b ∷ [])) ≡ given more
          → (d : ℕ) × ((length more ≡ length blocks + d) × (greatest_move b ≤ most_move * d))
      by true f g = let same : blocks ≡ more = cc in (0, (omega (arith, ap (λ (l : List Block). length l) same), omega (arith, eqb-true (greatest_move b) 0 f)))
      by false f g = passed (block_refusal b then many_blocks blocks) refl g
        where
          passed : (n : ℕ) → (block_refusal b then many_blocks blocks) ≡ n → or_refused n (blocks ++ b ∷ []) ≡ given more
              → (d : ℕ) × ((length more ≡ length blocks + d) × (greatest_move b ≤ most_move * d))
          passed zero z g =
              let same : blocks ++ b ∷ [] ≡ more = cc in
              (1, (omega (arith, ap (λ (l : List Block). length l) same, length-append blocks (b ∷ [])), omega (arith, (in_range b (then_zero (block_refusal b) z).0).short)))
          passed (suc n) z g = let z : ◌≡◌ {A = ℕ} 0 1 = cc in absurd (omega arith)

-- Keeping a block: one that is still, one too many, one that is refused, and one whose record is written.
module _ (b : Block) (blocks : List Block) (count : ℕ) (made : List ℕ) (h : Holds made count blocks) where
  keeps : (o : Outcome ℕ (List Block)) (r : Result ⊤ Refusal) (left : Kept) → with_block b blocks ≡ o → Keeps o r left → Keeps (with_block b blocks) r left
  keeps o r left e k = subst (λ (p : Outcome ℕ (List Block)). Keeps p r left) (sym e) k

  pub keeps_still : (after : Kept) → eqb (greatest_move b) 0 ≡ true → Holds after.bytes after.count blocks → Keeps (with_block b blocks) (Ok tt) after
  keeps_still after e k = keeps (given blocks) (Ok tt) after (with_still b blocks e) k

  pub keeps_faulty : (why : Refusal) (after : Kept) → eqb (greatest_move b) 0 ≡ false → refusal_number why ≡ block_refusal b
      → Keeps (with_block b blocks) (Err why) after
  keeps_faulty why after e is =
      keeps (refused (refusal_number why)) (Err why) after
      (with_refused b blocks e (refusal_above why) (then_first (many_blocks blocks) (rw (sym is) (refusal_above why)) ∙ sym is)) refl

  pub keeps_many : (after : Kept) → eqb (greatest_move b) 0 ≡ false → most_blocks ≤ count → block_refusal b ≡ 0
      → Keeps (with_block b blocks) (Err why.Many) after
  keeps_many after e l is =
      keeps (refused 10) (Err why.Many) after
      (with_refused b blocks e (lit< tt) (then_second is (rw (le-ltb (length blocks) most_blocks (omega (arith, h.counted)))))) refl

  module _ (e : eqb (greatest_move b) 0 ≡ false) (room : count < most_blocks) where
    abbrev from : ℕ
    from = record_bytes * count

    abbrev part : List ℕ
    part = mid_of from (kept_bytes - from) made

    part_is : part ≡ drop from made
    part_is = take_all (kept_bytes - from) (drop from made) (le_of_eq (length-drop from made ∙ ap (λ (n : ℕ). n - from) h.sized))

    long : record_bytes ≤ length part
    long = rw part_is (rw length-drop (omega (arith, h.sized)))

    write_refusal : record_write_refusal b part ≡ block_refusal b
    unfolding record_write_refusal
    write_refusal = ap (λ (n : ℕ). block_refusal b then n) (enough record_bytes part long) ∙ same (block_refusal b)
      where
        same : (n : ℕ) → (n then 0) ≡ n
        same zero = refl
        same (suc n) = refl

    pub keeps_refused : (why : Refusal) (left : List ℕ) (after : Kept) → Wrote (record_write_refusal b part) (record_written b part) (Err why) left
        → Keeps (with_block b blocks) (Err why) after
    keeps_refused why left after w = keeps_faulty why after e (w.number ∙ write_refusal)

    module _ (left : List ℕ) (w : Wrote (record_write_refusal b part) (record_written b part) (Ok tt) left) where
      record_is : left ≡ bytes_of record_bytes (block_number b) ++ drop record_bytes part
      unfolding record_written with_bytes
      record_is = w.bytes ∙ at_zero (with_bytes part 0 record_bytes (block_number b)) part (sym w.number)

      abbrev after : List ℕ
      after = put_mid from (kept_bytes - from) made left

      front_length : length (records_of (blocks ++ b ∷ [])) ≡ record_bytes * (count + 1)
      front_length = length_records (blocks ++ b ∷ []) ∙ more (length-append blocks (b ∷ []))
        where
          more : length (blocks ++ b ∷ []) ≡ length blocks + 1 → record_bytes * length (blocks ++ b ∷ []) ≡ record_bytes * (count + 1)
          more f = omega (arith, h.counted)

      after_is : after ≡ records_of (blocks ++ b ∷ []) ++ (drop record_bytes part ++ drop (kept_bytes - from) (drop from made))
      after_is =
          let bytes = bytes_of record_bytes (block_number b) in
          let rest = drop record_bytes part in
          let post = drop (kept_bytes - from) (drop from made) in
          (λ i. h.stored i ++ (record_is i ++ post))
          ∙ ap (λ (s : List ℕ). records_of blocks ++ s) (append_assoc bytes rest post)
          ∙ sym (append_assoc (records_of blocks) bytes (rest ++ post))
          ∙ ap (λ (s : List ℕ). s ++ (rest ++ post)) (sym (records_more blocks b))

      holds_more : Holds after (count + 1) (blocks ++ b ∷ [])
      holds_more =
          record {
            sized = same_len_mid from (kept_bytes - from) made left (ap (λ (s : List ℕ). length s) w.bytes ∙ record_length b part) ∙ h.sized;
            counted = length-append blocks (b ∷ []) ∙ ap (λ (n : ℕ). n + 1) h.counted;
            few = omega arith;
            stored =
                ap (λ (s : List ℕ). take (record_bytes * (count + 1)) s) after_is
                ∙ take_at (records_of (blocks ++ b ∷ [])) (drop record_bytes part ++ drop (kept_bytes - from) (drop from made)) (record_bytes * (count + 1)) front_length;
          }

      pub keeps_written : (kept : Kept) → kept.bytes ≡ after → kept.count ≡ count + 1 → Keeps (with_block b blocks) (Ok tt) kept
      keeps_written kept f g =
          keeps (given (blocks ++ b ∷ [])) (Ok tt) kept
          (with_given b blocks e (sym write_refusal ∙ sym w.number) (omega (arith, h.counted)))
          (subst (λ (l : List ℕ). Holds l kept.count (blocks ++ b ∷ [])) (sym f) (subst (λ (n : ℕ). Holds after n (blocks ++ b ∷ [])) (sym g) holds_more))

-- Behind a block that is taken a position is near.
axis_near : (count d k move before after : ℕ) → before ≤ most_move * count → after ≤ move + before → move ≤ most_move * d → k ≡ count + d → after ≤ most_move * k
axis_near count d k move before after h g m e = omega arith

greatest_axes : (b : Block) → (nat_abs b.x ≤ greatest_move b) × ((nat_abs b.y ≤ greatest_move b) × (nat_abs b.z ≤ greatest_move b))
unfolding greatest_move
greatest_axes b = (omega arith, (omega arith, omega arith))

module _ (m next : Modal) (p count k : ℕ) (blocks more : List Block) where
  near_after : with_block (block_between m next p) blocks ≡ given more → Near count m → length blocks ≡ count → length more ≡ k → Near k next
  unfolding block_between
  near_after e n f g =
      let d = with_moves (block_between m next p) blocks e in
      let axes = greatest_axes (block_between m next p) in
      record {
        x = near m.x next.x d.0 n.x (omega (arith, axes.0, d.1.1)) d.1.0;
        y = near m.y next.y d.0 n.y (omega (arith, axes.1.0, d.1.1)) d.1.0;
        z = near m.z next.z d.0 n.z (omega (arith, axes.1.1, d.1.1)) d.1.0;
      }
    where
      near : (a b : ℤ) (d : ℕ) → nat_abs (rounded_of a) ≤ most_move * count → nat_abs (move_of a b) ≤ most_move * d → length more ≡ length blocks + d
          → nat_abs (rounded_of b) ≤ most_move * k
      near a b d h l is =
          axis_near count d k (nat_abs (move_of a b)) (nat_abs (rounded_of a)) (nat_abs (rounded_of b)) h (moved_near a b) l (sym g ∙ is ∙ ap (λ (j : ℕ). j + d) f)

-- A line's words with the block kept, and with the block refused.
module _ (m : Modal) (w : Words) (p count : ℕ) (blocks : List Block) (kept : Kept) where
  abbrev block : Block
  block = block_between m (modal_after m w) p

  abbrev leads : Outcome ℕ (List Block) → Outcome ℕ Run
  leads o = elim o [ given more ↦ given (run_of (modal_after m w) more) | refused n ↦ refused n ]

  pub takes_next : Near count m → length blocks ≡ count → Keeps (with_block block blocks) (Ok tt) kept
      → Takes (with_words p (run_of m blocks) w) (Ok (modal_after m w)) kept
  unfolding with_words
  takes_next n f h = by (with_block block blocks) refl h
    where
      by : (o : Outcome ℕ (List Block)) → with_block block blocks ≡ o → Keeps o (Ok tt) kept → Takes (leads o) (Ok (modal_after m w)) kept
      by (given more) e h = (refl, (near_after m (modal_after m w) p count kept.count blocks more e n f h.counted, h))
      by (refused n) e h = absurd h

  pub takes_refused : (why : Refusal) → Keeps (with_block block blocks) (Err why) kept → Takes (with_words p (run_of m blocks) w) (Err why) kept
  unfolding with_words
  takes_refused why h = by (with_block block blocks) h
    where
      by : (o : Outcome ℕ (List Block)) → Keeps o (Err why) kept → Takes (leads o) (Err why) kept
      by (given more) h = absurd h
      by (refused n) h = h
