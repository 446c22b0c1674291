-- The parts of a tape's listing, one behind the other, are its whole listing, and behind an empty part there is nothing. From the laws of lines, of an
-- accepted tape and of its answers.
use mathlib.Core.Path.{◌≡◌, refl, sym, ap, ◌∙◌}
use mathlib.Core.List.{List, ◌∷◌, ◌++◌, append_assoc, append-nil, []}
use Prim.Native.Nat.{ℕ, zero, suc, ◌+◌, ◌-◌, ◌*◌, ◌≤◌, ◌<◌}
use native.Mathlib.Decide.{dec_lt}
use native.Mathlib.Nat.{add-zero, zero-add}
use native.Mathlib.Omega.{arith}
use lib.ListN.{length, length-append}
use Rattle.profile.specs.Line.{number_at}
use Rattle.display.specs.Display.{refusal_number}
use Rattle.display.proofs.Answers.{above_zero}
use Rattle.tape.specs.Answers.{most_blocks, tape_refusal}
use Rattle.tapeplan.specs.Planned.{planned_means, tape_plan, whole_refusal}
use Rattle.tapeplan.specs.Sheet.{over}
use Rattle.tapeplan.proofs.Answered.{whole_passed}
use Rattle.tapeplan.proofs.Plans.{accepted_records}
use Rattle.tapeplan.proofs.Wholes.{planned_passed, planned_speeds}
use Rattle.text.specs.Text.{header, refused_at, refused_words}
use Rattle.text.proofs.Lines.{length_line}
use Rattle.tape.specs.Tape.{records_in}
use Rattle.std.specs.Prelude.{⊤, Result, Ok, Err}
use Rattle.display.specs.declared.RefusedAt.{RefusedAt}
use Rattle.listing.specs.Listing.{listing_of}
use Rattle.listing.specs.Parts.{ListingFrom, answer_part, head_in, most_parts, only_first, part_blocks, part_lines, part_of, parts_of, planned_part, row_lines}
use Rattle.listing.specs.declared.Listing.{Listing}
use Rattle.listing.proofs.Lines.{lines_from, lines_accepted, lines_beyond, lines_both, lines_some}
use Rattle.listing.proofs.Answers.{listing_accepted, listing_refused}
use Rattle.listing.proofs.Lengths.{header_length}
use Rattle.tapeplan.specs.declared.Measured.{Measured}

-- A tape that is refused leaves the sheet and the plan that were lent.
pub refused_leaves : {s loaded : List ℕ} {sheet sheet' : List Measured} {before after : List ℕ} {listing : Listing} → ListingFrom s loaded sheet sheet' before after listing → 0 < whole_refusal s loaded
    → (sheet' ≡ sheet) × (after ≡ before)
refused_leaves {s} {loaded} {before} from h = (from.lent.kept h, from.lent.whole.list ∙ above_zero (over (tape_plan s loaded) before) before h)

-- some parts and more of them
parts_both : (listing : Listing) (sheet : List Measured) (plan : List ℕ) (p n m : ℕ) → parts_of listing sheet plan p (n + m) ≡ parts_of listing sheet plan p n ++ parts_of listing sheet plan (p + n) m
unfolding parts_of
parts_both listing sheet plan p zero m = rw (zero-add m, add-zero p)
parts_both listing sheet plan p (suc n) m =
    let more : suc n + m ≡ suc (n + m) = omega arith in
    let next : suc p + n ≡ p + suc n = omega arith in
    rw more (
    ap (λ (t : List ℕ). part_of listing sheet plan p ++ t) (parts_both listing sheet plan (suc p) n m ∙ ap (λ (j : ℕ). parts_of listing sheet plan (suc p) n ++ parts_of listing sheet plan j m) next)
    ∙ sym (append_assoc (part_of listing sheet plan p) (parts_of listing sheet plan (suc p) n) (parts_of listing sheet plan (p + suc n) m))
    )

-- parts that are all empty
parts_none : (listing : Listing) (sheet : List Measured) (plan : List ℕ) (p n : ℕ) → ((j : ℕ) → p ≤ j → part_of listing sheet plan j ≡ []) → parts_of listing sheet plan p n ≡ []
unfolding parts_of
parts_none listing sheet plan p zero h = refl
parts_none listing sheet plan p (suc n) h = λ i. h p (omega arith) i ++ parts_none listing sheet plan (suc p) n (λ j l. h j (omega arith)) i

module _ (s loaded : List ℕ) (lent sheet : List Measured) (before plan : List ℕ) (listing : Listing) (from : ListingFrom s loaded lent sheet before plan listing) where
  -- the lines of n blocks from block k on
  abbrev lines : (k n : ℕ) → List ℕ
  lines k n = row_lines listing.blocks sheet plan k n

  -- a tape that was planned
  module _ (is : listing.planned ≡ Ok tt) where
    passed : whole_refusal s loaded ≡ 0
    passed = planned_passed from.lent.whole is

    own : tape_refusal s ≡ 0
    own = (whole_passed s loaded passed).0

    plan_same : (k : ℕ) → k ≤ records_in s → number_at plan k ≡ number_at (tape_plan s loaded) k
    plan_same = planned_speeds from.lent.whole is

    count : listing.blocks ≡ records_in s
    count = omega (arith, from.blocks, accepted_records s own)

    part_is : (p : ℕ) → part_of listing sheet plan p ≡ head_in p ++ lines (part_blocks * p) (part_lines p)
    unfolding planned_part
    part_is p = ap (λ (a : Result ⊤ RefusedAt). answer_part a listing sheet plan p) is

    -- the lines of the parts behind part 0
    parts_behind : (p n : ℕ) → suc p + n ≤ most_parts → parts_of listing sheet plan (suc p) n ≡ lines (part_blocks * suc p) (part_blocks * n)
    unfolding parts_of row_lines
    parts_behind p zero h = refl
    parts_behind p (suc n) h =
        let size : part_lines (suc p) ≡ part_blocks = omega arith in
        let next : part_blocks * suc (suc p) ≡ part_blocks * suc p + part_blocks = omega arith in
        let count : part_blocks + part_blocks * n ≡ part_blocks * suc n = omega arith in
        (λ i.
        (part_is (suc p) ∙ ap (lines (part_blocks * suc p)) size) i
        ++ (parts_behind (suc p) n (omega arith) ∙ ap (λ (k : ℕ). lines k (part_blocks * n)) next) i)
        ∙ sym (lines_both listing.blocks sheet plan (part_blocks * suc p) part_blocks (part_blocks * n))
        ∙ ap (lines (part_blocks * suc p)) count

    -- all lines of the rows are the tape's lines
    lines_all : lines 0 most_blocks ≡ lines_from s loaded 0
    lines_all =
        let size : most_blocks ≡ records_in s + (most_blocks - records_in s) = omega (arith, accepted_records s own) in
        ap (lines 0) size
        ∙ lines_both listing.blocks sheet plan 0 (records_in s) (most_blocks - records_in s)
        ∙ (λ i.
        lines_accepted s loaded sheet plan own count (from.lent.whole.rows passed) plan_same 0 (records_in s) (zero-add (records_in s)) i
        ++ lines_beyond listing.blocks sheet plan (0 + records_in s) (most_blocks - records_in s) (omega (arith, count)) i)
        ∙ append-nil (lines_from s loaded 0)

    parts_planned : parts_of listing sheet plan 0 most_parts ≡ listing_of s loaded
    unfolding parts_of
    parts_planned =
        (λ i. part_is 0 i ++ parts_behind 0 (most_parts - 1) (omega arith) i)
        ∙ append_assoc header (lines 0 part_blocks) (lines part_blocks (part_blocks * (most_parts - 1)))
        ∙ ap (λ (t : List ℕ). header ++ t) (sym (lines_both listing.blocks sheet plan 0 part_blocks (part_blocks * (most_parts - 1))) ∙ lines_all)
        ∙ sym (listing_accepted s loaded passed)

    -- behind an empty part there is none
    end_planned : (p : ℕ) → part_of listing sheet plan p ≡ [] → (j : ℕ) → p ≤ j → part_of listing sheet plan j ≡ []
    end_planned zero e j h =
        absurd (omega (arith, ap length (sym (part_is 0) ∙ e), length-append header (lines 0 part_blocks), header_length))
    end_planned (suc p) e zero h = absurd (omega arith)
    end_planned (suc p) e (suc j) h = part_is (suc j) ∙ lines_beyond listing.blocks sheet plan (part_blocks * suc j) (part_lines (suc j)) (omega (arith, listed, count))
      where
        go : Dec (part_blocks * suc p < records_in s) → records_in s ≤ part_blocks * suc p
        go (no g) = omega arith
        go (yes g) =
            let size : part_lines (suc p) ≡ suc (part_blocks - 1) = omega (arith, accepted_records s own) in
            absurd (omega (
              arith,
              ap length (sym (part_is (suc p)) ∙ e),
              ap (λ (n : ℕ). length (lines (part_blocks * suc p) n)) size,
              lines_some s loaded sheet plan own count (from.lent.whole.rows passed) plan_same (part_blocks * suc p) (part_blocks - 1) g,
            ))

        listed : records_in s ≤ part_blocks * suc p
        listed = go (dec_lt (part_blocks * suc p) (records_in s))

  -- a tape that was refused
  module _ (r : RefusedAt) (is : listing.planned ≡ Err r) where
    line_is : (p : ℕ) → part_of listing sheet plan p ≡ only_first p (refused_at (refusal_number r.why) r.place)
    line_is p = ap (λ (a : Result ⊤ RefusedAt). answer_part a listing sheet plan p) is

    end_refused : (p : ℕ) → part_of listing sheet plan p ≡ [] → (j : ℕ) → p ≤ j → part_of listing sheet plan j ≡ []
    end_refused zero e j h = absurd (omega (arith, ap length (sym (line_is 0) ∙ e), length_line (refused_words (refusal_number r.why)) (r.place ∷ [])))
    end_refused (suc p) e zero h = absurd (omega arith)
    end_refused (suc p) e (suc j) h = line_is (suc j)

    parts_refused : parts_of listing sheet plan 0 most_parts ≡ listing_of s loaded
    unfolding parts_of
    parts_refused =
        (λ i. line_is 0 i ++ parts_none listing sheet plan 1 (most_parts - 1) behind i)
        ∙ append-nil (refused_at (refusal_number r.why) r.place) ∙ sym (listing_refused s loaded r.why r.place (sym (ap planned_means is) ∙ from.lent.whole.fault))
      where
        behind : (j : ℕ) → 1 ≤ j → part_of listing sheet plan j ≡ []
        behind zero h = absurd (omega arith)
        behind (suc j) h = line_is (suc j)

  -- All 16 parts of a listing, joined, are the listing of the tape that it was made from; behind an empty part every part is empty.
  pub parts_whole : parts_of listing sheet plan 0 most_parts ≡ listing_of s loaded
  parts_whole = by listing.planned refl
    where
      by : (a : Result ⊤ RefusedAt) → listing.planned ≡ a → parts_of listing sheet plan 0 most_parts ≡ listing_of s loaded
      by (Ok tt) is = parts_planned is
      by (Err r) is = parts_refused r is

  pub parts_end : (p : ℕ) → part_of listing sheet plan p ≡ [] → (j : ℕ) → p ≤ j → part_of listing sheet plan j ≡ []
  parts_end p e = by listing.planned refl
    where
      by : (a : Result ⊤ RefusedAt) → listing.planned ≡ a → (j : ℕ) → p ≤ j → part_of listing sheet plan j ≡ []
      by (Ok tt) is = end_planned is p e
      by (Err r) is = end_refused r is p e

  -- So what is written part after part, until a part is empty or 16 are written, is the whole listing.
  pub listing_written : (n : ℕ) → n ≤ most_parts → (n < most_parts → part_of listing sheet plan n ≡ []) → parts_of listing sheet plan 0 n ≡ listing_of s loaded
  unfolding parts_of
  listing_written n h e =
      let all : most_parts ≡ n + (most_parts - n) = omega arith in
      sym (append-nil (parts_of listing sheet plan 0 n)) ∙ sym (ap (λ (t : List ℕ). parts_of listing sheet plan 0 n ++ t) (rest (most_parts - n) refl))
      ∙ sym (ap (parts_of listing sheet plan 0) all ∙ parts_both listing sheet plan 0 n (most_parts - n)) ∙ parts_whole
    where
      rest : (m : ℕ) → most_parts - n ≡ m → parts_of listing sheet plan (0 + n) m ≡ []
      rest zero z = refl
      rest (suc m) z = parts_none listing sheet plan (0 + n) (suc m) (λ j l. parts_end n (e (omega arith)) j (omega arith))
