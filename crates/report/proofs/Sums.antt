-- The sums of a report are exact: from a fresh one at most 100 tapes are accepted, so that no sum comes near 2^64. From the laws of counts, of
-- accepted tapes and of the lengths of blocks.
use Rattle.std.proofs.Common.{◌≡◌, ℕ, zero, suc, ◌+◌, ◌-◌, ◌*◌, ◌^◌, ◌<◌, ◌≤◌, max, Bool, ltb, ◌⊎◌, List, [], ◌∷◌, length, sym, refl, ap, ◌∙◌, subst, inl, inr, add-one, arith, lit<, ltb-true}
use mathlib.Core.List.Memᴰ
use mathlib.Core.List.{Memᴰ}
use native.Mathlib.Decide.{dec_le}
use Rattle.display.specs.Display.{Fault, Outcome}
use Rattle.display.proofs.Answers.{at_zero, above_zero, picked}
use Rattle.line.specs.Chains.{none, next}
use Rattle.machine.specs.Caps.{JunctionCaps}
use Rattle.machine.proofs.Bounds.{short}
use Rattle.tape.specs.Tape.{record_at, records_in}
use Rattle.tape.specs.Answers.{most_blocks}
use Rattle.tape.proofs.Faults.{neither, tape_passed}
use Rattle.tapeplan.specs.Planned.{whole_fault, whole_refusal}
use Rattle.tapeplan.proofs.Answered.{whole_passed}
use Rattle.tapeplan.proofs.Plans.{accepted_records}
use Rattle.report.specs.Figures.{figures_of, length_at, no_figures}
use Rattle.report.specs.Held.{by_chord, by_corner, by_feed, by_reach, caps_at, held_of, inner_in, speed_at}
use Rattle.report.specs.Report.{Job, JobDone, ReportOf, ReportedAll, accepted_of, add_answer, add_fault, all_of, answers_to, fresh_report, greatest_of, most_tapes, report_after, report_numbers, sum_of, tapes_in, total_of, with_figures}
use Rattle.report.specs.declared.Figures.{Figures}
use Rattle.report.proofs.Causes.{four_add_up}
use Rattle.report.proofs.Counts.{count_below, sum_below}

-- Figures that are the same one by one.
alike : (f g : Figures) → f.blocks ≡ g.blocks → f.length ≡ g.length → f.peak ≡ g.peak → f.feed ≡ g.feed → f.corner ≡ g.corner → f.chord ≡ g.chord
    → f.reach ≡ g.reach → f ≡ g
alike f g a b c d e h k = λ i. record { blocks = a i; length = b i; peak = c i; feed = d i; corner = e i; chord = h i; reach = k i }

-- The figures of two together: exact sums, and the greater peak.
abbrev together : (f g : Figures) → Figures
together f g =
    record {
      blocks = f.blocks + g.blocks;
      length = f.length + g.length;
      peak = max f.peak g.peak;
      feed = f.feed + g.feed;
      corner = f.corner + g.corner;
      chord = f.chord + g.chord;
      reach = f.reach + g.reach;
    }

-- the figures that are added are at most a number
record AtMost (bound : ℕ) (f : Figures) : Type 0 where
  pub blocks : f.blocks ≤ bound
  pub length : f.length ≤ bound
  pub feed : f.feed ≤ bound
  pub corner : f.corner ≤ bound
  pub chord : f.chord ≤ bound
  pub reach : f.reach ≤ bound

-- those of an accepted tape: 2048 blocks of lengths below 2^25
abbrev most : ℕ
most = 2 ^ 36

held_at_most : (by : JunctionCaps → ℕ → Bool) (s loaded : List ℕ) → records_in s ≤ most_blocks → held_of by s loaded (inner_in s) ≤ most
held_at_most by s loaded few = omega (arith, count_below (λ i. by (caps_at s i) (speed_at s loaded i)) (inner_in s))

tape_at_most : (s loaded : List ℕ) → whole_refusal s loaded ≡ 0 → AtMost most (figures_of s loaded)
tape_at_most s loaded e =
    let passed = (whole_passed s loaded e).0 in
    let few = accepted_records s passed in
    let each : (k : ℕ) → k < records_in s → length_at s k ≤ 2 ^ 25 = λ k h. omega (arith, short (record_at s k) ((tape_passed s passed).1 k h)) in
    record {
      blocks = omega arith;
      length = omega (arith, sum_below (length_at s) (2 ^ 25) (records_in s) each);
      feed = held_at_most by_feed s loaded few;
      corner = held_at_most by_corner s loaded few;
      chord = held_at_most by_chord s loaded few;
      reach = held_at_most by_reach s loaded few;
    }

-- of so many accepted tapes with one more no sum is cut
exact : (t : ℕ) (a f : Figures) → t < most_tapes → AtMost (t * most) a → AtMost most f → with_figures a f ≡ together a f
unfolding with_figures
exact t a f room h g = alike _ _ (omega arith) (omega arith) refl (omega arith) (omega arith) (omega arith) (omega arith)

more_at_most : (t : ℕ) (a f : Figures) → AtMost (t * most) a → AtMost most f → AtMost (suc t * most) (together a f)
more_at_most t a f h g =
    record { blocks = omega arith; length = omega arith; feed = omega arith; corner = omega arith; chord = omega arith; reach = omega arith }

-- One more tape: it is accepted where fewer than 100 were and the whole tape's checks pass. Then its figures are the first of those accepted.
module _ (t : ℕ) (j : Job) where
  abbrev fault : Fault
  fault = add_fault t j.tape j.steps

  abbrev own : Figures
  own = figures_of j.tape j.steps

  add_passed : fault.number ≡ 0 → (t < most_tapes) × (whole_refusal j.tape j.steps ≡ 0)
  unfolding add_fault
  add_passed z =
      let both = neither _ 0 (whole_fault j.tape j.steps) z in
      (ltb-true t most_tapes (picked (ltb t most_tapes) (lit< tt) both.0), both.1)

  accepted_first : (jobs : List Job) → fault.number ≡ 0 → accepted_of t (j ∷ jobs) ≡ own ∷ accepted_of (suc t) jobs
  unfolding accepted_of
  accepted_first jobs z = at_zero _ _ z

  refused_first : (jobs : List Job) → 0 < fault.number → accepted_of t (j ∷ jobs) ≡ accepted_of t jobs
  unfolding accepted_of
  refused_first jobs h = above_zero _ _ h

-- What holds of no figures, and of those of an accepted tape before others of which it holds, holds of all that are accepted.
pub accepted_all : (P : List Figures → Type 0) → P [] → ((s loaded : List ℕ) (list : List Figures) → whole_refusal s loaded ≡ 0 → P list → P (figures_of s loaded ∷ list))
    → (t : ℕ) (jobs : List Job) → P (accepted_of t jobs)
unfolding accepted_of
accepted_all P begin one t [] = begin
accepted_all P begin one t (j ∷ jobs) = go (fault t j).number refl (accepted_all P begin one (suc t) jobs) (accepted_all P begin one t jobs)
  where
    go : (n : ℕ) → (fault t j).number ≡ n → P (accepted_of (suc t) jobs) → P (accepted_of t jobs) → P (accepted_of t (j ∷ jobs))
    go zero z p q = subst P (sym (accepted_first t j jobs z)) (one j.tape j.steps (accepted_of (suc t) jobs) (add_passed t j z).1 p)
    go (suc n) z p q = subst P (sym (refused_first t j jobs (omega (arith, z)))) q

-- What a list of tapes comes to on a report of so many tapes with these figures.
record From (t : ℕ) (a : Figures) (jobs : List Job) (answers : List (Outcome Fault Figures)) (report : List ℕ) : Type 0 where
  pub answers_are : answers ≡ answers_to t jobs
  pub few : t + length (accepted_of t jobs) ≤ most_tapes
  pub numbers_are : report ≡ report_numbers (t + length (accepted_of t jobs)) (together a (total_of (accepted_of t jobs)))

-- a report that has them, exact
record Exact (t : ℕ) (a : Figures) (report : List ℕ) : Type 0 where
  pub has : report ≡ report_numbers t a
  pub room : t ≤ most_tapes
  pub at_most : AtMost (t * most) a

none_more : (a : Figures) → a ≡ together a (total_of [])
unfolding sum_of greatest_of
none_more a = alike _ _ (omega arith) (omega arith) (omega arith) (omega arith) (omega arith) (omega arith) (omega arith)

one_more : (a f : Figures) (list : List Figures) → together (together a f) (total_of list) ≡ together a (total_of (f ∷ list))
unfolding sum_of greatest_of
one_more a f list = alike _ _ (omega arith) (omega arith) (omega arith) (omega arith) (omega arith) (omega arith) (omega arith)

module _ {report report₁ report' : List ℕ} {j : Job} {jobs : List Job} {answer : Outcome Fault Figures} {answers : List (Outcome Fault Figures)} (t : ℕ) (a : Figures)
    (begin : Exact t a report) (done : JobDone report j answer report₁)
    (rest : (t : ℕ) (a : Figures) → Exact t a report₁ → From t a jobs answers report') where
  said : answer ≡ add_answer t j.tape j.steps
  said = done.answered ∙ ap (λ (r : List ℕ). add_answer (tapes_in r) j.tape j.steps) begin.has

  left : report₁ ≡ report_after (report_numbers t a) j.tape j.steps
  left = done.left ∙ ap (λ (r : List ℕ). report_after r j.tape j.steps) begin.has

  accepted : (fault t j).number ≡ 0 → From t a (j ∷ jobs) (answer ∷ answers) report'
  unfolding answers_to
  accepted z =
      let passed = add_passed t j z in
      let bound = tape_at_most j.tape j.steps passed.1 in
      let sums = exact t a (own t j) passed.0 begin.at_most bound in
      let has = left ∙ at_zero _ _ z ∙ (λ i. report_numbers (add-one t i) (sums i)) in
      let bounds = more_at_most t a (own t j) begin.at_most bound in
      let next = rest (suc t) (together a (own t j)) (record { has = has; room = omega arith; at_most = bounds }) in
      let list = accepted_of (suc t) jobs in
      let all = accepted_first t j jobs z in
      let count : suc t + length list ≡ t + suc (length list) = omega arith in
      record {
        answers_are = λ i. said i ∷ (next.answers_are ∙ sym (at_zero (answers_to (suc t) jobs) (answers_to t jobs) z)) i;
        few = omega (arith, next.few, ap (λ (l : List Figures). length l) all);
        numbers_are =
            next.numbers_are ∙ (λ i. report_numbers (count i) (one_more a (own t j) list i))
            ∙ ap (λ (l : List Figures). report_numbers (t + length l) (together a (total_of l))) (sym all);
      }

  refused : 0 < (fault t j).number → From t a (j ∷ jobs) (answer ∷ answers) report'
  unfolding answers_to
  refused h =
      let next = rest t a (record { has = left ∙ above_zero _ _ h; room = begin.room; at_most = begin.at_most }) in
      let all = refused_first t j jobs h in
      record {
        answers_are = λ i. said i ∷ (next.answers_are ∙ sym (above_zero (answers_to (suc t) jobs) (answers_to t jobs) h)) i;
        few = omega (arith, next.few, ap (λ (l : List Figures). length l) all);
        numbers_are = next.numbers_are ∙ ap (λ (l : List Figures). report_numbers (t + length l) (together a (total_of l))) (sym all);
      }

  one_job : From t a (j ∷ jobs) (answer ∷ answers) report'
  one_job = go (fault t j).number refl
    where
      go : (n : ℕ) → (fault t j).number ≡ n → From t a (j ∷ jobs) (answer ∷ answers) report'
      go zero z = accepted z
      go (suc n) z = refused (omega (arith, z))

sums_from : {report report' : List ℕ} {jobs : List Job} {answers : List (Outcome Fault Figures)} → ReportedAll report jobs answers report'
    → (t : ℕ) (a : Figures) → Exact t a report → From t a jobs answers report'
unfolding answers_to accepted_of
sums_from none t a e =
    let zeros : t ≡ t + 0 = omega arith in
    record { answers_are = refl; few = omega (arith, e.room); numbers_are = e.has ∙ (λ i. report_numbers (zeros i) (none_more a i)) }
sums_from (next done more) t a e = one_job t a e done (sums_from more)

from_none : (a : Figures) → together no_figures a ≡ a
from_none a = alike _ _ (omega arith) (omega arith) (omega arith) (omega arith) (omega arith) (omega arith) (omega arith)

-- From a fresh report, for every list of tapes with loaded torque steps, refused ones included: each is answered by the tapes alone, at most 100 are
-- accepted, and the report's numbers are how many and the exact figures of all of them.
pub report_sums : {report : List ℕ} {jobs : List Job} {answers : List (Outcome Fault Figures)} → ReportedAll fresh_report jobs answers report → ReportOf jobs answers report
report_sums {jobs} c =
    let fresh : AtMost 0 no_figures = record { blocks = omega arith; length = omega arith; feed = omega arith; corner = omega arith; chord = omega arith; reach = omega arith } in
    let all = sums_from c 0 no_figures (record { has = refl; room = omega arith; at_most = fresh }) in
    let count : 0 + length (accepted_of 0 jobs) ≡ length (accepted_of 0 jobs) = omega arith in
    record { answers_are = all.answers_are; few = omega (arith, all.few); numbers_are = all.numbers_are ∙ (λ i. report_numbers (count i) (from_none (total_of (accepted_of 0 jobs)) i)) }

-- the figures of all
pub report_figures : {report : List ℕ} {jobs : List Job} {answers : List (Outcome Fault Figures)} → ReportedAll fresh_report jobs answers report
    → all_of report ≡ total_of (accepted_of 0 jobs)
report_figures c = ap all_of (report_sums c).numbers_are

-- The greatest over figures: not below that of any, and that of one of them; 0 of none.
pub record Greatest (of : Figures → ℕ) (list : List Figures) (r : ℕ) : Type 0 where
  pub not_below : {f : Figures} → Memᴰ f list → of f ≤ r
  pub one_of : 0 < length list → (f : Figures) × (Memᴰ f list × (of f ≡ r))
  pub of_none : length list ≡ 0 → r ≡ 0

some_of : (of : Figures → ℕ) (list : List Figures) → 0 < greatest_of of list → 0 < length list
unfolding greatest_of
some_of of [] h = h
some_of of (f ∷ list) h = omega arith

pub greatest_of_lem : (of : Figures → ℕ) (list : List Figures) → Greatest of list (greatest_of of list)
unfolding greatest_of
greatest_of_lem of [] = record { not_below = λ m. absurd (Memᴰ.not-nil m); one_of = λ h. absurd (omega arith); of_none = λ e. refl }
greatest_of_lem of (f ∷ list) =
    let rest = greatest_of_lem of list in
    record {
      not_below = λ m. below rest (Memᴰ.cases_cons m);
      one_of = λ h. found rest (dec_le (greatest_of of list) (of f));
      of_none = λ e. absurd (omega arith);
    }
  where
    below : {g : Figures} → Greatest of list (greatest_of of list) → (g ≡ f) ⊎ Memᴰ g list → of g ≤ max (of f) (greatest_of of list)
    below rest (inl e) = omega (arith, ap of e)
    below rest (inr m) = omega (arith, rest.not_below m)

    found : Greatest of list (greatest_of of list) → Dec (greatest_of of list ≤ of f)
        → (g : Figures) × (Memᴰ g (f ∷ list) × (of g ≡ max (of f) (greatest_of of list)))
    found rest (yes h) = (f, (Memᴰ.head refl, omega arith))
    found rest (no h) = let g = rest.one_of (some_of of list (omega arith)) in (g.0, (Memᴰ.tail g.1.0, omega (arith, g.1.1)))

-- the report's peak
pub greatest_is : {report : List ℕ} {jobs : List Job} {answers : List (Outcome Fault Figures)} → ReportedAll fresh_report jobs answers report
    → Greatest (λ f. f.peak) (accepted_of 0 jobs) (all_of report).peak
greatest_is {jobs} c =
    subst (λ (a : Figures). Greatest (λ f. f.peak) (accepted_of 0 jobs) a.peak) (sym (report_figures c)) (greatest_of_lem (λ f. f.peak) (accepted_of 0 jobs))

-- THE FOUR ADD UP in all: the inner junctions of the accepted tapes are parted among feed, corner, chord and reach.
abbrev pub held_in : Figures → ℕ
held_in f = f.feed + f.corner + f.chord + f.reach

total_adds_up : (jobs : List Job) → held_in (total_of (accepted_of 0 jobs)) ≡ sum_of (λ f. f.blocks - 1) (accepted_of 0 jobs)
unfolding sum_of
total_adds_up jobs =
    accepted_all (λ (list : List Figures). held_in (total_of list) ≡ sum_of (λ f. f.blocks - 1) list) refl
    (λ s loaded list e h. omega (arith, four_add_up s loaded)) 0 jobs

pub all_add_up : {report : List ℕ} {jobs : List Job} {answers : List (Outcome Fault Figures)} → ReportedAll fresh_report jobs answers report
    → held_in (all_of report) ≡ sum_of (λ f. f.blocks - 1) (accepted_of 0 jobs)
all_add_up {jobs} c = ap held_in (report_figures c) ∙ total_adds_up jobs
