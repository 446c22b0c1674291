-- Runs of calls, of one call more, and demand 3 of all calls of a planner. From the laws of chains, records and rows and the planner's theorem.
use mathlib.Core.List.{List, ◌∷◌, ◌++◌, append-nil, []}
use mathlib.Core.Path.{◌≡◌, refl, sym, ap, subst, ◌∙◌}
use Prim.Native.Nat.{ℕ, ◌+◌, ◌*◌, ◌≤◌}
use native.Mathlib.Nat.{zero-add}
use native.Mathlib.Numerals.{add-one}
use native.Mathlib.Omega.{arith}
use borrow.Author.Tests.{eq-eqb}
use lib.ListN.{length, take, drop}
use lib.Seq.{length-take-le, take_at, drop_at}
use borrow.Rule.Slice.PartMut.{put_mid}
use Rattle.fields.specs.Records.{record_in, each_record}
use Rattle.fields.proofs.Records.{records_more}
use Rattle.machine.specs.Torque.{machine_of}
use Rattle.machine.specs.declared.Limits.{Limits}
use Rattle.line.specs.Answers.{Answer, accepted, answer_by}
use Rattle.line.specs.Blocks.{Call}
use Rattle.line.specs.Chains.{none, next}
use Rattle.line.specs.Ring.{told_of, show_refusal}
use Rattle.line.proofs.Chains.{chain_both}
use Rattle.planner.specs.Calls.{Called, Freshened, Told, Showed}
use Rattle.planner.specs.View.{view_of}
use Rattle.planner.proofs.Demand.{told_few, demand3}
use Rattle.replay.specs.Trace.{call_bytes, call_of, call_in, calls_from}
use Rattle.replay.specs.Rows.{row_of, each_of, row_size}
use Rattle.replay.specs.Replays.{plan_size, Demanded}
use Rattle.replay.specs.Runs.{Ran, ToldPlan}
use Rattle.machine.proofs.Runs.{stored_behind}
use Rattle.replay.proofs.Rows.{row_size_lem, each_both}

module _ {S C A : Type 0} {Step : S → C → A → S → Type 0} {written : A → List ℕ} where
  -- A run of calls behind calls,
  pub ran_both : {first second : List C} {s s' s'' : S} {one two : List ℕ} → Ran Step written first s s' one → Ran Step written second s' s'' two
      → Ran Step written (first ++ second) s s'' (one ++ two)
  ran_both r q =
      record {
        answers = r.answers ++ q.answers;
        called = chain_both r.called q.called;
        all_is = (λ i. r.all_is i ++ q.all_is i) ∙ sym (each_both written r.answers q.answers);
      }

  -- of one call,
  ran_one : {c : C} {s s' : S} (a : A) → Step s c a s' → Ran Step written (c ∷ []) s s' (written a)
  unfolding each_of
  ran_one a one = record { answers = a ∷ []; called = next one none; all_is = sym (append-nil (written a)) }

  -- of no records of bytes, each of which says a call,
  module _ (size : ℕ) (says : List ℕ → C) (bytes : List ℕ) where
    pub ran_none : (s : S) → Ran Step written (each_record size says bytes 0 0) s s []
    unfolding each_record each_of
    ran_none s = record { answers = []; called = none; all_is = refl }

    -- and of one record more.
    pub ran_more : (k : ℕ) {s s' s'' : S} {all : List ℕ} {c : C} {a : A} → Ran Step written (each_record size says bytes 0 k) s s' all
        → c ≡ says (record_in size bytes k) → Step s' c a s'' → Ran Step written (each_record size says bytes 0 (k + 1)) s s'' (all ++ written a)
    ran_more k {s'} {s''} {a} r e one =
        rw (add-one k, records_more size says bytes 0 k, zero-add k) (ran_both r (ran_one a (subst (λ (c : C). Step s' c a s'') e one)))

-- The row of one call more, stored behind those before it.
pub ran_stored : (bytes rows row : List ℕ) (k j : ℕ) {m m' m'' : List ℕ} {c : Call} {a : Answer} → row_size * k ≤ length rows
    → Ran Called row_of (calls_from bytes 0 k) m m' (take (row_size * k) rows) → c ≡ call_in bytes k → Called m' c a m'' → row ≡ row_of a
    → Ran Called row_of (calls_from bytes 0 (k + 1)) m m'' (take (row_size * (k + 1)) (put_mid (row_size * k) j rows row))
ran_stored bytes rows row k j {a} h r e one row_is =
    let long : row_size * k + length row ≡ row_size * (k + 1) = omega (arith, ap length row_is, row_size_lem a) in
    rw (stored_behind rows row (row_size * k) j (row_size * (k + 1)) h long, row_is) (ran_more call_bytes call_of bytes k r e one)

-- A list of one number more than are told is filled.
filled : {m lent left : List ℕ} {told : ℕ} {said : Answer} → Told m told → length lent ≡ told + 1 → Showed m lent said left → said ≡ accepted
filled {m} {lent} t e s =
    let fits : show_refusal (view_of m) (length lent) ≡ 0 = rw (eq-eqb (length lent) (told_of (view_of m) + 1) (e ∙ ap (λ (n : ℕ). n + 1) t.number_is)) in
    s.answer ∙ ap answer_by fits

-- The first numbers of a list for the plan, which are lent for it, and the plan shown there.
pub lent_long : {m : List ℕ} {told : ℕ} (plan : List ℕ) → Told m told → length plan ≡ plan_size → length (take (told + 1) plan) ≡ told + 1
lent_long {told} plan t p = length-take-le (told + 1) plan (omega (arith, told_few t))

pub told_plan : {m : List ℕ} {told : ℕ} {said : Answer} (plan shown : List ℕ) → Told m told → Showed m (take (told + 1) plan) said shown → length plan ≡ plan_size
    → length shown ≡ length (take (told + 1) plan) → ToldPlan m told plan (shown ++ drop (told + 1) plan)
told_plan {m} {told} plan shown t s p e =
    let long : length shown ≡ told + 1 = e ∙ lent_long plan t p in
    record {
      tells = t;
      shows = rw (take_at shown (drop (told + 1) plan) (told + 1) long) (subst (λ (a : Answer). Showed m (take (told + 1) plan) a shown) (filled t (lent_long plan t p) s) s);
      rest = drop_at shown (drop (told + 1) plan) (told + 1) long;
    }

-- Demand 3 of calls that were run from a fresh planner, with what is told and shown behind them.
pub demanded : {l : Limits} {loaded m₀ m m' answers' plan plan' : List ℕ} {calls : List Call} {told : ℕ}
    → Freshened m₀ l loaded 0 m → Ran Called row_of calls m m' answers' → ToldPlan m' told plan plan' → Demanded (machine_of l loaded) calls told answers' plan plan'
demanded fresh ran t =
    record {
      answers = ran.answers;
      rows = ran.all_is;
      demand = demand3 fresh refl ran.called t.tells t.shows;
      rest = t.rest;
    }
