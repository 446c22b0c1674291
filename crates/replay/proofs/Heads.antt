-- The numbers that a trace's checks come to, by what the code tests. From the definitions.
use mathlib.Core.Path.{◌≡◌, refl, sym, ap, subst, ◌∙◌}
use mathlib.Core.Bool.{Bool, true, false, ◌&&◌, cond, ◌||◌}
use mathlib.Core.List.{List}
use Prim.Native.Nat.{ℕ, ◌-◌, ◌*◌, ◌%◌, ◌≤◌, ◌<◌}
use native.Mathlib.Omega.{arith}
use borrow.Author.Tests.{lt-ltb, le-ltb, ltb-false, eq-eqb, ne_eqb}
use lib.Dec.{lit<, ltb, eqb}
use lib.ListN.{length}
use Rattle.machine.specs.Checks.{limits_refusal}
use Rattle.machine.specs.Torque.{machine_of, steps_refusal}
use Rattle.machine.specs.declared.Limits.{Limits}
use Rattle.display.specs.declared.Refusal.{Refusal}
use Rattle.display.specs.declared.Refusal.TheVariants as why
use Rattle.std.specs.Prelude.{⊤, Result, Ok, Err}
use Rattle.display.specs.Display.{refusal_number, checked_means, given, refused}
use Rattle.display.proofs.Answers.{refusal_above, then_first, then_second, then_zero, not_picked, given_is, refused_is}
use Rattle.planner.specs.Calls.{Freshened}
use Rattle.tape.specs.Answers.{limits_fault}
use Rattle.tape.specs.Tape.{limits_bytes, limits_at}
use Rattle.tape.proofs.Checks.{limits_faultless}
use Rattle.replay.specs.Trace.{call_bytes, calls_in, trace_calls, ragged_trace, trace_refusal, read_trace}
use Rattle.replay.specs.Rows.{row_size}
use Rattle.replay.specs.Replays.{plan_size, lists_refusal, begin_refusal, replay_refusal, Begun, Demanded, Replays}

module _ (trace : List ℕ) where
  pub head_short : length trace < limits_bytes → trace_refusal trace ≡ 9
  unfolding trace_refusal
  head_short h = rw (lt-ltb (length trace) limits_bytes h)

  pub head_ragged : limits_bytes ≤ length trace → ((length trace - limits_bytes) % call_bytes ≡ 0 → ⊥) → trace_refusal trace ≡ 9
  unfolding trace_refusal
  head_ragged l h = rw (le-ltb (length trace) limits_bytes l, ne_eqb ((length trace - limits_bytes) % call_bytes) 0 h)

  pub head_limits : limits_bytes ≤ length trace → (length trace - limits_bytes) % call_bytes ≡ 0 → trace_refusal trace ≡ limits_fault trace
  unfolding trace_refusal
  head_limits l e = rw (le-ltb (length trace) limits_bytes l, eq-eqb ((length trace - limits_bytes) % call_bytes) 0 e)

  -- A trace that passes has its limits, and they pass 1.
  pub head_passed : trace_refusal trace ≡ 0 → (limits_bytes ≤ length trace) × (limits_fault trace ≡ 0)
  unfolding trace_refusal
  head_passed e =
      let ragged = then_zero (ragged_trace trace) e in
      (ltb-false (length trace) limits_bytes (neither (ltb (length trace) limits_bytes) _ (not_picked _ (lit< tt) ragged.0)), ragged.1)
    where
      neither : (a b : Bool) → a || b ≡ false → a ≡ false
      neither true b e = let z : ◌≡◌ {A = ℕ} 0 1 = cc in absurd (omega arith)
      neither false b e = refl

  -- What reading the head gives, or refuses.
  pub head_given : {l : Limits} → read_trace trace ≡ given l
      → (trace_refusal trace ≡ 0) × ((limits_at trace ≡ l) × (limits_refusal l ≡ 0))
  head_given e =
      let r = given_is (limits_at trace) (trace_refusal trace) (trace_refusal trace) (sym e) in
      (r.0, (sym r.1, ap limits_refusal r.1 ∙ (limits_faultless trace (head_passed r.0).1).1))

-- What making a planner for a trace answers: the head decides, or the steps do.
module _ (trace loaded : List ℕ) where
  pub begun_refused : {memory : List ℕ} (r : Refusal) → read_trace trace ≡ refused (refusal_number r) → Begun trace loaded memory (Err r) memory
  begun_refused r e =
      let s = refused_is (limits_at trace) (trace_refusal trace) (trace_refusal trace) (sym e) in
      record { number = s.1 ∙ sym (then_first (steps_refusal loaded) s.0); fresh = λ z. absurd (omega (arith, refusal_above r)) }

  pub begun_fresh : {memory memory' : List ℕ} {l : Limits} {r : Result ⊤ Refusal} → read_trace trace ≡ given l → Freshened memory l loaded (checked_means r) memory'
      → Begun trace loaded memory r memory'
  begun_fresh {memory} {memory'} {l} {r} e f =
      let head = head_given trace e in
      record {
        number = f.answer ∙ then_second head.1.1 refl ∙ sym (then_second head.0 refl);
        fresh =
            λ z.
            subst (λ (n : ℕ). Freshened memory (limits_at trace) loaded n memory') z
            (subst (λ (x : Limits). Freshened memory x loaded (checked_means r) memory') (sym head.1.0) f);
      }

  -- A planner was made: the trace has its limits.
  pub begun_long : begin_refusal trace loaded ≡ 0 → limits_bytes ≤ length trace
  begun_long e = (head_passed trace (then_zero (trace_refusal trace) e).0).0

-- What a trace is answered.
module _ (trace loaded answers plan : List ℕ) where
  -- refused by a number
  refused_by : (r : Refusal) → replay_refusal trace loaded (length answers) (length plan) ≡ refusal_number r → Replays trace loaded answers plan (Err r) answers plan
  refused_by r e =
      let above = refusal_above r in
      record {
        number = sym e;
        run = λ z. absurd (omega arith);
        refused = λ h. record { answers_same = refl; plan_same = refl };
      }

  -- by its head or the steps
  pub begin_refused : (r : Refusal) → refusal_number r ≡ begin_refusal trace loaded → Replays trace loaded answers plan (Err r) answers plan
  unfolding replay_refusal
  begin_refused r e =
      let above : 0 < begin_refusal trace loaded = rw (← e) (refusal_above r) in
      refused_by r (then_first (lists_refusal trace (length answers) (length plan)) above ∙ sym e)

  -- by the length of a list
  pub answers_refused : begin_refusal trace loaded ≡ 0 → (length answers ≡ row_size * calls_in trace → ⊥) → Replays trace loaded answers plan (Err why.List) answers plan
  unfolding replay_refusal
  answers_refused e h = refused_by why.List (then_second e (ap (λ (t : Bool). cond (t && eqb (length plan) plan_size) 0 11) (ne_eqb (length answers) (row_size * calls_in trace) h)))

  pub plan_refused : begin_refusal trace loaded ≡ 0 → length answers ≡ row_size * calls_in trace → (length plan ≡ plan_size → ⊥)
      → Replays trace loaded answers plan (Err why.List) answers plan
  unfolding replay_refusal
  plan_refused e a h =
      refused_by why.List
      (then_second e (λ i. cond (eq-eqb (length answers) (row_size * calls_in trace) a i && ne_eqb (length plan) plan_size h i) 0 11))

  -- run
  pub trace_run : {answers' plan' : List ℕ} (told : ℕ) → begin_refusal trace loaded ≡ 0 → length answers ≡ row_size * calls_in trace → length plan ≡ plan_size
      → Demanded (machine_of (limits_at trace) loaded) (trace_calls trace) told answers' plan plan' → Replays trace loaded answers plan (Ok told) answers' plan'
  unfolding replay_refusal
  trace_run told e a p d =
      record {
        number = sym (then_second e (λ i. cond (eq-eqb (length answers) (row_size * calls_in trace) a i && eq-eqb (length plan) plan_size p i) 0 11));
        run = λ z. d;
        refused = λ h. absurd (omega arith);
      }
