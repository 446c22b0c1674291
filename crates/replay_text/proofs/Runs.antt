-- Runs of the records of a chunk with their lines, and the closing of a planner. From replay's laws of runs and the planner's promises.
use mathlib.Core.List.{List, ◌++◌, []}
use mathlib.Core.Path.{◌≡◌, refl, sym, ◌∙◌}
use Prim.Native.Nat.{ℕ, ◌+◌, ◌≤◌}
use native.Mathlib.Omega.{arith}
use lib.ListN.{length, take}
use Rattle.fields.specs.Records.{record_in, each_record}
use Rattle.line.specs.Blocks.{line_plan}
use Rattle.planner.specs.Calls.{ForLine}
use Rattle.replay.specs.Replays.{plan_size}
use Rattle.replay.specs.Runs.{ToldPlan}
use Rattle.replay.proofs.Runs as replay
use Rattle.text.proofs.Store.{put_none, stored_next, take_front}
use Rattle.given_text.specs.Given.{WroteLine}
use Rattle.replay_text.specs.Chunks.{Recorded, text_bytes}
use Rattle.replay_text.specs.Texts.{closing_text}
use Rattle.replay_text.specs.Runs.{RanText, Ended, Closed}

module _ {S C A : Type 0} (r : Recorded S C A) (bytes : List ℕ) where
  -- A run of no records,
  pub ran_none : (s : S) (text : List ℕ) → RanText r (each_record r.size r.says bytes 0 0) s s text 0 text
  ran_none s text =
      record { few = omega arith; lines = []; ran = replay.ran_none r.size r.says bytes s; stored = record { bytes = sym (put_none text 0); next = refl } }

  -- and of one more, whose line is stored behind those before it.
  pub ran_more : (k : ℕ) {s s' s'' : S} {text text' text'' : List ℕ} {end end' : ℕ} {c : C} (a : A) → end' ≤ text_bytes
      → RanText r (each_record r.size r.says bytes 0 k) s s' text end text' → c ≡ r.says (record_in r.size bytes k) → r.Step s' c a s''
      → WroteLine (r.line a) text' end end' text'' → RanText r (each_record r.size r.says bytes 0 (k + 1)) s s'' text end' text''
  ran_more k a few t e one w =
      record {
        few = few;
        lines = t.lines ++ r.line a;
        ran = replay.ran_more r.size r.says bytes k t.ran e one;
        stored = stored_next t.stored w.stored (omega arith);
      }

-- The closing lines of the number told and the plan shown;
pub closed : {m plan text text' : List ℕ} {told end : ℕ} (lent : List ℕ) → length lent ≡ plan_size → ToldPlan m told lent plan
    → Ended told (take (told + 1) plan) text end text' → Closed m text end text'
closed {plan} {told} lent p t w =
    record {
      told = told;
      tells = t.tells;
      lent = take (told + 1) lent;
      fits = replay.lent_long lent t.tells p;
      plan = take (told + 1) plan;
      shows = t.shows;
      ended = w;
    }

-- they are those of a line that the memory holds.
pub closed_line : {m text text' : List ℕ} {end : ℕ} → Closed m text end text' → ForLine m (λ line. take end text' ≡ closing_text (length line.blocks) (line_plan line))
closed_line c line h =
    let number = c.tells.line line h in
    let plan = ((c.shows.line line h).fits (rw number at c.fits)).1 in
    take_front c.ended.stored ∙ (λ i. closing_text (number i) (plan i))
