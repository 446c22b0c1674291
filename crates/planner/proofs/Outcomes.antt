-- What a call answers and leaves, by the tests that the code makes.
use Rattle.std.proofs.Common.{◌≡◌, ℕ, zero, suc, ◌+◌, ◌<◌, ◌≤◌, Bool, cond, leb, List, length, sym, refl, ap, ◌∙◌, arith, lit<, eq-eqb, ne_eqb, le-leb}
use borrow.Author.Tests.{lt-leb}
use Rattle.display.proofs.Answers.{then_first, then_zero}
use Rattle.display.specs.Display.{◌then◌}
use Rattle.machine.specs.Checks.{block_refusal}
use Rattle.machine.specs.Torque.{machine_of, machine_refusal}
use Rattle.machine.specs.declared.Block.{Block}
use Rattle.machine.specs.declared.Limits.{Limits}
use Rattle.line.specs.declared.Given.{Given}
use Rattle.line.specs.Answers.{Answer, accepted, gave, refused, answer_by}
use Rattle.line.specs.Blocks.{most_held, Call, add, take, add_refusal}
use Rattle.line.specs.Ring.{put_last, added_in, given_in, taken_from, taken_answer, taken_in, ring_answer, ring_after, told_of, shown_in, show_refusal}
use Rattle.line.proofs.Calls.{holds_fresh, holds_call}
use Rattle.line.proofs.Shows.{holds_told, holds_shown, holds_highest}
use Rattle.planner.specs.View.{memory_size, view_of}
use Rattle.planner.proofs.View.{view_sized}
use Rattle.planner.specs.Calls.{Memory, GaveFirst, Called, Freshened, fresh_in, Showed, shown_list, Told}

-- An answer is not two at once.
accepted_not : (n : ℕ) → accepted ≡ refused n → ⊥
accepted_not n e = let z : ◌≡◌ {A = ℕ} 0 1 = cc in omega arith

gave_not : (g : Given) (n : ℕ) → gave g ≡ refused n → ⊥
gave_not g n e = let z : ◌≡◌ {A = ℕ} 0 1 = cc in omega arith

-- A definition by cases at a number above 0: a refusal, or a count of blocks.
above_zero : (P : ℕ → Type 0) → ((k : ℕ) → P (suc k)) → (n : ℕ) → 0 < n → P n
above_zero P e zero h = absurd (omega arith)
above_zero P e (suc k) h = e k

-- A call whose answer and memory are the ring's answers and leaves what the line says.
called : (m m' : List ℕ) (call : Call) (said : Answer) → length m' ≡ memory_size → said ≡ ring_answer (view_of m) call → view_of m' ≡ ring_after (view_of m) call
    → ((n : ℕ) → said ≡ refused n → m' ≡ m) → Called m call said m'
called m m' call said sized answer after unchanged =
    record {
      sized = sized;
      answer = answer;
      after = after;
      unchanged = unchanged;
      line = λ line h. let next = holds_call call h in (answer ∙ next.0, rw after next.1);
    }

module _ (m : List ℕ) (sized : length m ≡ memory_size) (l : Limits) (loaded : List ℕ) where
  -- Limits or steps refused,
  pub fresh_refused : (n : ℕ) → 0 < n → n ≡ machine_refusal l loaded → Freshened m l loaded n m
  fresh_refused n h e =
      record {
        sized = sized;
        answer = e;
        after = above_zero (λ k. view_of m ≡ fresh_in k (view_of m) (machine_of l loaded)) (λ k. refl) n h ∙ ap (λ (k : ℕ). fresh_in k (view_of m) (machine_of l loaded)) e;
        unchanged = λ p. refl;
        line = λ z. absurd (omega arith);
      }

  -- and accepted.
  pub fresh_made : (m' : List ℕ) → length m' ≡ memory_size → 0 ≡ machine_refusal l loaded → view_of m' ≡ fresh_in 0 (view_of m) (machine_of l loaded) → Freshened m l loaded 0 m'
  fresh_made m' s e v =
      record {
        sized = s;
        answer = e;
        after = v ∙ ap (λ (k : ℕ). fresh_in k (view_of m) (machine_of l loaded)) e;
        unchanged = λ p. absurd (omega arith);
        line = λ z. rw v (holds_fresh (machine_of l loaded) (view_of m).places (view_of m).stairs (then_zero _ (sym e)).0 (view_sized m).0 (view_sized m).1);
      }

-- An add that is refused by a number changes nothing.
refused_by : (m : List ℕ) (b : Block) (n : ℕ) → length m ≡ memory_size → 0 < n → n ≡ add_refusal (view_of m).count b → Called m (add b) (refused n) m
unfolding ring_answer ring_after
refused_by m b n sized h e =
    called m m (add b) (refused n) sized
    (above_zero (λ k. refused k ≡ answer_by k) (λ k. refl) n h ∙ ap answer_by e)
    (above_zero (λ k. view_of m ≡ added_in k (view_of m) b) (λ k. refl) n h ∙ ap (λ (k : ℕ). added_in k (view_of m) b) e)
    (λ k q. refl)

module _ (m : List ℕ) (b : Block) (sized : length m ≡ memory_size) where
  -- The block is refused,
  pub add_refused : (n : ℕ) → 0 < n → n ≡ block_refusal b → Called m (add b) (refused n) m
  add_refused n h e = refused_by m b n sized h (sym (then_first _ h) ∙ ap (λ (k : ℕ). k then cond (leb most_held (view_of m).count) 7 0) e)

  -- all places are taken,
  pub add_full : 0 ≡ block_refusal b → most_held ≤ (view_of m).count → Called m (add b) (refused 7) m
  add_full e full = refused_by m b 7 sized (lit< tt) (sym (λ i. sym e i then cond (le-leb most_held (view_of m).count full i) 7 0))

  -- or the block is put last.
  pub add_put : (m' : List ℕ) → 0 ≡ block_refusal b → (view_of m).count < most_held → Memory (put_last (view_of m) b) m' → Called m (add b) accepted m'
  unfolding ring_answer ring_after
  add_put m' e room held =
      let none = sym (ap (λ (k : ℕ). k then cond (leb most_held (view_of m).count) 7 0) (sym e) ∙ ap (λ (t : Bool). cond t 7 0) (lt-leb most_held (view_of m).count room)) in
      called m m' (add b) accepted held.sized (ap answer_by none) (held.view ∙ ap (λ (k : ℕ). added_in k (view_of m) b) none)
      (λ k q. absurd (accepted_not k q))

module _ (m : List ℕ) where
  -- A take of none,
  pub take_refused : length m ≡ memory_size → (view_of m).count ≡ 0 → Called m take (refused 8) m
  unfolding ring_answer ring_after
  take_refused sized e =
      called m m take (refused 8) sized (ap (λ (k : ℕ). taken_answer k (view_of m)) (sym e)) (ap (λ (k : ℕ). taken_in k (view_of m)) (sym e)) (λ k q. refl)

  -- and of the first block.
  pub take_gave : (given : Given) (m' : List ℕ) → 0 < (view_of m).count → GaveFirst m given m' → Called m take (gave given) m'
  unfolding ring_answer ring_after
  take_gave given m' h g =
      called m m' take (gave given) g.held.sized
      (ap gave g.given ∙ above_zero (λ k. gave (given_in (view_of m)) ≡ taken_answer k (view_of m)) (λ k. refl) (view_of m).count h)
      (g.held.view ∙ above_zero (λ k. taken_from (view_of m) ≡ taken_in k (view_of m)) (λ k. refl) (view_of m).count h)
      (λ k q. absurd (gave_not given k q))

-- A list of the right length gets the plan; any other stays as it is.
module _ (m held : List ℕ) where
  right_length : length held ≡ told_of (view_of m) + 1 → show_refusal (view_of m) (length held) ≡ 0
  right_length e = ap (λ (t : Bool). cond t 0 11) (eq-eqb _ _ e)

  wrong_length : (length held ≡ told_of (view_of m) + 1 → ⊥) → show_refusal (view_of m) (length held) ≡ 11
  wrong_length e = ap (λ (t : Bool). cond t 0 11) (ne_eqb _ _ e)

  pub shown_all : (exit : List ℕ) → length held ≡ told_of (view_of m) + 1 → exit ≡ shown_in (view_of m) → Showed m held accepted exit
  shown_all exit e s =
      record {
        answer = ap answer_by (sym (right_length e));
        list = s ∙ ap (λ (k : ℕ). shown_list k (view_of m) held) (sym (right_length e));
        unchanged = λ k q. absurd (accepted_not k q);
        line = λ line h.
            record {
              highest = holds_highest h;
              fits = λ n. (refl, s ∙ holds_shown h);
              other = λ n. absurd (n (e ∙ ap (λ (k : ℕ). k + 1) (holds_told h)));
            };
      }

  pub shown_none : (length held ≡ told_of (view_of m) + 1 → ⊥) → Showed m held (refused 11) held
  shown_none e =
      record {
        answer = ap answer_by (sym (wrong_length e));
        list = ap (λ (k : ℕ). shown_list k (view_of m) held) (sym (wrong_length e));
        unchanged = λ k q. refl;
        line = λ line h.
            record {
              highest = holds_highest h;
              fits = λ n. absurd (e (n ∙ ap (λ (k : ℕ). k + 1) (sym (holds_told h))));
              other = λ n. (refl, refl);
            };
      }

-- The number told.
pub told_is : (m : List ℕ) (n : ℕ) → n ≡ told_of (view_of m) → Told m n
told_is m n e = record { number_is = e; line = λ line h. e ∙ holds_told h }
