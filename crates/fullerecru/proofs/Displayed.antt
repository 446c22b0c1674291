-- From a call's promise to that of the function for C.
use mathlib.Core.List.{List}
use mathlib.Core.Path.{◌≡◌, refl, sym, ap, subst, ◌∙◌}
use Prim.Native.Nat.{ℕ, zero, suc, ◌<◌}
use native.Mathlib.Omega.{arith}
use lib.IntN.{ℤ}
use lib.ListN.{length}
use mir.Syntax.{w64}
use mir.Val.{SFits}
use Rattle.arith.proofs.SignedLaws.{read_back, read_back_lem}
use Rattle.machine.specs.Labels.{plain_block}
use Rattle.machine.specs.declared.Block.{Block}
use Rattle.machine.specs.declared.Limits.{Limits}
use Rattle.line.specs.Answers.{Answer, accepted, gave, refused, answer_by, answer_number}
use Rattle.line.specs.Blocks.{add, take, add_refusal}
use Rattle.line.specs.Ring.{ring_answer, show_refusal}
use Rattle.planner.specs.Calls.{Called, Freshened, Showed}
use Rattle.planner.specs.View.{view_of}
use Rattle.fullerecru.specs.Planners.{moves_after, numbers_after, TakenOut}

-- A block of moves that the machine reads back from their bits.
pub plain_back : {b : Block} {x y z : ℤ} {feed radius mark : ℕ} → b ≡ plain_block (read_back x) (read_back y) (read_back z) feed radius mark
    → SFits w64 x → SFits w64 y → SFits w64 z → b ≡ plain_block x y z feed radius mark
plain_back {feed} {radius} {mark} e f g h = e ∙ (λ i. plain_block (read_back_lem f i) (read_back_lem g i) (read_back_lem h i) feed radius mark)

-- A fresh planner by its number and its limits.
pub fresh_by : {m m' loaded : List ℕ} {read l : Limits} {n k : ℕ} → Freshened m read loaded k m' → n ≡ k → read ≡ l → Freshened m l loaded n m'
fresh_by {m} {m'} {loaded} {read} {n} f e same =
    subst (λ (x : Limits). Freshened m x loaded n m') same (subst (λ (j : ℕ). Freshened m read loaded j m') (sym e) f)

-- The number of a number's answer is that number,
pub number_back : (k : ℕ) → answer_number (answer_by k) ≡ k
number_back zero = refl
number_back (suc k) = refl

-- and what is promised of an answer that is a number's is promised of that of its own number:
by_number_lem : (Promised : Answer → Type 0) {said : Answer} {n : ℕ} (k : ℕ) → said ≡ answer_by k → n ≡ answer_number said → Promised said → Promised (answer_by n)
by_number_lem Promised k p q = subst Promised (p ∙ ap answer_by (sym (q ∙ ap answer_number p ∙ number_back k)))

-- an add of the block that was read,
pub added_by : {m m' : List ℕ} {x b : Block} {said : Answer} {n : ℕ} → x ≡ b → Called m (add x) said m' → n ≡ answer_number said → Called m (add b) (answer_by n) m'
unfolding ring_answer
added_by {m} {m'} {b} {said} same c e =
    let d = subst (λ (x : Block). Called m (add x) said m') same c in
    by_number_lem (λ a. Called m (add b) a m') (add_refusal (view_of m).count b) d.answer e d

-- showing the plan,
pub shown_by : {m lent left : List ℕ} {said : Answer} {n : ℕ} → Showed m lent said left → n ≡ answer_number said → Showed m lent (answer_by n) left
shown_by {m} {lent} {left} s e = by_number_lem (λ a. Showed m lent a left) (show_refusal (view_of m) (length lent)) s.answer e s

-- and a take by its number and the lists that are lent to it.
pub taken_out : {m m' : List ℕ} (said : Answer) {n : ℕ} {moves moves' : List ℤ} {numbers numbers' : List ℕ} → Called m take said m' → n ≡ answer_number said
    → moves' ≡ moves_after said moves → numbers' ≡ numbers_after said numbers → TakenOut m n m' moves moves' numbers numbers'
taken_out {m} {m'} said {n} {moves} {moves'} {numbers} {numbers'} c e f g =
    record { said = said; called = c; number_is = e; moves_are = f; numbers_are = g; unchanged = λ h. unchanged said c.unchanged e f g h }
  where
    unchanged : (said : Answer) → ((k : ℕ) → said ≡ refused k → m' ≡ m) → n ≡ answer_number said → moves' ≡ moves_after said moves → numbers' ≡ numbers_after said numbers
        → 0 < n → (m' ≡ m) × (moves' ≡ moves) × (numbers' ≡ numbers)
    unchanged accepted u e f g h = absurd (omega arith)
    unchanged (gave _) u e f g h = absurd (omega arith)
    unchanged (refused k) u e f g h = (u k refl, f, g)
