-- Each promise of the planner has one outcome: two that meet it are equal, whatever the memory holds.
use Rattle.std.proofs.Common.{◌≡◌, ℕ, List, sym, ◌∙◌}
use Rattle.machine.specs.declared.Limits.{Limits}
use Rattle.line.specs.Answers.{Answer}
use Rattle.line.specs.Blocks.{Call}
use Rattle.planner.specs.Calls.{Called, Freshened, Told, Showed}
use Rattle.planner.proofs.View.{view_determines}

module _ {m a b : List ℕ} where
  pub fresh_one : {l : Limits} {loaded : List ℕ} {n k : ℕ} → Freshened m l loaded n a → Freshened m l loaded k b → (n ≡ k) × (a ≡ b)
  fresh_one p q = (p.answer ∙ sym q.answer, view_determines a b p.sized q.sized (p.after ∙ sym q.after))

  pub called_one : {c : Call} {s t : Answer} → Called m c s a → Called m c t b → (s ≡ t) × (a ≡ b)
  called_one p q = (p.answer ∙ sym q.answer, view_determines a b p.sized q.sized (p.after ∙ sym q.after))

  pub showed_one : {lent : List ℕ} {s t : Answer} → Showed m lent s a → Showed m lent t b → (s ≡ t) × (a ≡ b)
  showed_one p q = (p.answer ∙ sym q.answer, p.list ∙ sym q.list)

pub told_one : {m : List ℕ} {n k : ℕ} → Told m n → Told m k → n ≡ k
told_one p q = p.number_is ∙ sym q.number_is
