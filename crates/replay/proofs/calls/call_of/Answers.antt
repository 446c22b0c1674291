-- `replay::calls::call_of` meets its contract: the kind decides.
use mathlib.Core.Path.{◌≡◌, refl, sym, ap, ◌∙◌}
use Prim.Native.Nat.{ℕ, zero, suc}
use Rattle.machine.specs.declared.Block.{Block}
use Rattle.line.specs.Blocks.{add}
use Rattle.replay.specs.Trace.{block_of, call_by, call_of}
use Rattle.replay.proofs.calls.call_of.Goals as goal

adds : (kind : ℕ) (b : Block) → (kind ≡ 0 → ⊥) → add b ≡ call_by kind b
adds zero b h = absurd (h refl)
adds (suc n) b h = refl

pub returns-then-kind-eq0 : goal.returns-then-kind-eq0
unfolding call_of
returns-then-kind-eq0 c =
    let bytes = c.args.bytes.now in
    ap (λ (kind : ℕ). call_by kind (block_of bytes)) (sym c.if-kind-eq0.true ∙ c.word_of-kind.ensures)

pub returns : goal.returns
unfolding call_of
returns c =
    ap add c.block_of.ensures ∙ adds _ _ (λ z. c.if-kind-eq0.false (c.word_of-kind.ensures ∙ z))
