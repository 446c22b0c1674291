-- `rs274::line::take_words` meets its contract, by what becomes of the line's block.
use mathlib.Core.Path.{◌≡◌, sym, ap, subst, ◌∙◌}
use mathlib.Core.List.{List}
use Prim.Native.Nat.{◌^◌}
use Rattle.std.proofs.Common.{rules, Result, Ok, Err}
use Rattle.std.specs.Prelude.{⊤}
use Rattle.display.specs.declared.Refusal.{Refusal}
use Rattle.machine.specs.declared.Block.{Block}
use Rattle.words.specs.Words.{Words, words_in}
use Rattle.rs274.specs.Bounds.{Within}
use Rattle.rs274.specs.Kept.{Keeps, Takes}
use Rattle.rs274.specs.Modal.{modal_after, block_between}
use Rattle.rs274.specs.Text.{run_of, with_block, with_words}
use Rattle.rs274.specs.declared.Modal.{Modal}
use Rattle.rs274.proofs.Positions.{near_within, within_more, within_after}
use Rattle.rs274.proofs.Keeping.{takes_next, takes_refused}
use Rattle.rs274.proofs.line.take_words.Goals as goal
use Rattle.rs274.proofs.line.take_words.Goals.{After-keep}

pub modal_after-next-requires : goal.modal_after-next-requires
modal_after-next-requires c = (c.requires.0, near_within c.args.kept.now.few c.requires.1)

pub block_between-requires : goal.block_between-requires
block_between-requires c =
    let here = near_within c.args.kept.now.few c.requires.1 in
    (within_more here, subst (λ (n : Modal). Within (2 ^ 41) n) (sym c.modal_after-next.ensures) (within_after c.args.m (words_in c.args.words.now) c.requires.0 here))

-- the block between the two positions
module _ (c : After-keep) where
  abbrev words : Words
  words = words_in c.args.words.now

  block_is : c.block_between.result ≡ block_between c.args.m (modal_after c.args.m words) c.args.place
  block_is = c.block_between.ensures ∙ ap (λ (next : Modal). block_between c.args.m next c.args.place) c.modal_after-next.ensures

  kept_here : (blocks : List Block) (r : Result ⊤ Refusal) → Keeps (with_block c.block_between.result blocks) r c.keep.new.self
      → Keeps (with_block (block_between c.args.m (modal_after c.args.m words) c.args.place) blocks) r c.keep.new.self
  kept_here blocks r k = subst (λ (a : Block). Keeps (with_block a blocks) r c.keep.new.self) block_is k

pub returns-in_err-keep : goal.returns-in_err-keep
returns-in_err-keep c blocks h =
    let d = (goal.at.returns-in_err-keep c).After-keep in
    let why = c.in_err-keep.field-0.0 in
    let e : c.from_residual.result ≡ Err why = search rules in
    rw e (takes_refused c.args.m (words d) c.args.place c.args.kept.now.count blocks c.keep.new.self why
    (kept_here d blocks (Err why) (c.in_err-keep.ensures blocks h)))

pub returns : goal.returns
returns c blocks h =
    let d = (goal.at.returns c).After-keep in
    subst (λ (next : Modal). Takes (with_words c.args.place (run_of c.args.m blocks) (words d)) (Ok next) c.keep.new.self)
    (sym c.modal_after-next.ensures)
    (takes_next c.args.m (words d) c.args.place c.args.kept.now.count blocks c.keep.new.self c.requires.1 h.counted
    (kept_here d blocks (Ok tt) (c.in_ok-keep.ensures blocks h)))
