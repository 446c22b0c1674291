-- `rs274::kept::Kept::keep` meets its contract, by what becomes of the block.
use Rattle.std.proofs.Common.{rules, ◌≡◌, ◌∙◌, sym, refl, Err}
use Rattle.rs274.proofs.Keeping.{keeps_still, keeps_faulty, keeps_many, keeps_refused, keeps_written}
use Rattle.rs274.proofs.kept.Kept.keep.Goals as goal

pub returns-then-is_still : goal.returns-then-is_still
returns-then-is_still c blocks h =
    keeps_still c.args.b blocks c.args.self.now.count c.args.self.now.bytes h _ (sym c.is_still.ensures ∙ c.if-is_still.true) h

pub returns-in_err-check_block : goal.returns-in_err-check_block
returns-in_err-check_block c blocks h =
    let why = c.in_err-check_block.field-0.0 in
    let e : c.from_residual.result ≡ Err why = search rules in
    rw e (keeps_faulty c.args.b blocks c.args.self.now.count c.args.self.now.bytes h why _ (sym c.is_still.ensures ∙ c.if-is_still.false)
    c.in_err-check_block.ensures)

pub returns-then-self-ge-MOST_BLOCKS : goal.returns-then-self-ge-MOST_BLOCKS
returns-then-self-ge-MOST_BLOCKS c blocks h =
    keeps_many c.args.b blocks c.args.self.now.count c.args.self.now.bytes h _ (sym c.is_still.ensures ∙ c.if-is_still.false)
    c.if-self-ge-MOST_BLOCKS.true (sym c.in_ok-check_block.ensures)

pub returns-in_err-write_record : goal.returns-in_err-write_record
returns-in_err-write_record c blocks h =
    let why = c.in_err-write_record.field-0.0 in
    let e : c.from_residual-in_err-write_record.result ≡ Err why = search rules in
    rw e (keeps_refused c.args.b blocks c.args.self.now.count c.args.self.now.bytes h (sym c.is_still.ensures ∙ c.if-is_still.false) c.if-self-ge-MOST_BLOCKS.false
    why c.write_record.new.out _ c.in_err-write_record.ensures)

pub returns : goal.returns
returns c blocks h =
    keeps_written c.args.b blocks c.args.self.now.count c.args.self.now.bytes h (sym c.is_still.ensures ∙ c.if-is_still.false) c.if-self-ge-MOST_BLOCKS.false
    c.write_record.new.out c.in_ok-write_record.ensures _ refl refl
