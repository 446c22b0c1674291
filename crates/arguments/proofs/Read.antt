-- What is left for a program whose words were read.
use Rattle.std.proofs.Common.{◌≡◌, ℕ, List, map, sym, ap, ◌∙◌}
use Rattle.std.specs.Prelude.{Option, Some, None}
use Rattle.options.specs.Scan.{asked_by, none_seen, seen_from}
use Rattle.options.specs.declared.Form.{Form}
use Rattle.options.specs.declared.Seen.{Seen}
use Rattle.options.specs.Kinds.{word_of}
use Rattle.options.proofs.Asks.{work_asked_is}
use Rattle.arguments.specs.declared.Work.{Work}
use Rattle.arguments.specs.Starts.{Carried, Started}

pub carried_started : (f : Form) (seen : Seen) (words : List (List ℕ)) (room : ℕ) (left : Option Work) → seen ≡ seen_from f none_seen 1 (map word_of words) → Carried f seen room left → Started f room left
carried_started f seen words room (Some w) e h =
    (h.0, record { words = words; is = h.1 ∙ e; work = (work_asked_is f words).0 (ap (asked_by f) (sym e) ∙ h.2) })
carried_started f seen words room None e h = tt
