-- A line that has room is stored.
use mathlib.Core.List.{List}
use mathlib.Core.Path.{◌≡◌}
use Prim.Native.Nat.{ℕ, ◌+◌, ◌≤◌}
use native.Mathlib.Omega.{arith}
use lib.ListN.{length}
use Rattle.std.specs.Prelude.{Option}
use Rattle.text.specs.Store.{place_behind, Answered}
use Rattle.text.proofs.Store.{stored_with_room}
use Rattle.given_text.specs.Given.{most_given, WroteLine}

pub wrote : {s line after : List ℕ} {at end : ℕ} {answer : Option ℕ} → length line ≤ most_given → at + most_given ≤ length s
    → Answered s at line answer after → end ≡ place_behind at answer → WroteLine line s at end after
wrote few room r e =
    let s = stored_with_room (omega arith) r e in
    record { few = omega (arith, s.next); stored = s }
