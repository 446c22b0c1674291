-- `order_text::events::read_event`: the part lent has the bytes of event k.
use mathlib.Core.List.{List}
use mathlib.Core.Path.{◌≡◌, ap, ◌∙◌}
use Prim.Native.Nat.{ℕ, ◌+◌, ◌-◌, ◌*◌}
use native.Mathlib.Omega.{arith}
use lib.ListN.{take, drop}
use Rattle.order_text.specs.Orders.{event_bytes, event_in, event_of}
use Rattle.order_text.proofs.events.read_event.Goals as goal

part_event : (bytes : List ℕ) (k : ℕ) → event_of (take (event_bytes * k + event_bytes - event_bytes * k) (drop (event_bytes * k) bytes)) ≡ event_in bytes k
part_event bytes k =
    let e : event_bytes * k + event_bytes - event_bytes * k ≡ event_bytes = omega arith in
    ap (λ (n : ℕ). event_of (take n (drop (event_bytes * k) bytes))) e

pub returns : goal.returns
returns c = let a = c.args in c.event_of.ensures ∙ part_event a.bytes.now a.k
