-- `replay::calls::read_call` meets its contract: the part lent has the bytes of call k.
use mathlib.Core.List.{List}
use mathlib.Core.Path.{◌≡◌, ap, ◌∙◌}
use Prim.Native.Nat.{ℕ, ◌+◌, ◌-◌, ◌*◌}
use native.Mathlib.Omega.{arith}
use lib.ListN.{take, drop}
use Rattle.replay.specs.Trace.{call_bytes, call_in, call_of}
use Rattle.replay.proofs.calls.read_call.Goals as goal

part_call : (bytes : List ℕ) (k : ℕ) → call_of (take (call_bytes * k + call_bytes - call_bytes * k) (drop (call_bytes * k) bytes)) ≡ call_in bytes k
part_call bytes k =
    let e : call_bytes * k + call_bytes - call_bytes * k ≡ call_bytes = omega arith in
    ap (λ (n : ℕ). call_of (take n (drop (call_bytes * k) bytes))) e

pub returns : goal.returns
returns c = let a = c.args in c.call_of.ensures ∙ part_call a.bytes.now a.k
