-- `fields::load`: the number so far is that of the bytes passed, from `number_next`; it fits a word, from `next_lt`.
use mathlib.Core.Path.{◌≡◌, refl, ap, ◌∙◌}
use Prim.Native.Nat.{ℕ, ◌<◌, ◌+◌, ◌-◌, ◌*◌, ◌^◌}
use native.Mathlib.Omega.{arith}
use mathlib.Core.List.{List}
use lib.ListN.{get_or, take, drop}
use lib.Seq.{take_all}
use Rattle.fields.specs.Layouts.{joined}
use Rattle.fields.specs.Bytes.{Bytes, number_of}
use Rattle.fields.proofs.Bytes.{bytes_drop, bytes_take, number_next, next_lt, part_lt}
use Rattle.fields.proofs.load.Goals as goal
use Rattle.fields.proofs.load.Goals.{In-loop-b}

-- the bytes that are loaded
module _ (c : In-loop-b) where
  abbrev part : List ℕ
  part = take (c.args.from + c.args.n - c.args.from) (drop c.args.from c.args.s.now)

  bytes : Bytes part
  bytes = bytes_take _ (bytes_drop c.args.from (record { each = λ i. (c.type_inv.s i).fits }))

  fits : c.loop-b.number * 256 + get_or part c.loop-b.b-index 0 < 2 ^ 64
  fits = next_lt _ bytes c.loop-b.invariant c.loop-b-test.true (omega arith)

pub loop-b-init : goal.loop-b-init
unfolding number_of joined
loop-b-init c = refl

pub overflow_mul-number : goal.overflow_mul-number
overflow_mul-number c = record { fits = omega (arith, fits (goal.at.overflow_mul-number c).In-loop-b) }

pub overflow_add-number : goal.overflow_add-number
overflow_add-number c = record { fits = omega (arith, fits (goal.at.overflow_add-number c).In-loop-b) }

pub loop-b-preserved : goal.loop-b-preserved
loop-b-preserved c = number_next _ _ c.loop-b.invariant c.from.ensures c.loop-b-test.true

pub returns : goal.returns
returns c =
    let a = c.args in
    let size : a.from + a.n - a.from ≡ a.n = omega arith in
    let is : c.loop-b.number ≡ number_of (take a.n (drop a.from a.s.now)) =
    c.loop-b.invariant ∙ ap number_of (take_all _ _ c.loop-b-test.false ∙ ap (λ (k : ℕ). take k (drop a.from a.s.now)) size) in
    let bytes : Bytes a.s.now = record { each = λ i. (c.type_inv.s i).fits } in
    record { is = is; small = rw is (part_lt a.from a.n bytes c.requires.1) }
