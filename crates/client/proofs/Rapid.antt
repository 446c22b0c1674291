-- The worked order: what the definitions compute of it, and what follows from the promises of host and planner.
use mathlib.Core.List.{List, []}
use mathlib.Core.Path.{◌≡◌, refl, ap, subst, ◌∙◌}
use mathlib.Core.Bool.{true}
use Prim.Native.Nat.{ℕ}
use lib.Ieee.{Float, binary64, eq, of_bits, of_int, sub}
use lib.ListN.{length}
use Rattle.doubles.specs.Readings.{reading_of}
use Rattle.fields.specs.Signed.{signed_of, bits_of}
use Rattle.machine.specs.Checks.{greatest_move, block_refusal}
use Rattle.machine.specs.declared.Limits.{Limits}
use Rattle.line.specs.Answers.{Answer, accepted}
use Rattle.line.specs.Blocks.{add, fresh_line, line_answer, line_after}
use Rattle.planner.specs.Calls.{Freshened, Told}
use Rattle.host.specs.Calls.{Ordered, host_after}
use Rattle.host.specs.Fields.{field_fault, order_fault, readings_of}
use Rattle.host.specs.State.{fresh_host, host_numbers, host_of, order_block, position_of}
use Rattle.host.specs.declared.orders.Order.{Order}
use Rattle.host.specs.declared.orders.Order.TheVariants.{Rapid}
use Rattle.host.specs.declared.orders.Point.{Point}
use Rattle.cases.specs.Shop.{limits_m, machine_m}
use Rattle.client.specs.Hosted.{along, origin}
use Rattle.client.proofs.Worked.{held_fresh}

-- the double 62, as the program writes it
abbrev sixty_two : Float
sixty_two = of_bits binary64 4633922541587529728

-- the numbers of a fresh host, and the rapid
abbrev fresh_numbers : List ℕ
fresh_numbers = host_numbers fresh_host

abbrev rapid : Order
rapid = Rapid along

-- What the definitions compute.
record Computed : Type 0 where
  -- no field is refused
  pub fields : order_fault rapid origin ≡ 0
  -- the block is accepted, and is the only one held
  pub answer : line_answer (fresh_line machine_m) (add (order_block (host_of fresh_numbers) rapid origin)) ≡ accepted
  pub one : length (line_after (fresh_line machine_m) (add (order_block (host_of fresh_numbers) rapid origin))).blocks ≡ 1
  -- the point given back is 62 µm
  pub point : eq (position_of (host_of (host_after accepted fresh_numbers (readings_of rapid origin)))).x sixty_two ≡ true

computed : Computed
unfolding readings_of field_fault reading_of sub of_bits of_int eq line_answer line_after greatest_move block_refusal signed_of bits_of
computed = record { fields = refl; answer = refl; one = refl; point = refl }

module _ {m n p host host' : List ℕ} {l : Limits} {refusal : ℕ} {target offset : Point} {said : Answer} (el : l ≡ limits_m) (f : Freshened m l [] refusal n)
    (eh : host ≡ fresh_numbers) (et : target ≡ along) (eo : offset ≡ origin) (done : Ordered n host (Rapid target) offset said p host') where
  -- the order of the fresh host
  order : Ordered n fresh_numbers rapid origin said p host'
  order =
      subst (λ (h : List ℕ). Ordered n h rapid origin said p host') eh
      (subst (λ (x : Point). Ordered n host rapid x said p host') eo (subst (λ (x : Point). Ordered n host (Rapid x) offset said p host') et done))

  pub one_told : {told : ℕ} → Told p told → told ≡ 1
  one_told t = t.line _ ((order.block computed.fields).line (fresh_line machine_m) (held_fresh el f)).1 ∙ computed.one

  pub point_given : {q : Point} → q ≡ position_of (host_of host') → eq q.x sixty_two ≡ true
  point_given e =
      let said-is = ((order.block computed.fields).line (fresh_line machine_m) (held_fresh el f)).0 ∙ computed.answer in
      let numbers = order.host_is ∙ ap (λ (a : Answer). host_after a fresh_numbers (readings_of rapid origin)) said-is in
      ap (λ (q : Point). eq q.x sixty_two) (e ∙ ap (λ (h : List ℕ). position_of (host_of h)) numbers) ∙ computed.point
