-- What carrying out an order promises: the answer, and every number of the planner's memory and of the host afterwards.
use Rattle.std.specs.Prelude.{List, ◌≡◌, ℕ, ◌<◌}
use Rattle.line.specs.Answers.{Answer, accepted, gave, refused}
use Rattle.line.specs.Blocks.{add}
use Rattle.planner.specs.Calls.{Called}
use Rattle.host.specs.Fields.{readings_of, order_fault}
use Rattle.host.specs.State.{host_of, host_numbers, host_behind, block_of, order_block}
use Rattle.host.specs.declared.orders.Point.{Point}
use Rattle.host.specs.declared.orders.Order.{Order}
use Rattle.host.specs.declared.orders.Readings.{Readings}

-- the host's numbers after an answer: behind the order where it was accepted, else as they were
abbrev pub host_after : Answer → (host : List ℕ) → Readings → List ℕ
host_after accepted host r = host_numbers (host_behind (host_of host) r)
host_after (gave g) host r = host
host_after (refused n) host r = host

-- The add of the block of an order's readings.
pub record Added (memory host : List ℕ) (r : Readings) (said : Answer) (memory' host' : List ℕ) : Type 0 where
  pub called : Called memory (add (block_of (host_of host) r)) said memory'
  pub host_is : host' ≡ host_after said host r

-- An order with its work offset. Where a field is refused, that is the answer and the planner stays as it was; else the order IS the planner's
-- add of its block. A refusal, of a field or of the add, leaves every number as it was.
pub record Ordered (memory host : List ℕ) (o : Order) (offset : Point) (said : Answer) (memory' host' : List ℕ) : Type 0 where
  pub field : 0 < order_fault o offset → (said ≡ refused (order_fault o offset)) × (memory' ≡ memory)
  pub block : order_fault o offset ≡ 0 → Called memory (add (order_block (host_of host) o offset)) said memory'
  pub host_is : host' ≡ host_after said host (readings_of o offset)
  pub unchanged : (n : ℕ) → said ≡ refused n → (memory' ≡ memory) × (host' ≡ host)
