-- A point in a list of doubles that C lends; and demand 3 of a host's orders as C sees them.
use Rattle.std.specs.Prelude.{List, ◌∷◌, [], ◌≡◌, ℕ, Float, get_or}
use Rattle.std.specs.Float.{nan}
use Rattle.machine.specs.declared.Machine.{Machine}
use Rattle.line.specs.Answers.{Answer, answer_by}
use Rattle.line.specs.Blocks.{add}
use Rattle.line.specs.Chains.{Chain}
use Rattle.line.specs.declared.Call.TheVariants as call
use Rattle.planner.specs.Calls.{Called}
use Rattle.host.specs.Calls.{Ordered}
use Rattle.host.specs.Demand.{OrdersDemand3}
use Rattle.host.specs.Events.{Held}
use Rattle.host.specs.declared.orders.Event.{Event}
use Rattle.host.specs.declared.orders.Event.TheVariants as event
use Rattle.host.specs.declared.orders.Point.{Point}
use Rattle.fullerecru.specs.Planners.{TakenOut, Seen, SeenAll, added, taken}

-- coordinates of a point: X, Y, Z
abbrev pub point_size : ℕ
point_size = 3

-- the point of its coordinates
abbrev pub point_from : List Float → Point
point_from list = record { x = get_or list 0 nan; y = get_or list 1 nan; z = get_or list 2 nan }

-- the coordinates of a point
abbrev pub coordinates_of : Point → List Float
coordinates_of p = p.x ∷ p.y ∷ p.z ∷ []

-- What C sees of an order, an add or a take on the numbers that it lends for planner and host: the number; of a take also the two lists.
abbrev pub EventSeen : Held → Event → Seen → Held → Type 0
EventSeen s (event.Order o offset) (added n) s' = Ordered s.memory s.host o offset (answer_by n) s'.memory s'.host
EventSeen s (event.Order o offset) (taken n moves moves' numbers numbers') s' = ⊥
EventSeen s (event.Call (call.Add b)) (added n) s' = Called s.memory (add b) (answer_by n) s'.memory × (s'.host ≡ s.host)
EventSeen s (event.Call (call.Add b)) (taken n moves moves' numbers numbers') s' = ⊥
EventSeen s (event.Call call.Take) (added n) s' = ⊥
EventSeen s (event.Call call.Take) (taken n moves moves' numbers numbers') s' = TakenOut s.memory n s'.memory moves moves' numbers numbers' × (s'.host ≡ s.host)

-- Such calls one after the other, each on the numbers that the one before it left.
abbrev pub EventsSeen : Held → List Event → List Seen → Held → Type 0
EventsSeen = Chain EventSeen

-- Demand 3 of such calls from a fresh planner of machine m and a fresh host: of the answers that C saw, the number told, what showing the plan in
-- a lent list then returned and left there, and the host's numbers.
pub record ExportedOrders3 (m : Machine) (events : List Event) (seen : List Seen) (told : ℕ) (lent : List ℕ) (number : ℕ) (left host : List ℕ) : Type 0 where
  pub answers : List Answer
  pub seen_are : SeenAll answers seen
  pub demand : OrdersDemand3 m events answers told lent (answer_by number) left host
