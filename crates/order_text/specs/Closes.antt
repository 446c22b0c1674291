-- What storing the closing lines of orders promises: the planner's, and behind them that of the host's point.
use Rattle.std.specs.Prelude.{List, ℕ, ◌≤◌}
use Rattle.text.specs.Store.{Stored}
use Rattle.host.specs.Events.{Held}
use Rattle.host.specs.State.{host_of, position_of}
use Rattle.replay_text.specs.Chunks.{text_bytes}
use Rattle.replay_text.specs.Runs.{Closed}
use Rattle.order_text.specs.Texts.{point_text}

-- from the first byte on; `end` is how many bytes they take, `first` how many of these are the planner's, and `between` the list with them alone
pub record ClosedOrders (s : Held) (text : List ℕ) (end : ℕ) (text' : List ℕ) : Type 0 where
  pub few : end ≤ text_bytes
  pub first : ℕ
  pub between : List ℕ
  pub closed : Closed s.memory text first between
  pub stored : Stored between first (point_text (position_of (host_of s.host))) end text'
