-- The bytes that a list begins with as long as each is of one kind, and those behind them.
use Rattle.std.specs.Prelude.{Bool, List, ℕ, drop, take_while}
use Rattle.std.specs.List.{prefix_len}

abbrev pub leading : (ℕ → Bool) → List ℕ → List ℕ
leading kind s = take_while kind s

abbrev pub behind : (ℕ → Bool) → List ℕ → List ℕ
behind kind s = drop (prefix_len kind s) s
