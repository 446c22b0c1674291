-- Chains of calls. From the definition.
use mathlib.Core.List.{List, ◌++◌}
use Rattle.line.specs.Chains.{Chain, none, next}

-- A chain behind a chain is a chain.
pub chain_both : {S C A : Type 0} {Step : S → C → A → S → Type 0} {s s' s'' : S} {first second : List C} {one two : List A}
    → Chain Step s first one s' → Chain Step s' second two s'' → Chain Step s (first ++ second) (one ++ two) s''
chain_both none q = q
chain_both (next c r) q = next c (chain_both r q)
