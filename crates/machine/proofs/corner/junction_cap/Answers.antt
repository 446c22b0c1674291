-- `machine::corner::junction_cap` meets its contract, from the numbers of both blocks.
use mathlib.Core.List.{[]}
use mathlib.Core.Path.{◌≡◌, ap, ◌∙◌}
use Rattle.machine.specs.Numbers.{numbers_of, junction_from, Joinable}
use Rattle.machine.specs.Torque.{machine_of}
use Rattle.machine.specs.declared.Machine.{Machine}
use Rattle.machine.proofs.Junctions.{junction_from_numbers, numbers_joinable}
use Rattle.machine.proofs.corner.junction_cap.Goals as goal
use Rattle.machine.proofs.corner.junction_cap.Goals.{After-built_in-m, After-numbers-na, After-numbers-nb}

-- the numbers of both blocks
first_is : (c : After-numbers-na) → let a = c.args in c.numbers-na.result ≡ numbers_of (machine_of a.l []) a.a
first_is c = c.numbers-na.ensures ∙ ap (λ (m : Machine). numbers_of m c.args.a) c.built_in-m.ensures

second_is : (c : After-numbers-nb) → let a = c.args in c.numbers-nb.result ≡ numbers_of (machine_of a.l []) a.b
second_is c = c.numbers-nb.ensures ∙ ap (λ (m : Machine). numbers_of m c.args.b) c.built_in-m.ensures

joinable : (c : After-numbers-nb) → let a = c.args in Joinable a.l.jump a.a c.numbers-na.result a.b c.numbers-nb.result
joinable c =
    let s = c.before.before.before in
    rw (first_is c.before, second_is c) (numbers_joinable (machine_of s.args.l []) s.args.a s.args.b s.requires.0 s.requires.1 s.requires.2)

pub junction_from-requires : goal.junction_from-requires
junction_from-requires c = joinable c

pub returns : goal.returns
returns c =
    let a = c.args in
    c.junction_from.ensures
    ∙ (λ i. junction_from a.l.jump a.a (first_is c.before.before i) a.b (second_is c.before i))
    ∙ junction_from_numbers (machine_of a.l []) a.a a.b
