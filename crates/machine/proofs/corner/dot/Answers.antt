-- `machine::corner::dot`: each sum of products fits.
use native.Mathlib.Omega.{arith}
use Rattle.machine.proofs.Dots.{read_sum, move_term, move_sum}
use Rattle.machine.proofs.corner.dot.Goals as goal

pub plus-requires : goal.plus-requires
plus-requires c =
    let a = c.args.a in
    let b = c.args.b in
    let x = move_term c.times.result a.x b.x c.requires.0.0 c.requires.1.0 c.times.ensures in
    let y = move_term c.times-2.result a.y b.y c.requires.0.1 c.requires.1.1 c.times-2.ensures in
    read_sum c.times.result c.times-2.result (omega (arith, x.1)) (omega (arith, y.1))

pub plus-requires-2 : goal.plus-requires-2
plus-requires-2 c =
    let a = c.args.a in
    let b = c.args.b in
    let x = move_term c.times.result a.x b.x c.requires.0.0 c.requires.1.0 c.times.ensures in
    let y = move_term c.times-2.result a.y b.y c.requires.0.1 c.requires.1.1 c.times-2.ensures in
    let z = move_term c.times-3.result a.z b.z c.requires.0.2 c.requires.1.2 c.times-3.ensures in
    let xy = move_sum c.plus.result c.times.result c.times-2.result (omega (arith, x.1)) (omega (arith, y.1)) c.plus.ensures in
    read_sum c.plus.result c.times-3.result (omega (arith, xy.1, x.1, y.1)) (omega (arith, z.1))
