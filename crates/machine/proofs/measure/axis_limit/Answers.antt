-- `machine::measure::axis_limit` meets its contract: the test decides whether the cap or the quotient is the answer.
use Rattle.machine.proofs.Limited.{axis_cap, axis_quotient}
use Rattle.machine.proofs.measure.axis_limit.Goals as goal

pub returns-then-cap-part : goal.returns-then-cap-part
returns-then-cap-part c = let a = c.args in axis_cap a.cap a.limit a.length a.along c.if-cap-part.true

pub returns : goal.returns
returns c = let a = c.args in axis_quotient a.cap a.limit a.length a.along c.if-cap-part.false
