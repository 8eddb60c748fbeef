use Rattle.std.proofs.Common.{arith}
use Rattle.polynomials.proofs.Brw.{squares_none, squares_all}
use Rattle.polynomials.proofs.sums.fill_squares.Goals as goal

pub returns-in_default : goal.returns-in_default
returns-in_default g c = squares_none g.E.Arithmetic.operations c.args.key c.args.table.now c.in_default.ensures.cases

pub returns : goal.returns
returns g c = squares_all g.E.Arithmetic.operations c.args.key c.loop-place.place-items c.loop-place.place-index (omega arith) c.loop-place.invariant.filled
