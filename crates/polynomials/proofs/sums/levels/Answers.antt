use Rattle.polynomials.proofs.Logs.{levels_many, levels_few}
use Rattle.polynomials.proofs.sums.levels.Goals as goal

pub returns-then-m-lt3 : goal.returns-then-m-lt3
returns-then-m-lt3 c = levels_few c.args.m c.if-m-lt3.true

pub returns-else-m-lt3 : goal.returns-else-m-lt3
returns-else-m-lt3 c = levels_many c.args.m c.ilog2.result c.if-m-lt3.false c.ilog2.ensures.power_le c.ilog2.ensures.next_power_gt
