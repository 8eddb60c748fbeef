use Rattle.std.proofs.Common.{◌-◌}
use Rattle.polynomials.proofs.sums.+brw_part.Given as goal

abbrev pub decreases-brw_part : goal.decreases-brw_part
decreases-brw_part g l = l.to - l.from
