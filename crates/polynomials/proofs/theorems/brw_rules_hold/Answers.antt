use Rattle.polynomials.proofs.Brw.{brw_rules}
use Rattle.polynomials.proofs.theorems.brw_rules_hold.Goals as goal

pub returns : goal.returns
returns g c = brw_rules g.E.Arithmetic.operations
