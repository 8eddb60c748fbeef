use Rattle.polynomials.proofs.Bounds.{brw_degree_bound}
use Rattle.polynomials.proofs.theorems.brw_degree_is_bounded.Goals as goal

pub returns : goal.returns
returns c = brw_degree_bound
