use Rattle.sector.proofs.Bytes.{inverse}
use Rattle.sector.proofs.theorems.transform_is_inverse.Goals as goal

pub returns : goal.returns
returns c = inverse
