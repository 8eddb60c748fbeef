use Rattle.sector.proofs.Examples.{marked}
use Rattle.sector.proofs.theorems.marked_cases_hold.Goals as goal

pub returns : goal.returns
returns c = marked
