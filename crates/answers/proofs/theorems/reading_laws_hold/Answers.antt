use Rattle.answers.proofs.Laws.{reading_laws}
use Rattle.answers.proofs.theorems.reading_laws_hold.Goals as goal

pub returns : goal.returns
returns c = reading_laws
