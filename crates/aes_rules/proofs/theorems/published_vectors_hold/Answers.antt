use Rattle.aes_rules.proofs.Published.{published}
use Rattle.aes_rules.proofs.theorems.published_vectors_hold.Goals as goal

pub returns : goal.returns
returns c = published
