use Rattle.ciphers.proofs.Published.{published}
use Rattle.ciphers.proofs.theorems.published_vectors_hold.Goals as goal

pub returns : goal.returns
returns c = published
