use Rattle.std.proofs.Common.{refl}
use Rattle.ciphers.specs.Speck.{halves}
use Rattle.ciphers.proofs.speck.WordsFromBlock.from.Goals as goal

pub returns : goal.returns
unfolding halves
returns c = refl
