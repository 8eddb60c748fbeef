use Rattle.elements.specs.Field.{double, times}
use Rattle.aes_rules.specs.Aes.{round_constant}
use Rattle.aes_rules.proofs.tables.round_constant.Goals as goal

-- the test of the round constants
pub raise-requires : goal.raise-requires
unfolding double times round_constant
raise-requires c = tt
