use Rattle.elements.specs.Field.{double, times}
use Rattle.aes_rules.specs.Aes.{squares, inverse, bit, affine_bits, affine}
use Rattle.aes_rules.proofs.tables.sub_byte.Goals as goal

-- the test of the S-box, at all of its 256 entries
pub substitute-requires : goal.substitute-requires
unfolding double times squares inverse bit affine_bits affine
substitute-requires c = tt
