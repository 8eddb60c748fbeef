use Rattle.std.proofs.Common.{refl}
use Rattle.std.specs.Int.Bits.{xor_lt}
use Rattle.elements.proofs.Made.{block_of}
use Rattle.elements.proofs.fields.BlockBinaryField.xor.Goals as goal

pub returns : goal.returns
returns c =
    let x = c.args.self in
    let y = c.args.other in
    block_of c.new.ensures refl (xor_lt 128 x.value y.value x.fits y.fits)
