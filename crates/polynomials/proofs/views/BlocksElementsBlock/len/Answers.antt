use Rattle.std.proofs.Common.{◌/◌, length, sym}
use Rattle.polynomials.proofs.Parts.{blocks_length}
use Rattle.polynomials.proofs.views.BlocksElementsBlock.len.Goals as goal

pub returns : goal.returns
returns c = sym (blocks_length (length c.args.self.now.bytes.now / 16) c.args.self.now.bytes.now)
