use Rattle.std.proofs.Common.{◌%◌, ◌^◌, arith}
use Rattle.elements.specs.Powers.{pick_lt}
use Rattle.elements.proofs.Masks.{masked}
use Rattle.elements.proofs.Made.{block_of}
use Rattle.elements.proofs.fields.BlockBinaryField.last_picks.Goals as goal

pub returns : goal.returns
returns c =
    let x = c.args.other in
    let is = masked 128 (c.args.self.value % 2) x.value _ (omega arith) x.fits (λ e. omega arith) (λ e. omega arith) in
    block_of c.new.ensures is (pick_lt (c.args.self.value % 2) x.value (2 ^ 128) (omega arith) x.fits)
