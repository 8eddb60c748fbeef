use Rattle.std.proofs.Common.{◌%◌, ◌^◌, arith}
use Rattle.elements.specs.Powers.{pick_lt}
use Rattle.elements.proofs.Masks.{masked}
use Rattle.elements.proofs.Made.{byte_of}
use Rattle.elements.proofs.fields.ByteBinaryField.last_picks.Goals as goal

pub returns : goal.returns
returns c =
    let x = c.args.other in
    let is = masked 8 (c.args.self.value % 2) x.value _ (omega arith) x.fits (λ e. omega arith) (λ e. omega arith) in
    byte_of c.new.ensures is (pick_lt (c.args.self.value % 2) x.value (2 ^ 8) (omega arith) x.fits)
