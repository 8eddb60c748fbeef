use Rattle.std.proofs.Common.{arith}
use Rattle.aes_cipher.proofs.Words.{rotated}
use Rattle.aes_cipher.proofs.state.Column.rotate.Goals as goal

pub returns : goal.returns
returns c = rotated c.args.self.now.bytes c.rotate_left.new.self (omega arith) c.rotate_left.ensures.after
