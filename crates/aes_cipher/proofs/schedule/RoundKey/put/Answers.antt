use Rattle.std.proofs.Common.{arith}
use Rattle.aes_cipher.proofs.Words.{row_put}
use Rattle.aes_cipher.proofs.schedule.RoundKey.put.Goals as goal

pub returns : goal.returns
returns c = row_put c.args.self.now.columns c.args.c c.values.result c.args.column.bytes (omega arith) (omega arith) c.requires c.values.ensures
