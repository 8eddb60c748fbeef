use Rattle.aes_cipher.proofs.Rows.{word_here}
use Rattle.aes_cipher.proofs.schedule.word.Goals as goal

pub returns : goal.returns
returns c = word_here c.args.rows.now c.args.i _ c.requires c.word.result.bytes c.word.ensures
