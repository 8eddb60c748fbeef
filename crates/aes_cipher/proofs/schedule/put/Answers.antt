use Rattle.aes_cipher.proofs.Rows.{put_here}
use Rattle.aes_cipher.proofs.schedule.put.Goals as goal

pub returns : goal.returns
returns c = put_here c.args.rows.now c.args.i _ c.requires c.put.new.self c.args.column.bytes c.put.ensures
