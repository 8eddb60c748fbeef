use Rattle.std.proofs.Common.{rules}
use Rattle.std.proofs.lemmas.List.{take_rest}
use Rattle.sheets.proofs.records.record_of.Goals as goal

pub returns-in-2 : goal.returns-in-2
returns-in-2 c = rw (take_rest c.args.body.now 3) (search rules)
