use Rattle.std.proofs.Common.{rules}
use Rattle.answers.specs.Views.{said}
use Rattle.answers.proofs.Laws.{as_written}
use Rattle.answers.proofs.reading.read_line.Goals as goal

pub returns-clause-written : goal.returns-clause-written
returns-clause-written c = as_written c.args.line.now (said c.ok_or.result) (search rules)
