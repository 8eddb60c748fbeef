use Rattle.lines.proofs.Reports.{reports_tell}
use Rattle.lines.proofs.Telling.{lines_tell}
use Rattle.lines.proofs.theorems.lines_tell_records.Goals as goal

pub returns : goal.returns
returns c = record { lines = lines_tell; reports = reports_tell }
