use Rattle.std.proofs.Common.{map, take, vec_items}
use Rattle.sheets.specs.Records.{said}
use Rattle.sheet_plans.specs.Plans.{Planned}
use Rattle.sheet_plans.proofs.plans.planned.Given as goal

abbrev pub invariant-loop-record : goal.invariant-loop-record
invariant-loop-record l = Planned (map said (take l.record-index l.records)) l.run (vec_items l.notes) (vec_items l.calls)
