use Rattle.std.proofs.Common.{◌≡◌, map, take, vec_items}
use Rattle.sheet_plans.specs.Plans.{finished}
use Rattle.sheet_plans.proofs.answers.lines_of.Given as goal

abbrev pub invariant-loop-note : goal.invariant-loop-note
invariant-loop-note l = vec_items l.lines ≡ map (λ n. finished n l.calls) (take l.note-index l.notes)
