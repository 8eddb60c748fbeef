use Rattle.std.proofs.Common.{ℕ, List, Some, None, Option, subst, rules}
use Rattle.answers.specs.Reading.{Known, understood, read}
use Rattle.answers.specs.Rendering.{Written}
use Rattle.verdicts.specs.Verdicts.{Judged}
use Rattle.verdicts.specs.declared.verdict.Verdict.{Verdict}
use Rattle.verdicts.specs.declared.verdict.Verdict.TheVariants.{Agrees, Differs, NotUnderstood}
use Rattle.answers.proofs.Laws.{every}
use Rattle.verdicts.proofs.verdict.judge.Goals as goal

-- the verdict on a line that is written for an answer
judged_written : (line : List ℕ) (v : Option Verdict) → Judged (read line) v → (k : Known) → Written k line → Judged (understood k) v
judged_written line v j k w = subst (λ r. Judged r v) (every line k w) j

pub returns-in-Ok-None-clause-written : goal.returns-in-Ok-None-clause-written
returns-in-Ok-None-clause-written c = judged_written c.args.line.now None (search rules)

pub returns-in-Ok-Some-clause-written : goal.returns-in-Ok-Some-clause-written
returns-in-Ok-Some-clause-written c = judged_written c.args.line.now (Some (Agrees c.kind.result)) (search rules)

pub returns-in-Ok-Some-2-clause-written : goal.returns-in-Ok-Some-2-clause-written
returns-in-Ok-Some-2-clause-written c = judged_written c.args.line.now (Some (Differs c.kind-in-Ok-Some-2.result)) (search rules)

pub returns-in-Err-clause-written : goal.returns-in-Err-clause-written
returns-in-Err-clause-written c = judged_written c.args.line.now (Some NotUnderstood) (search rules)
