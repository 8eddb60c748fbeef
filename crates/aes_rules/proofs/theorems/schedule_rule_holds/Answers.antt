use Rattle.aes_rules.proofs.Expansion.{scheduled}
use Rattle.aes_rules.proofs.theorems.schedule_rule_holds.Goals as goal

pub returns : goal.returns
returns c = scheduled
