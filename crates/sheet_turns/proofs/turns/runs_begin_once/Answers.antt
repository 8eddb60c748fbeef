use Rattle.sheet_turns.proofs.Beginnings.{under_setting, still_waiting}
use Rattle.sheet_turns.proofs.turns.runs_begin_once.Goals as goal

pub returns : goal.returns
returns c = record { under = under_setting; waiting = still_waiting }
