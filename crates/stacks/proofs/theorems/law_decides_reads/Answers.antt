use Rattle.stacks.proofs.Echoes.{echo as echoed, decided as settled}
use Rattle.stacks.proofs.theorems.law_decides_reads.Goals as goal

pub returns : goal.returns
returns c = record { decided = settled; echo = echoed }
