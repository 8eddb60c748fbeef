use Rattle.std.proofs.Common.{◌≡◌, length}
use Rattle.media.specs.Spared.{listed}
use Rattle.media.proofs.lookup.listed.Given as goal

abbrev pub invariant-loop-bad : goal.invariant-loop-bad
invariant-loop-bad l = listed l.count l.bad ≡ listed l.count l.initial.bad

abbrev pub decreases-loop-bad : goal.decreases-loop-bad
decreases-loop-bad l = length l.bad
