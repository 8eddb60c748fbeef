use Rattle.std.proofs.Common.{◌≡◌, ◌-◌}
use Rattle.ciphers.specs.Speck.{rounds, round_keys}
use Rattle.ciphers.specs.SpeckViews.{pair}
use Rattle.ciphers.proofs.speck.Speck128BlockFunction.call.Given as goal

abbrev pub invariant-loop-i : goal.invariant-loop-i
invariant-loop-i l =
    rounds (round_keys (32 - l.i) l.i (pair l.key)) (pair l.text)
    ≡ rounds (round_keys 32 0 (pair l.initial.key)) (pair l.initial.text)
