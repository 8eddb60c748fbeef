use Rattle.std.proofs.Common.{◌≡◌, take}
use Rattle.text.specs.Hex.{digits_number}
use Rattle.text.proofs.hex.number_of.Given as goal

abbrev pub invariant-loop-c : goal.invariant-loop-c
invariant-loop-c l = l.value ≡ digits_number l.base (take l.c-index l.digits)
