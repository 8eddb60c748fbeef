use Rattle.std.proofs.Common.{◌≡◌, ◌-◌}
use lib.Bits.{bit_xor}
use Rattle.elements.specs.Field.{times}
use Rattle.elements.proofs.bits.times.Given as goal

abbrev pub invariant-loop : goal.invariant-loop
invariant-loop g l =
    let m = g.F.BinaryField in
    bit_xor (m.bits l.sum) (times m.width m.feedback (m.width - l.counter) (m.bits l.rest) (m.bits l.power))
    ≡ times m.width m.feedback m.width (m.bits l.initial.rest) (m.bits l.initial.power)
