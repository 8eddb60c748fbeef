use Rattle.std.proofs.Common.{arith}
use Rattle.polynomials.proofs.Horner.{horner_next}
use Rattle.polynomials.proofs.sums.horner_part.Goals as goal

pub loop-i-preserved : goal.loop-i-preserved
loop-i-preserved g c =
    horner_next g.met.E.Element.laws c.args.key c.args.first (g.L.Elements.items c.args.xs.now) c.args.from c.loop-i.i c.loop-i.value c.element.result c.horner_step-value.result
    (omega arith) (omega arith) c.element.ensures c.loop-i.invariant c.horner_step-value.ensures
