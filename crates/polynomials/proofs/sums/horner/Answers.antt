use Rattle.std.proofs.Common.{sym, ap, ◌∙◌}
use Rattle.polynomials.specs.Sums.{horner}
use Rattle.polynomials.proofs.Parts.{nth_empty}
use Rattle.polynomials.proofs.sums.horner.Goals as goal

pub returns-in-None : goal.returns-in-None
returns-in-None g c =
    c.zero.ensures
    ∙ sym (ap (horner g.E.Arithmetic.operations c.args.key) (nth_empty (g.L.Elements.items c.args.xs.now) (sym c.get.ensures ∙ c.in-None.is)))
