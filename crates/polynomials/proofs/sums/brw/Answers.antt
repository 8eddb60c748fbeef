use Rattle.std.proofs.Common.{cond, length, Some, None, ap, ◌∙◌}
use Rattle.polynomials.specs.Sums.{levels, room, filled}
use Rattle.polynomials.proofs.Brw.{squares_do}
use Rattle.polynomials.proofs.Horner.{squares_are_powers}
use Rattle.polynomials.proofs.sums.brw.Goals as goal

pub returns : goal.returns
returns g c =
    let laws = g.met.E.Element.laws in
    let xs = g.L.Elements.items c.args.xs.now in
    let ps = c.args.powers.now in
    record {
      value = c.brw_by_squares.ensures.value ∙ ap (λ v. cond (room (length ps) (length xs)) (Some v) None) (squares_do laws c.args.key xs);
      enough = λ h. c.brw_by_squares.ensures.enough h ∙ ap Some (squares_do laws c.args.key xs);
      powers = c.brw_by_squares.ensures.powers
          ∙ ap (λ p. cond (room (length ps) (length xs)) (filled p (levels (length xs)) ps) ps) (squares_are_powers laws c.args.key);
    }
