use Rattle.std.proofs.Common.{◌+◌, drop, sym, ap, ◌∙◌, arith}
use Rattle.polynomials.specs.Sums.{dot}
use Rattle.polynomials.proofs.Horner.{dot_next, dot_end}
use Rattle.polynomials.proofs.sums.sum_of_products.Goals as goal

pub loop-i-init : goal.loop-i-init
loop-i-init g c =
    let o = g.E.Arithmetic.operations in
    ap (λ e. o.sum e (dot o c.args.a.now c.args.b.now)) c.zero-total.ensures ∙ g.met.E.Element.laws.sum_zero _

pub loop-i-preserved : goal.loop-i-preserved
loop-i-preserved g c =
    let o = g.E.Arithmetic.operations in
    let i = c.loop-i.i in
    let a = c.args.a.now in
    let b = c.args.b.now in
    let total = c.add-total.ensures ∙ ap (o.sum c.loop-i.total) c.mul.ensures in
    ap (λ e. o.sum e (dot o (drop (i + 1) a) (drop (i + 1) b))) total
    ∙ dot_next g.met.E.Element.laws a b i c.loop-i.total c.index-a-i.result c.index-b-i.result (omega arith) (omega arith) c.index-a-i.is c.index-b-i.is
    ∙ c.loop-i.invariant

pub returns : goal.returns
returns g c =
    sym (dot_end g.met.E.Element.laws c.args.a.now c.args.b.now c.loop-i.i c.loop-i.total (omega arith)) ∙ c.loop-i.invariant
