use Rattle.std.proofs.Common.{◌≡◌, drop}
use Rattle.polynomials.specs.Sums.{dot}
use Rattle.polynomials.proofs.sums.sum_of_products.Given as goal

abbrev pub invariant-loop-i : goal.invariant-loop-i
invariant-loop-i g l =
    let o = g.E.Arithmetic.operations in
    o.sum l.total (dot o (drop l.i l.a) (drop l.i l.b)) ≡ dot o l.a l.b
