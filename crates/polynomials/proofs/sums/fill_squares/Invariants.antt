use Rattle.std.proofs.Common.{◌≡◌, ℕ, suc, ◌<◌, get_or}
use Rattle.polynomials.specs.Sums.{squared}
use Rattle.polynomials.proofs.sums.fill_squares.Given as goal

abbrev pub invariant-loop-place : goal.invariant-loop-place
invariant-loop-place g l =
    let o = g.E.Arithmetic.operations in
    record {
      power : l.power ≡ squared o l.fn.key l.place-index;
      filled : (j : ℕ) → j < l.place-index → get_or l.place-items j o.zero ≡ squared o l.fn.key (suc j);
    }
