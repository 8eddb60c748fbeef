use Rattle.std.proofs.Common.{◌≡◌, ◌-◌, ◌∷◌, take, drop}
use Rattle.polynomials.specs.Sums.{horner}
use Rattle.polynomials.proofs.sums.horner_part.Given as goal

abbrev pub invariant-loop-i : goal.invariant-loop-i
invariant-loop-i g l =
    l.value ≡ horner g.E.Arithmetic.operations l.key (l.initial.value ∷ take (l.i - l.from) (drop l.from (g.L.Elements.items l.xs)))
