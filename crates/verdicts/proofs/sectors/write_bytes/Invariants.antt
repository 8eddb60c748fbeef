use Rattle.std.proofs.Common.{◌≡◌, ◌*◌, ◌++◌, take, drop}
use Rattle.sector.specs.Texts.{joined}
use Rattle.verdicts.proofs.sectors.write_bytes.Given as goal

abbrev pub invariant-loop-i : goal.invariant-loop-i
invariant-loop-i g l =
    take (16 * l.i) l.output ++ joined (drop l.i (g.L.Elements.items l.list)) ≡ joined (g.L.Elements.items l.list)
