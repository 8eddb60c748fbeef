use Rattle.std.proofs.Common.{sym, ◌∙◌}
use Rattle.std.proofs.Math.Logic.{∥∥₁_elim}
use base.Stored.{Coded-set}
use Rattle.polynomials.proofs.Brw.{squares_at}
use Rattle.polynomials.proofs.sums.Powers.at.Goals as goal

pub returns : goal.returns
returns g c =
    let s = c.args.self.now in
    let read = c.index-self-k in
    sym read.is
    ∙ ∥∥₁_elim s.squares (Coded-set g.row.E.coded _ _) (λ squares. squares_at g.E.Arithmetic.operations s.key s.table.now c.args.k read.result squares c.requires read.is)
