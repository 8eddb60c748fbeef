use Rattle.std.proofs.Common.{◌≡◌}
use Rattle.stores.specs.Layers.{store}
use Rattle.stacks.proofs.Turns.{Turn}
use Rattle.stacks.proofs.run.run.Given as goal

abbrev pub invariant-loop-e : goal.invariant-loop-e
invariant-loop-e g l =
    (g.P.StackOn.above l.stack ≡ g.P.StackOn.above l.initial.stack)
    × Turn (g.P.StackOn.above l.initial.stack) (store (g.B.SectorStore.view (g.P.StackOn.lowest l.initial.stack))) (store (g.B.SectorStore.view (g.P.StackOn.lowest l.stack))) l.initial.list l.list l.e-index
