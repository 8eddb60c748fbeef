use Rattle.std.proofs.Common.{get_or, refl, arith}
use Rattle.std.proofs.lemmas.Option.{slice_get-get_or}
use Rattle.stores.specs.Layers.{store}
use Rattle.stacks.proofs.Turns.{start, turn_on, finish}
use Rattle.stacks.proofs.run.run.Goals as goal

pub loop-e-init : goal.loop-e-init
loop-e-init g c =
    let s = c.args.stack.now in
    (refl, start (g.P.StackOn.above s) (store (g.B.SectorStore.view (g.P.StackOn.lowest s))) c.args.list.now)

pub loop-e-preserved : goal.loop-e-preserved
loop-e-preserved g c =
    let above = g.P.StackOn.above in
    let lowest = g.P.StackOn.lowest in
    let view = g.B.SectorStore.view in
    let sound = g.B.SectorStore.sound in
    let s₀ = c.args.stack.now in
    let s = c.loop-e.stack in
    let s' = c.put.new.stack in
    let i = c.loop-e.e-index in
    turn_on (above s₀) (above s) (above s') (view (lowest s₀)) (view (lowest s)) (view (lowest s')) _ _ c.args.list.now c.loop-e.list i
    (get_or c.loop-e.list i c.e-item.result) c.put.new.call c.put.result c.noted-e.result
    (sound (lowest s₀)) (sound (lowest s)) (g.met.P.StackOn.stands s) (g.met.P.StackOn.stands s') (g.P.StackOn.deep s' s)
    c.loop-e.invariant.0 c.loop-e.invariant.1 (slice_get-get_or c.loop-e.list i c.e-item.result (omega arith)) c.put.ensures.step c.put.ensures.octets c.noted-e.ensures

pub returns : goal.returns
returns g c =
    let s = c.args.stack.now in
    let s' = c.loop-e.stack in
    finish (g.P.StackOn.above s) (g.P.StackOn.above s') (store (g.B.SectorStore.view (g.P.StackOn.lowest s))) (store (g.B.SectorStore.view (g.P.StackOn.lowest s'))) c.args.list.now c.loop-e.list c.loop-e.e-index c.loop-e.invariant.0 c.loop-e.invariant.1 (omega arith)
