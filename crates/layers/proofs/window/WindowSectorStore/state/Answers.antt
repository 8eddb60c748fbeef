use Rattle.std.proofs.Common.{◌<◌, ◌≤◌, sym, ◌∙◌, subst, arith}
use Rattle.stores.specs.Layers.{store, over, window}
use Rattle.stores.proofs.Answered.{state_out}
use Rattle.layers.proofs.Windowed.{window_state, window_few}
use Rattle.layers.proofs.window.WindowSectorStore.state.Goals as goal

pub returns-then-n-count : goal.returns-then-n-count
returns-then-n-count g c =
    let w = c.args.self.now in
    let p = g.S.SectorStore.view w.below in
    sym (state_out (store (over (window w.run.base w.run.count) p)) c.args.n (subst (λ x. x ≤ c.args.n) c.count.ensures c.if-n-count.true))

pub overflow_add-self : goal.overflow_add-self
overflow_add-self g c =
    let w = c.args.self.now in
    let p = g.S.SectorStore.view w.below in
    let few = window_few p w.run.base w.run.count c.args.n (subst (λ x. c.args.n < x) c.count.ensures c.if-n-count.false) (g.S.SectorStore.sound w.below) in
    omega (arith, few)

pub returns : goal.returns
returns g c =
    let w = c.args.self.now in
    let p = g.S.SectorStore.view w.below in
    c.state.ensures ∙ sym (window_state p w.run.base w.run.count c.args.n (subst (λ x. c.args.n < x) c.count.ensures c.if-n-count.false))
