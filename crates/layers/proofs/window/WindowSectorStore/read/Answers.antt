use Rattle.std.proofs.Common.{◌+◌, length, sym, ap, ◌∙◌, arith}
use Rattle.stores.specs.Stores.{outcome, filled}
use Rattle.stores.specs.Layers.{store, over, window}
use Rattle.stores.proofs.Answered.{turned_away, admitted, read_refused, handed_on}
use Rattle.layers.proofs.Windowed.{window_refusal, window_few}
use Rattle.layers.proofs.window.WindowSectorStore.read.Goals as goal

pub returns-in_err-admit : goal.returns-in_err-admit
returns-in_err-admit g c =
    let w = c.args.self.now in
    let p = over (window w.run.base w.run.count) (g.S.SectorStore.view w.below) in
    let n = c.args.n in
    let xs = c.args.buffer.now in
    let e = turned_away (store p) n (length xs) _ c.dimensions.ensures _ c.in_err-admit.ensures in
    record { answer = handed_on _ _ _ e c.from_residual.ensures.1; filled = read_refused (store p) n xs _ _ e }

pub overflow_add-self : goal.overflow_add-self
overflow_add-self g c =
    let w = c.args.self.now in
    let p = over (window w.run.base w.run.count) (g.S.SectorStore.view w.below) in
    let n = c.args.n in
    let xs = c.args.buffer.now in
    let fit = admitted (store p) n (length xs) _ c.dimensions.ensures _ c.in_ok-admit.ensures in
    omega (arith, window_few (g.S.SectorStore.view w.below) w.run.base w.run.count n fit.1 (g.S.SectorStore.sound w.below))

pub returns : goal.returns
returns g c =
    let w = c.args.self.now in
    let p = over (window w.run.base w.run.count) (g.S.SectorStore.view w.below) in
    let n = c.args.n in
    let xs = c.args.buffer.now in
    let q = g.S.SectorStore.view w.below in
    let fit = admitted (store p) n (length xs) _ c.dimensions.ensures _ c.in_ok-admit.ensures in
    let e = window_refusal q w.run.base w.run.count n fit.1 (length xs) fit.0 in
    record {
      answer = c.read.ensures.answer ∙ ap outcome (sym e);
      filled = c.read.ensures.filled ∙ ap (λ v. filled v xs ((store q).bytes (w.run.base + n))) (sym e);
    }
