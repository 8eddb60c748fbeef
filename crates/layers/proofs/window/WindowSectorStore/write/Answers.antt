use Rattle.std.proofs.Common.{◌+◌, length, sym, ap, ◌∙◌, arith}
use Rattle.stores.specs.Stores.{outcome}
use Rattle.stores.specs.Layers.{store, over, window, after_write}
use Rattle.stores.proofs.Answered.{turned_away, admitted, write_refused, handed_on}
use Rattle.layers.proofs.Windowed.{window_refusal, window_few, window_after}
use Rattle.layers.proofs.window.WindowSectorStore.write.Goals as goal

pub returns-in_err-admit : goal.returns-in_err-admit
returns-in_err-admit g c =
    let w = c.args.self.now in
    let p = over (window w.run.base w.run.count) (g.S.SectorStore.view w.below) in
    let n = c.args.n in
    let xs = c.args.buffer.now in
    let e = turned_away (store p) n (length xs) _ c.dimensions.ensures _ c.in_err-admit.ensures in
    record { answer = handed_on _ _ _ e c.from_residual.ensures.1; after = write_refused p n xs _ _ e }

pub overflow_add-self : goal.overflow_add-self
overflow_add-self g c =
    let w = c.args.self.now in
    let p = over (window w.run.base w.run.count) (g.S.SectorStore.view w.below) in
    let n = c.args.n in
    let xs = c.args.buffer.now in
    let fit = admitted (store p) n (length xs) _ c.dimensions.ensures _ c.in_ok-admit.ensures in
    omega (arith, window_few (g.S.SectorStore.view w.below) w.run.base w.run.count n fit.1 (g.S.SectorStore.sound w.below))

pub returns : goal.returns
returns g c =
    let w = c.args.self.now in
    let p = over (window w.run.base w.run.count) (g.S.SectorStore.view w.below) in
    let n = c.args.n in
    let xs = c.args.buffer.now in
    let q = g.S.SectorStore.view w.below in
    let fit = admitted (store p) n (length xs) _ c.dimensions.ensures _ c.in_ok-admit.ensures in
    let e = window_refusal q w.run.base w.run.count n fit.1 (length xs) fit.0 in
    record {
      answer = c.write.ensures.answer ∙ ap outcome (sym e);
      after = ap (over (window w.run.base w.run.count)) (c.write.ensures.after ∙ ap (λ v. after_write v q (w.run.base + n) xs) (sym e)) ∙ window_after _ q w.run.base w.run.count n xs;
    }
