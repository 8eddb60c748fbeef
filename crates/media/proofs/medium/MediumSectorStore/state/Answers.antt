use Rattle.std.proofs.Common.{sym, ◌∙◌, arith}
use Rattle.stores.proofs.Answered.{state_in, state_out}
use Rattle.media.specs.Spared.{laid_out}
use Rattle.media.proofs.Placing.{is_ready, is_failed}
use Rattle.media.proofs.medium.MediumSectorStore.state.Goals as goal

pub returns-then-n-count : goal.returns-then-n-count
returns-then-n-count g c =
    let s = c.args.self.now in
    sym (state_out (laid_out (g.L.Layout.sectors s.layout) s.length (g.L.Layout.bytes s.layout s.bytes.now s.length) (g.L.Layout.lies s.layout)) c.args.n (omega (arith, c.count.ensures)))

pub returns-then-is_some : goal.returns-then-is_some
returns-then-is_some g c =
    let s = c.args.self.now in
    is_ready c.args.n (g.L.Layout.lies s.layout c.args.n) _ (search) c.if-is_some.ensures
    ∙ sym (state_in (laid_out (g.L.Layout.sectors s.layout) s.length (g.L.Layout.bytes s.layout s.bytes.now s.length) (g.L.Layout.lies s.layout)) c.args.n (omega (arith, c.count.ensures)))

pub returns-else-is_some : goal.returns-else-is_some
returns-else-is_some g c =
    let s = c.args.self.now in
    is_failed c.args.n (g.L.Layout.lies s.layout c.args.n) _ (search) c.if-is_some.ensures
    ∙ sym (state_in (laid_out (g.L.Layout.sectors s.layout) s.length (g.L.Layout.bytes s.layout s.bytes.now s.length) (g.L.Layout.lies s.layout)) c.args.n (omega (arith, c.count.ensures)))
