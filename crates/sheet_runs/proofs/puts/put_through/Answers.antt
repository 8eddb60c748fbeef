use Rattle.std.proofs.Common.{[], ◌∷◌}
use Rattle.stores.specs.Layers.{enciphering, stacked, store}
use Rattle.sheet_runs.proofs.Storing.{law_answers}
use Rattle.sheet_runs.proofs.puts.put_through.Goals as goal

pub returns : goal.returns
returns g c =
    let F = g.F.BlockFunction.function c.args.function in
    let h = g.H.BlockHash.hash c.args.hash in
    law_answers (stacked (enciphering F h ∷ []) (store (g.S.SectorStore.view c.args.below))) c.args.calls.now c.run.new.list _ _ _ _ c.new-layer.ensures.store c.run.ensures
