use Rattle.std.proofs.Common.{length, ap, ◌∙◌}
use Rattle.stores.specs.Stores.{misfit, outcome}
use Rattle.store_tests.proofs.Refusing.{tested, write_none}
use Rattle.store_tests.proofs.empty.EmptySectorStore.write.Goals as goal

pub returns : goal.returns
returns c =
    let l = c.args.self.now.layer in
    let n = c.args.n in
    let xs = c.args.buffer.now in
    record { answer = c.admit.ensures ∙ ap (λ d. outcome (misfit d n (length xs))) c.dimensions.ensures ∙ ap outcome (tested l n (length xs)); after = write_none l n xs }
