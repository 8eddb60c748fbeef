use Rattle.store_tests.proofs.Refusing.{no_state}
use Rattle.store_tests.proofs.empty.EmptySectorStore.state.Goals as goal

pub returns : goal.returns
returns c = no_state c.args.self.now.layer c.args._n
