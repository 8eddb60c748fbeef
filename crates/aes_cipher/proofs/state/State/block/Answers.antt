use Rattle.std.proofs.Common.{rules}
use Rattle.aes_cipher.specs.Views.{columns_of}
use Rattle.aes_cipher.proofs.Words.{output_is}
use Rattle.aes_cipher.proofs.state.State.block.Goals as goal

pub returns : goal.returns
returns c =
    let made = c.from_fn.ensures.items in
    output_is (columns_of c.args.self.now) c.from_fn.result c.from_bytes.result made.long
    (λ k d h. let called = made.at k d h in search rules) c.from_bytes.ensures
