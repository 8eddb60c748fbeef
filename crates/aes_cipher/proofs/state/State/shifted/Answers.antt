use Rattle.std.proofs.Common.{◌+◌, ◌%◌, rules}
use Rattle.aes_rules.specs.Aes.{at, word}
use Rattle.aes_cipher.specs.Views.{columns_of}
use Rattle.aes_cipher.proofs.Words.{four_is}
use Rattle.aes_cipher.proofs.state.State.shifted.Goals as goal

pub returns : goal.returns
returns c =
    let s = columns_of c.args.self.now in
    let made = c.from_fn.ensures.items in
    four_is c.from_fn.result (λ r. at (word s ((c.args.c + r) % 4)) r) made.long (λ r d h. let called = made.at r d h in search rules)
