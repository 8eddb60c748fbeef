use Rattle.std.proofs.Common.{rules}
use Rattle.aes_rules.specs.Aes.{at}
use Rattle.aes_cipher.proofs.Words.{four_is}
use Rattle.aes_cipher.proofs.state.Column.values.Goals as goal

pub returns : goal.returns
returns c =
    let made = c.from_fn.ensures.items in
    four_is c.from_fn.result (λ r. (at c.args.self.now.bytes r).value) made.long (λ r d h. let called = made.at r d h in search rules)
