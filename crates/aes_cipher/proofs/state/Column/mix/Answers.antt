use Rattle.std.proofs.Common.{rules}
use Rattle.aes_rules.specs.Aes.{at, mix_column}
use Rattle.aes_cipher.proofs.Words.{four_is}
use Rattle.aes_cipher.proofs.state.Column.mix.Goals as goal

pub returns : goal.returns
unfolding mix_column
returns c =
    let made = c.from_fn-self.ensures.items in
    four_is c.from_fn-self.result (at (mix_column c.args.self.now.bytes)) made.long (λ r d h. let called = made.at r d h in search rules)
