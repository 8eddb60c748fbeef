use Rattle.std.proofs.Common.{◌+◌, ◌*◌, slice_index, rules}
use Rattle.elements.specs.Values.{byte}
use Rattle.aes_rules.specs.Aes.{word_at}
use Rattle.aes_cipher.proofs.Words.{four_is}
use Rattle.aes_cipher.proofs.state.Column.at.Goals as goal

pub returns : goal.returns
unfolding word_at
returns c =
    let made = c.from_fn.ensures.items in
    four_is c.from_fn.result (λ r. byte (slice_index c.args.from.now (4 * c.args.i + r))) made.long (λ r d h. let called = made.at r d h in search rules)
