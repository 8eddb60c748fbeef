use Rattle.std.proofs.Common.{rules}
use Rattle.elements.specs.Values.{byte_operations}
use Rattle.aes_rules.specs.Aes.{at, add_words}
use Rattle.aes_cipher.proofs.Words.{four_is}
use Rattle.aes_cipher.proofs.state.Column.add.Goals as goal

pub returns : goal.returns
unfolding add_words
returns c =
    let v = c.args.self.now.bytes in
    let w = c.args.other.now.bytes in
    let made = c.from_fn-self.ensures.items in
    four_is c.from_fn-self.result (λ r. byte_operations.sum (at v r) (at w r)) made.long (λ r d h. let called = made.at r d h in search rules)
