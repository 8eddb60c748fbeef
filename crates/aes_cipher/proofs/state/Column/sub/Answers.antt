use Rattle.std.proofs.Common.{rules}
use Rattle.elements.specs.Values.{byte}
use Rattle.aes_rules.specs.Aes.{at, sub_byte, sub_word}
use Rattle.aes_cipher.proofs.Words.{four_is}
use Rattle.aes_cipher.proofs.state.Column.sub.Goals as goal

pub returns : goal.returns
unfolding sub_word sub_byte
returns c =
    let w = c.args.self.now.bytes in
    let made = c.map-self.ensures.items in
    four_is c.map-self.result (λ r. sub_byte (at w r)) made.long (λ r d h. let called = made.at r (byte 0) d h in search rules)
