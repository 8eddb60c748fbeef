use Rattle.std.proofs.Common.{sym, ap, ◌∙◌, ap₂, arith}
use Rattle.aes_rules.specs.Aes.{sub_word, add_words}
use Rattle.aes_rules.proofs.Expansion.{temp_turned, temp_plain}
use Rattle.aes_cipher.proofs.schedule.CipherKey.temp.Goals as goal

pub returns-then-i-self-eq0 : goal.returns-then-i-self-eq0
returns-then-i-self-eq0 c =
    c.add.ensures
    ∙ ap₂ add_words (c.sub.ensures ∙ ap sub_word c.rotate.ensures) c.of_round.ensures
    ∙ sym (temp_turned c.args.self.now.words c.args.i c.args.before.bytes c.if-i-self-eq0.true)

pub returns-else-i-self-eq0 : goal.returns-else-i-self-eq0
returns-else-i-self-eq0 c =
    let key = c.args.self.now in
    sym (temp_plain key.words c.args.i c.args.before.bytes (omega arith) key.six)
