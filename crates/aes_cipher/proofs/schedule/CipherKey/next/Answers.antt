use Rattle.std.proofs.Common.{sym, ap, ◌∙◌, ap₂}
use Rattle.aes_rules.specs.Aes.{temp, add_words}
use Rattle.aes_cipher.specs.Views.{words_of}
use Rattle.aes_rules.proofs.Expansion.{next_own, next_other}
use Rattle.aes_cipher.proofs.schedule.CipherKey.next.Goals as goal

pub returns-then-i-self : goal.returns-then-i-self
returns-then-i-self c =
    let key = c.args.self.now in
    c.at.ensures ∙ sym (next_own key.words key.bytes.now c.args.i (words_of c.args.rows.now) c.if-i-self.true)

pub returns : goal.returns
returns c =
    let key = c.args.self.now in
    c.add.ensures
    ∙ ap₂ add_words c.word-next.ensures (c.temp.ensures ∙ ap (temp key.words c.args.i) c.word.ensures)
    ∙ sym (next_other key.words key.bytes.now c.args.i (words_of c.args.rows.now) c.if-i-self.false)
