use Rattle.std.proofs.Common.{arith}
use Rattle.aes_rules.specs.Aes.{word, add_words, add_round_key}
use Rattle.aes_cipher.specs.Views.{row_words}
use Rattle.aes_cipher.proofs.Words.{walked}
use Rattle.aes_cipher.proofs.state.State.add.Goals as goal

pub returns : goal.returns
unfolding add_round_key
returns c =
    let done = c.loop-c.invariant in
    walked (λ i w. add_words w (word (row_words c.args.key.now) i)) c.args.self.now.columns c.loop-c.column-items c.loop-c.c done (omega (arith, done.long))
