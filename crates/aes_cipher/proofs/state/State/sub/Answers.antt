use Rattle.std.proofs.Common.{arith}
use Rattle.aes_rules.specs.Aes.{sub_word, sub_bytes}
use Rattle.aes_cipher.proofs.Words.{walked}
use Rattle.aes_cipher.proofs.state.State.sub.Goals as goal

pub returns : goal.returns
unfolding sub_bytes
returns c =
    let done = c.loop-column.invariant in
    walked (λ i w. sub_word w) c.args.self.now.columns c.loop-column.column-items c.loop-column.column-index done (omega (arith, done.long))
