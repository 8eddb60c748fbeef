use Rattle.std.proofs.Common.{arith}
use Rattle.aes_rules.specs.Aes.{mix_column, mix_columns}
use Rattle.aes_cipher.proofs.Words.{walked}
use Rattle.aes_cipher.proofs.state.State.mix.Goals as goal

pub returns : goal.returns
unfolding mix_columns
returns c =
    let done = c.loop-column.invariant in
    walked (λ i w. mix_column w) c.args.self.now.columns c.loop-column.column-items c.loop-column.column-index done (omega (arith, done.long))
