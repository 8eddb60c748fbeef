use Rattle.aes_rules.specs.Aes.{mix_column}
use Rattle.aes_cipher.proofs.Words.{Walked}
use Rattle.aes_cipher.proofs.state.State.mix.Given as goal

abbrev pub invariant-loop-column : goal.invariant-loop-column
invariant-loop-column l = Walked (λ i w. mix_column w) l.fn.self.columns l.column-items l.column-index
