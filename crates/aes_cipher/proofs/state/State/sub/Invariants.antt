use Rattle.aes_rules.specs.Aes.{sub_word}
use Rattle.aes_cipher.proofs.Words.{Walked}
use Rattle.aes_cipher.proofs.state.State.sub.Given as goal

abbrev pub invariant-loop-column : goal.invariant-loop-column
invariant-loop-column l = Walked (λ i w. sub_word w) l.fn.self.columns l.column-items l.column-index
