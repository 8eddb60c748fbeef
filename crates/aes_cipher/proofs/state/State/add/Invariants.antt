use Rattle.aes_rules.specs.Aes.{word, add_words}
use Rattle.aes_cipher.specs.Views.{row_words}
use Rattle.aes_cipher.proofs.Words.{Walked}
use Rattle.aes_cipher.proofs.state.State.add.Given as goal

abbrev pub invariant-loop-c : goal.invariant-loop-c
invariant-loop-c l = Walked (λ i w. add_words w (word (row_words l.key) i)) l.fn.self.columns l.column-items l.c
