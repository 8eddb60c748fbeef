use Rattle.std.proofs.Common.{◌≡◌}
use Rattle.aes_rules.specs.Aes.{rounds}
use Rattle.aes_cipher.specs.Views.{columns_of, words_of}
use Rattle.aes_cipher.proofs.cipher.encipher_with.Given as goal

abbrev pub invariant-loop-row : goal.invariant-loop-row
invariant-loop-row l = columns_of l.state ≡ rounds (words_of l.rows) l.row-index (columns_of l.initial.state)
