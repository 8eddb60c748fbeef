use Rattle.std.proofs.Common.{◌≡◌, length, take}
use Rattle.aes_rules.specs.Aes.{key_expansion}
use Rattle.aes_cipher.specs.Views.{words_of}
use Rattle.aes_cipher.proofs.schedule.CipherKey.expand.Given as goal

abbrev pub invariant-loop-i : goal.invariant-loop-i
invariant-loop-i g l = record {
  long : length l.rows ≡ g.row.N;
  done : take l.i (words_of l.rows) ≡ key_expansion l.self.words l.self.bytes.now l.i;
}
