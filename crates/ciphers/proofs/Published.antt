-- The published vectors: those of AES as they are proved of its rules, that of Speck by computation. Assumes nothing.
use Rattle.std.proofs.Common.{refl}
use Rattle.aes_rules.proofs.Published.{published as of_aes}
use Rattle.ciphers.specs.Speck.{halves, joined, rotated_left, rotated_right, round, round_keys, rounds, speck_with, speck}
use Rattle.ciphers.specs.Vectors.{Published}

pub published : Published
unfolding halves joined rotated_left rotated_right round round_keys rounds speck_with speck
published = record {
  aes_sequential = of_aes.aes_sequential;
  aes_cipher_example = of_aes.aes_cipher_example;
  aes_six_words = of_aes.aes_six_words;
  aes_eight_words = of_aes.aes_eight_words;
  aes_last_round_key = of_aes.aes_last_round_key;
  speck_128 = refl;
}
