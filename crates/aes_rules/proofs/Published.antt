-- The published vectors, by computation on the definitions. Assumes nothing.
use Rattle.std.proofs.Common.{refl}
use Rattle.elements.specs.Field.{double, times}
use Rattle.aes_rules.specs.Aes.{squares, inverse, bit, affine_bits, affine, sub_byte, sub_word, rot_word, add_words, word_at, round_constant, rcon, temp, next_word, extended, key_expansion, sub_bytes, shift_rows, mix_column, mix_columns, add_round_key, round_key, round, last_round, rounds, cipher, input, output, aes_with, aes}
use Rattle.aes_rules.specs.Vectors.{Published}

pub published : Published
unfolding double times squares inverse bit affine_bits affine sub_byte sub_word rot_word add_words word_at round_constant rcon temp next_word extended key_expansion sub_bytes shift_rows mix_column mix_columns add_round_key round_key round last_round rounds cipher input output aes_with aes
published = record {
  aes_sequential = refl;
  aes_cipher_example = refl;
  aes_six_words = refl;
  aes_eight_words = refl;
  aes_last_round_key = refl;
}
