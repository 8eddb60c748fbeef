-- The published vectors. Assumes nothing.
use Rattle.std.specs.Prelude.{◌≡◌, [], ◌∷◌, map}
use Rattle.elements.specs.Endian.{big_endian}
use Rattle.elements.specs.Values.{block}
use Rattle.aes_rules.specs.Aes.{aes, aes_128, key_expansion, round_key, values}
use Rattle.aes_rules.specs.Vectors.{key}
use Rattle.ciphers.specs.Speck.{speck}

-- what the standards publish, of the definitions
pub record Published : Type 0 where
  -- FIPS 197, the example vectors
  pub aes_sequential : (aes_128 (key 4 0x000102030405060708090a0b0c0d0e0f) (block 0x00112233445566778899aabbccddeeff)).value ≡ 0x69c4e0d86a7b0430d8cdb78070b4c55a
  pub aes_cipher_example : (aes_128 (key 4 0x2b7e151628aed2a6abf7158809cf4f3c) (block 0x3243f6a8885a308d313198a2e0370734)).value ≡ 0x3925841d02dc09fbdc118597196a0b32
  -- FIPS 197, the example vectors of longer keys, which no code here takes: they check the one description over the number of key words
  pub aes_six_words : (aes 6 12 (key 6 0x000102030405060708090a0b0c0d0e0f1011121314151617) (block 0x00112233445566778899aabbccddeeff)).value ≡ 0xdda97ca4864cdfe06eaf70a0ec0d7191
  pub aes_eight_words : (aes 8 14 (key 8 0x000102030405060708090a0b0c0d0e0f101112131415161718191a1b1c1d1e1f) (block 0x00112233445566778899aabbccddeeff)).value ≡ 0x8ea2b7ca516745bfeafc49904b496089
  -- FIPS 197, the key expansion example: the last round key
  pub aes_last_round_key : map values (round_key (key_expansion 4 (key 4 0x2b7e151628aed2a6abf7158809cf4f3c) 44) 10)
      ≡ big_endian 4 0xd014f9a8 ∷ (big_endian 4 0xc9ee2589 ∷ (big_endian 4 0xe13f0cc8 ∷ (big_endian 4 0xb6630ca6 ∷ [])))
  -- ePrint 2013/404, Speck128/128
  pub speck_128 : (speck (key 4 0x0f0e0d0c0b0a09080706050403020100) (block 0x6c617669757165207469206564616d20)).value ≡ 0xa65d9851797832657860fedf5c570d18
