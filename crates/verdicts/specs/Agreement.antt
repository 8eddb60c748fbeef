-- What is true of a known answer. Assumes nothing.
use Rattle.std.specs.Prelude.{◌≡◌, ℕ, true, List}
use Rattle.elements.specs.Endian.{big_endian}
use Rattle.elements.specs.Values.{block_operations}
use Rattle.elements.specs.declared.values.Block.{Block}
use Rattle.polynomials.specs.Sums.{horner, brw}
use Rattle.ciphers.specs.Aes.{aes_128}
use Rattle.ciphers.specs.Choice.{cipher_of}
use Rattle.ciphers.specs.Speck.{speck}
use Rattle.hashing.specs.Choice.{hash_of}
use Rattle.sector.specs.Texts.{joined, enciphered_bytes, deciphered_bytes}
use Rattle.sector.specs.Transform.{tweak}
use Rattle.answers.specs.Reading.{Known, of_aes, of_speck, of_product, of_horner, of_brw, of_sector, sector_texts}
use Rattle.answers.specs.declared.answer.Polynomial.{Polynomial}
use Rattle.answers.specs.declared.answer.Polynomial.TheVariants.{Horner, Brw}

-- the bytes of a key that is written as a block
unfoldable pub key_bytes : Block → List ℕ
key_bytes key = big_endian 16 key.value

-- a polynomial, of a key and a list
abbrev pub polynomial_of : Polynomial → Block → List Block → Block
polynomial_of Horner = horner block_operations
polynomial_of Brw = brw block_operations

-- two texts are one sector's, by its block function, its hash and its tweak: each direction of the transform takes the one
-- to the other
pub record OneSector (F : Block → Block) (g : Block → List Block → Block) (T : Block) (plain enciphered : List Block) : Type 0 where
  pub texts : sector_texts plain enciphered ≡ true
  pub enciphers : enciphered_bytes F g T (joined plain) ≡ joined enciphered
  pub deciphers : deciphered_bytes F g T (joined enciphered) ≡ joined plain

-- the definitions give what the answer says
abbrev pub Holds : Known → Type 0
Holds (of_aes key plain enciphered) = aes_128 (key_bytes key) plain ≡ enciphered
Holds (of_speck key plain enciphered) = speck (key_bytes key) plain ≡ enciphered
Holds (of_product a b result) = block_operations.product a b ≡ result
Holds (of_horner key list result) = horner block_operations key list ≡ result
Holds (of_brw key list result) = brw block_operations key list ≡ result
Holds (of_sector cipher hash key n plain enciphered) = OneSector (cipher_of cipher (key_bytes key)) (hash_of hash) (tweak n) plain enciphered
