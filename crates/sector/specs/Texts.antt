-- Texts of bytes, enciphered and deciphered. Assumes nothing.
use Rattle.std.specs.Prelude.{ℕ, List, [], ◌∷◌, ◌++◌, take, drop}
use Rattle.std.specs.Int.Digits.{number_from_digits}
use Rattle.elements.specs.Endian.{big_endian}
use Rattle.elements.specs.Values.{block}
use Rattle.elements.specs.declared.values.Block.{Block}
use Rattle.polynomials.specs.Blocks.{blocks_of}
use Rattle.sector.specs.declared.text.Direction.{Direction}
use Rattle.sector.specs.declared.text.Direction.TheVariants.{Encipher, Decipher}
use Rattle.sector.specs.declared.text.Front.{Front}
use Rattle.sector.specs.Transform.{Text, enciphered, deciphered}

-- the 16 bytes of a block
unfoldable pub bytes : Block → List ℕ
bytes b = big_endian 16 b.value

-- the bytes of blocks, one after the other
abbrev pub joined : List Block → List ℕ
joined [] = []
joined (b ∷ bs) = bytes b ++ joined bs

-- the first two blocks of a text
abbrev pub front_of : List ℕ → Front
front_of t = record { first = block (number_from_digits 256 (take 16 t)); second = block (number_from_digits 256 (take 16 (drop 16 t))) }

-- the text that lies as these bytes
unfoldable pub text_of : List ℕ → Text
text_of t = record { front = front_of t; tail = blocks_of (drop 32 t) }

-- the bytes that a text lies as
unfoldable pub bytes_of : Text → List ℕ
bytes_of p = (bytes p.front.first ++ bytes p.front.second) ++ joined p.tail

-- the bytes that a text of bytes is enciphered to
unfoldable pub enciphered_bytes : (Block → Block) → (Block → List Block → Block) → Block → List ℕ → List ℕ
enciphered_bytes F g T t = bytes_of (enciphered F g T (text_of t))

-- the bytes that a text of bytes is deciphered to
unfoldable pub deciphered_bytes : (Block → Block) → (Block → List Block → Block) → Block → List ℕ → List ℕ
deciphered_bytes F g T t = bytes_of (deciphered F g T (text_of t))

-- either, by direction
abbrev pub transformed_bytes : Direction → (Block → Block) → (Block → List Block → Block) → Block → List ℕ → List ℕ
transformed_bytes Encipher = enciphered_bytes
transformed_bytes Decipher = deciphered_bytes

-- the other direction
abbrev pub reversed : Direction → Direction
reversed Encipher = Decipher
reversed Decipher = Encipher
