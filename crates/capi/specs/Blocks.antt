-- Blocks that lie as bytes, and what calls on them answer. Assumes nothing.
use Rattle.std.specs.Prelude.{ℕ, Bool, cond, List, length, Ok, Err, Result, ◌==◌}
use Rattle.std.specs.Int.Digits.{number_from_digits}
use Rattle.elements.specs.Endian.{big_endian}
use Rattle.elements.specs.Values.{block}
use Rattle.elements.specs.declared.values.Block.{Block}
use Rattle.sector.specs.Refusals.{answer_number}
use Rattle.sector.specs.declared.refusal.Refusal.{Refusal}
use Rattle.sector.specs.declared.refusal.Refusal.TheVariants.{BufferLength, Figures}

-- 16 bytes
abbrev pub whole : List ℕ → Bool
whole t = length t == 16

-- the block that lies as these bytes
abbrev pub block_in : List ℕ → Block
block_in t = block (number_from_digits 256 t)

-- the bytes that a block lies as
unfoldable pub bytes_out : Block → List ℕ
bytes_out x = big_endian 16 x.value

-- what a call with two blocks in and one out answers: refused where one is not 16 bytes
abbrev pub product_result : List ℕ → List ℕ → List ℕ → Result (Unit {0}) Refusal
product_result a b out = cond (whole a) (cond (whole b) (cond (whole out) (Ok tt) (Err BufferLength)) (Err BufferLength)) (Err BufferLength)

-- what a call with a key, one block in and one out answers: the wrong length of the key is refused first, then as above
abbrev pub cipher_result : List ℕ → List ℕ → List ℕ → Result (Unit {0}) Refusal
cipher_result key a out = cond (whole key) (cond (whole a) (cond (whole out) (Ok tt) (Err BufferLength)) (Err BufferLength)) (Err Figures)

-- the same by numbers: 0, or 2 for a block and 6 for a key that is not 16 bytes
abbrev pub product_answer : List ℕ → List ℕ → List ℕ → ℕ
product_answer a b out = answer_number (product_result a b out)

abbrev pub cipher_answer : List ℕ → List ℕ → List ℕ → ℕ
cipher_answer key a out = answer_number (cipher_result key a out)

-- what the output holds after a call that gave this answer
abbrev pub given : ℕ → Block → List ℕ → List ℕ
given answer x before = cond (answer == 0) (bytes_out x) before
