-- Blocks as hex digits. Assumes nothing.
use Rattle.std.specs.Prelude.{ℕ, ◌-◌, ◌/◌, ◌%◌, Bool, cond, ◌&&◌, List, [], map, length, is_some, Some, None, codes, Option, ◌==◌, nat_le, nat_lt}
use Rattle.std.specs.List.{list_all}
use Rattle.std.specs.Option.{unwrap_or}
use Rattle.std.specs.Int.Digits.{number_from_digits}
use Rattle.std.specs.Simd.{first_chunks}
use Rattle.std.specs.Str.{bytes_eq}
use Rattle.elements.specs.Values.{block}
use Rattle.elements.specs.declared.values.Block.{Block}

-- ---- digits as they are read

-- low ≤ c ≤ high
abbrev pub between : ℕ → ℕ → ℕ → Bool
between low high c = nat_le low c && nat_le c high

-- the value of a hex digit: '0' to '9', 'A' to 'F' or 'a' to 'f'
unfoldable pub digit : ℕ → Option ℕ
digit c =
    cond (between 48 57 c) (Some (c - 48))
    (cond (between 65 70 c) (Some (c - 55)) (cond (between 97 102 c) (Some (c - 87)) None))

-- the same, and 0 for what is no digit
abbrev pub digit_value : ℕ → ℕ
digit_value c = unwrap_or (digit c) 0

-- hex digits and nothing else
abbrev pub all_digits : List ℕ → Bool
all_digits t = list_all (λ c. is_some (digit c)) t

-- the number that digits write in a base, the highest first
abbrev pub digits_number : ℕ → List ℕ → ℕ
digits_number base t = number_from_digits base (map digit_value t)

-- the block that digits write
unfoldable pub hex_block : List ℕ → Block
hex_block t = block (digits_number 16 t)

-- the first n blocks of a text of digits, 32 to a block
abbrev pub hex_blocks : ℕ → List ℕ → List Block
hex_blocks n t = map hex_block (first_chunks 32 n t)

-- the blocks of a text of digits, but for what is left over at its end
abbrev pub hex_blocks_of : List ℕ → List Block
hex_blocks_of t = hex_blocks (length t / 32) t

-- the digits of one block
abbrev pub one_block : List ℕ → Bool
one_block w = length w == 32 && all_digits w

-- a word as a block
unfoldable pub block_word : List ℕ → Option Block
block_word w = cond (one_block w) (Some (hex_block w)) None

-- the digits of blocks, of one at least
abbrev pub some_blocks : List ℕ → Bool
some_blocks w = nat_lt 0 (length w) && (length w % 32 == 0 && all_digits w)

-- a word as a list of blocks: a dash for none, or some blocks one after the other
unfoldable pub list_word : List ℕ → Option (List Block)
list_word w = cond (bytes_eq w (codes "-")) (Some []) (cond (some_blocks w) (Some (hex_blocks_of w)) None)
