-- Numbers as decimal words. Assumes nothing.
use Rattle.std.specs.Prelude.{ℕ, ◌^◌, Bool, cond, not, ◌&&◌, ◌||◌, List, length, Some, None, Option, ◌==◌, nat_lt, slice_index}
use Rattle.std.specs.Str.{all_ascii_digits}
use Rattle.text.specs.Hex.{between, digits_number}

-- the digits of a number as it is written: one to twenty decimal digits, and no 0 before others
abbrev pub number_digits : List ℕ → Bool
number_digits w = between 1 20 (length w) && ((length w == 1 || not (slice_index w 0 == 48)) && all_ascii_digits w)

-- a word as a number below 2 ^ 64. Twenty digits are enough for each, so that a longer word is no such number.
unfoldable pub number_word : List ℕ → Option ℕ
number_word w = cond (number_digits w) (cond (nat_lt (digits_number 10 w) (2 ^ 64)) (Some (digits_number 10 w)) None) None
