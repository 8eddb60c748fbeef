-- Numbers, blocks and lists as they are written, and the laws of reading them. Assumes nothing.
use Rattle.std.specs.Prelude.{◌≡◌, ℕ, ◌+◌, ◌/◌, ◌%◌, ◌^◌, ◌<◌, cond, List, [], ◌∷◌, ◌++◌, map, Some, codes, decimal, ◌≢◌, nat_lt}
use Rattle.elements.specs.Endian.{big_endian}
use Rattle.elements.specs.declared.values.Block.{Block}
use Rattle.text.specs.Hex.{between, block_word, list_word}
use Rattle.text.specs.Numbers.{number_word}
use Rattle.text.specs.Words.{words, spaced}

-- the digit of a value below 16, small or capital
abbrev pub small_digit : ℕ → ℕ
small_digit v = cond (nat_lt v 10) (48 + v) (87 + v)

abbrev pub capital_digit : ℕ → ℕ
capital_digit v = cond (nat_lt v 10) (48 + v) (55 + v)

-- ---- with the digits that d writes

-- bytes: two digits to each
abbrev pub bytes_text : (ℕ → ℕ) → List ℕ → List ℕ
bytes_text d [] = []
bytes_text d (b ∷ bs) = d (b / 16) ∷ (d (b % 16) ∷ bytes_text d bs)

-- a block: the 16 bytes that it lies as
unfoldable pub block_text : (ℕ → ℕ) → Block → List ℕ
block_text d x = bytes_text d (big_endian 16 x.value)

-- blocks one after the other
abbrev pub blocks_text : (ℕ → ℕ) → List Block → List ℕ
blocks_text d [] = []
blocks_text d (x ∷ xs) = block_text d x ++ blocks_text d xs

-- a list: a dash if it is empty
abbrev pub list_text : (ℕ → ℕ) → List Block → List ℕ
list_text d [] = codes "-"
list_text d (x ∷ xs) = blocks_text d (x ∷ xs)

-- ---- up to the case of the digits

-- a capital digit made small; any other byte stays
abbrev pub small : ℕ → ℕ
small c = cond (between 65 70 c) (c + 32) c

-- ---- the laws

-- no byte of a word is a space
abbrev pub Unspaced : List ℕ → Type 0
Unspaced [] = Unit {0}
Unspaced (c ∷ w) = (c ≢ 32) × Unspaced w

abbrev pub AllUnspaced : List (List ℕ) → Type 0
AllUnspaced [] = Unit {0}
AllUnspaced (w ∷ ws) = Unspaced w × AllUnspaced ws

pub record TextLaws : Type 0 where
  -- the words of a text have no space in them, and with single spaces between them they are the text
  pub rejoined : (t : List ℕ) → spaced (words t) ≡ t
  pub unspaced : (t : List ℕ) → AllUnspaced (words t)
  -- words without a space are those of the text that they make
  pub parted : (w : List ℕ) (ws : List (List ℕ)) → AllUnspaced (w ∷ ws) → words (spaced (w ∷ ws)) ≡ w ∷ ws
  -- a word is a number exactly where it is that number's decimal digits
  pub number_back : (n : ℕ) → n < 2 ^ 64 → number_word (decimal n) ≡ Some n
  pub number_only : (w : List ℕ) (n : ℕ) → number_word w ≡ Some n → (w ≡ decimal n) × (n < 2 ^ 64)
  -- a word is a block, or a list, exactly where it is written so, but for the case of the digits
  pub block_back : (x : Block) → block_word (block_text small_digit x) ≡ Some x
  pub block_only : (w : List ℕ) (x : Block) → block_word w ≡ Some x → map small w ≡ block_text small_digit x
  pub block_case : (w : List ℕ) → block_word (map small w) ≡ block_word w
  pub list_back : (xs : List Block) → list_word (list_text small_digit xs) ≡ Some xs
  pub list_only : (w : List ℕ) (xs : List Block) → list_word w ≡ Some xs → map small w ≡ list_text small_digit xs
  pub list_case : (w : List ℕ) → list_word (map small w) ≡ list_word w
