-- AES, forward, from FIPS 197. Assumes nothing.
use Rattle.std.specs.Prelude.{◌≡◌, ℕ, zero, suc, ◌+◌, ◌-◌, ◌*◌, ◌/◌, ◌%◌, ◌^◌, ◌<◌, ◌≤◌, cond, List, [], ◌∷◌, ◌++◌, length, ◌==◌, ◌≢◌, nat_lt, slice_index, slice_index_or}
use Rattle.std.specs.Int.Digits.{number_from_digits}
use Rattle.elements.specs.Endian.{big_endian}
use Rattle.elements.specs.Values.{byte, byte_operations, block}
use Rattle.elements.specs.declared.values.Block.{Block}
use Rattle.elements.specs.declared.values.Byte.{Byte}
use Rattle.polynomials.specs.Sums.{dot, power}

-- f 0 to f 3
abbrev pub four : {A : Type 0} → (ℕ → A) → List A
four f = f 0 ∷ (f 1 ∷ (f 2 ∷ (f 3 ∷ [])))

-- four bytes: a word of the key schedule, a column of the state
abbrev pub Word : Type 0
Word = List Byte

-- byte r of a word
abbrev pub at : Word → ℕ → Byte
at w r = slice_index_or w r (byte 0)

-- word i of a schedule, column i of a state
abbrev pub word : List Word → ℕ → Word
word ws i = slice_index_or ws i []

-- ---- the S-box

-- x ^ 2 ⊗ x ^ 4 ⊗ x ^ 8 ⊗ .., n factors
unfoldable pub squares : ℕ → Byte → Byte
squares zero x = byte_operations.one
squares (suc n) x = let s = byte_operations.product x x in byte_operations.product s (squares n s)

-- x ^ 254: the inverse in the byte field, and 00 for 00
unfoldable pub inverse : Byte → Byte
inverse x = squares 7 x

-- bit i of a byte, counted round
unfoldable pub bit : ℕ → ℕ → ℕ
bit b i = b / 2 ^ (i % 8) % 2

-- the bits of the affine map of b below bit n: bit i is b_i + b_(i+4) + b_(i+5) + b_(i+6) + b_(i+7) + c_i, where c is 63
unfoldable pub affine_bits : ℕ → ℕ → ℕ
affine_bits zero b = 0
affine_bits (suc i) b =
    (bit b i + bit b (i + 4) + bit b (i + 5) + bit b (i + 6) + bit b (i + 7) + bit 0x63 i) % 2 * 2 ^ i + affine_bits i b

-- the affine map of a byte
unfoldable pub affine : Byte → Byte
affine x = byte (affine_bits 8 x.value)

-- the S-box: the affine map of the inverse
unfoldable pub sub_byte : Byte → Byte
sub_byte x = affine (inverse x)

-- y is the inverse of x in the byte field, and 00 where x is 00
pub record Inverse (x y : Byte) : Type 0 where
  pub of_zero : x ≡ byte 0 → y ≡ byte 0
  pub of_others : (x ≢ byte 0) → byte_operations.product x y ≡ byte_operations.one

-- ---- words

-- the S-box at each byte
unfoldable pub sub_word : Word → Word
sub_word w = four (λ r. sub_byte (at w r))

-- rotated by one byte to the left
unfoldable pub rot_word : Word → Word
rot_word w = four (λ r. at w ((r + 1) % 4))

-- the sum, byte by byte
unfoldable pub add_words : Word → Word → Word
add_words v w = four (λ r. byte_operations.sum (at v r) (at w r))

-- the word of bytes 4 * i to 4 * i + 3
unfoldable pub word_at : List ℕ → ℕ → Word
word_at bs i = four (λ r. byte (slice_index bs (4 * i + r)))

-- ---- KeyExpansion

-- round constant j: z ^ (j - 1)
unfoldable pub round_constant : ℕ → Byte
round_constant j = power byte_operations (byte 2) (j - 1)

-- the word of round constant j
unfoldable pub rcon : ℕ → Word
rcon j = round_constant j ∷ (byte 0 ∷ (byte 0 ∷ (byte 0 ∷ [])))

-- what the word before, w, adds to word i of a key of nk words
unfoldable pub temp : ℕ → ℕ → Word → Word
temp nk i w =
    cond (i % nk == 0) (add_words (sub_word (rot_word w)) (rcon (i / nk)))
    (cond (nat_lt 6 nk) (cond (i % nk == 4) (sub_word w) w) w)

-- word i from the words before it: one of the key's own, or of the one nk places back and the one before
unfoldable pub next_word : ℕ → List ℕ → ℕ → List Word → Word
next_word nk key i w = cond (nat_lt i nk) (word_at key i) (add_words (word w (i - nk)) (temp nk i (word w (i - 1))))

-- the words w, and word i after them
unfoldable pub extended : ℕ → List ℕ → ℕ → List Word → List Word
extended nk key i w = w ++ (next_word nk key i w ∷ [])

-- the first n words of the schedule of a key of nk words
unfoldable pub key_expansion : ℕ → List ℕ → ℕ → List Word
key_expansion nk key zero = []
key_expansion nk key (suc i) = extended nk key i (key_expansion nk key i)

-- w is the schedule of n words of a key of nk words, by the standard's rule for each word
pub record Schedule (nk : ℕ) (key : List ℕ) (n : ℕ) (w : List Word) : Type 0 where
  pub count : length w ≡ n
  pub own : (i : ℕ) → i < n → i < nk → word w i ≡ word_at key i
  pub others : (i : ℕ) → i < n → nk ≤ i → word w i ≡ add_words (word w (i - nk)) (temp nk i (word w (i - 1)))

-- ---- the state: four columns

-- SubBytes
unfoldable pub sub_bytes : List Word → List Word
sub_bytes s = four (λ c. sub_word (word s c))

-- ShiftRows: row r goes r columns to the left
unfoldable pub shift_rows : List Word → List Word
shift_rows s = four (λ c. four (λ r. at (word s ((c + r) % 4)) r))

-- a row of the matrix of MixColumns
abbrev pub coefficients : ℕ → ℕ → ℕ → ℕ → Word
coefficients a b c d = byte a ∷ (byte b ∷ (byte c ∷ (byte d ∷ [])))

-- MixColumns of one column: the matrix times the column
unfoldable pub mix_column : Word → Word
mix_column w =
    dot byte_operations (coefficients 2 3 1 1) w
    ∷ (dot byte_operations (coefficients 1 2 3 1) w
    ∷ (dot byte_operations (coefficients 1 1 2 3) w
    ∷ (dot byte_operations (coefficients 3 1 1 2) w ∷ [])))

-- MixColumns
unfoldable pub mix_columns : List Word → List Word
mix_columns s = four (λ c. mix_column (word s c))

-- AddRoundKey
unfoldable pub add_round_key : List Word → List Word → List Word
add_round_key s k = four (λ c. add_words (word s c) (word k c))

-- ---- the rounds

-- the round key of round j: words 4 * j to 4 * j + 3
unfoldable pub round_key : List Word → ℕ → List Word
round_key w j = four (λ c. word w (4 * j + c))

-- a round under the round key k
unfoldable pub round : List Word → List Word → List Word
round k s = add_round_key (mix_columns (shift_rows (sub_bytes s))) k

-- the last round has no MixColumns
unfoldable pub last_round : List Word → List Word → List Word
last_round k s = add_round_key (shift_rows (sub_bytes s)) k

-- rounds 1 to j
unfoldable pub rounds : List Word → ℕ → List Word → List Word
rounds w zero s = s
rounds w (suc j) s = round (round_key w (suc j)) (rounds w j s)

-- the cipher in nr rounds under the schedule w
unfoldable pub cipher : ℕ → List Word → List Word → List Word
cipher nr w s = last_round (round_key w nr) (rounds w (nr - 1) (add_round_key s (round_key w 0)))

-- ---- blocks

-- the state of a block, column by column
unfoldable pub input : Block → List Word
input x = four (word_at (big_endian 16 x.value))

-- the bytes of a word as numbers
abbrev pub values : Word → List ℕ
values w = four (λ r. (at w r).value)

-- the block of a state
unfoldable pub output : List Word → Block
output s = block (number_from_digits 256 (values (word s 0) ++ (values (word s 1) ++ (values (word s 2) ++ values (word s 3)))))

-- AES in nr rounds under the schedule w
unfoldable pub aes_with : ℕ → List Word → Block → Block
aes_with nr w x = output (cipher nr w (input x))

-- AES under a key of nk words, in nr rounds
unfoldable pub aes : ℕ → ℕ → List ℕ → Block → Block
aes nk nr key x = aes_with nr (key_expansion nk key (4 * (nr + 1))) x

-- AES-128: four key words, ten rounds
abbrev pub aes_128 : List ℕ → Block → Block
aes_128 key x = aes 4 10 key x
