-- Known answers written as lines, and the laws of reading them. Assumes nothing.
use Rattle.std.specs.Prelude.{◌≡◌, ℕ, ◌^◌, ◌<◌, true, false, List, [], ◌∷◌, ◌++◌, map, decimal}
use Rattle.text.specs.Words.{words, spaced}
use Rattle.text.specs.Writing.{small_digit, capital_digit, block_text, list_text, small, AllUnspaced}
use Rattle.answers.specs.Kinds.{kind_word, cipher_kind, hash_kind}
use Rattle.answers.specs.Reading.{Known, of_aes, of_speck, of_product, of_horner, of_brw, of_sector, sector_texts, understood, not_understood, remark, read}
use Rattle.answers.specs.declared.kinds.Kind.TheVariants.{Aes, Speck, Product, Horner, Brw}

-- ---- an answer as text, with the digits that d writes

-- the words that say what the line is about: the kind's, or those of a sector's cipher and hash
abbrev pub opening : Known → List (List ℕ)
opening (of_aes key plain enciphered) = kind_word Aes ∷ []
opening (of_speck key plain enciphered) = kind_word Speck ∷ []
opening (of_product a b result) = kind_word Product ∷ []
opening (of_horner key list result) = kind_word Horner ∷ []
opening (of_brw key list result) = kind_word Brw ∷ []
opening (of_sector cipher hash key n plain enciphered) = kind_word (cipher_kind cipher) ∷ (kind_word (hash_kind hash) ∷ [])

-- the words of the fields
abbrev pub field_words : (ℕ → ℕ) → Known → List (List ℕ)
field_words d (of_aes key plain enciphered) = block_text d key ∷ (block_text d plain ∷ (block_text d enciphered ∷ []))
field_words d (of_speck key plain enciphered) = block_text d key ∷ (block_text d plain ∷ (block_text d enciphered ∷ []))
field_words d (of_product a b result) = block_text d a ∷ (block_text d b ∷ (block_text d result ∷ []))
field_words d (of_horner key list result) = block_text d key ∷ (list_text d list ∷ (block_text d result ∷ []))
field_words d (of_brw key list result) = block_text d key ∷ (list_text d list ∷ (block_text d result ∷ []))
field_words d (of_sector cipher hash key n plain enciphered) = block_text d key ∷ (decimal n ∷ (list_text d plain ∷ (list_text d enciphered ∷ [])))

-- the line of an answer
abbrev pub line_of : (ℕ → ℕ) → Known → List ℕ
line_of d k = spaced (opening k ++ field_words d k)

-- answers that a line can say: a sector's number and texts are bounded
abbrev pub Bounded : Known → Type 0
Bounded (of_aes key plain enciphered) = Unit {0}
Bounded (of_speck key plain enciphered) = Unit {0}
Bounded (of_product a b result) = Unit {0}
Bounded (of_horner key list result) = Unit {0}
Bounded (of_brw key list result) = Unit {0}
Bounded (of_sector cipher hash key n plain enciphered) = (n < 2 ^ 64) × (sector_texts plain enciphered ≡ true)

-- the line is that of the answer k, but for the case of the digits
pub record Written (k : Known) (line : List ℕ) : Type 0 where
  pub fields : List (List ℕ)
  pub whole : line ≡ spaced (opening k ++ fields)
  pub digits : map (map small) fields ≡ field_words small_digit k
  pub bounded : Bounded k

pub record ReadingLaws : Type 0 where
  -- an answer that is written and read again is the same, whichever digits were used
  pub small_back : (k : Known) → Bounded k → read (line_of small_digit k) ≡ understood k
  pub capital_back : (k : Known) → Bounded k → read (line_of capital_digit k) ≡ understood k
  -- a line is understood as an answer exactly where it is that of the answer, but for the case of the digits
  pub only : (line : List ℕ) (k : Known) → read line ≡ understood k → Written k line
  pub every : (line : List ℕ) (k : Known) → Written k line → read line ≡ understood k
  -- what is no remark, and the line of no answer, is not understood
  pub others : (line : List ℕ) → remark line ≡ false → ((k : Known) → Written k line → ⊥) → read line ≡ not_understood
  -- the words of a text have no space in them, and with single spaces between them they are the text
  pub rejoined : (t : List ℕ) → spaced (words t) ≡ t
  pub unspaced : (t : List ℕ) → AllUnspaced (words t)
