-- Known answers, and the lines that say them. Assumes nothing.
--
-- A line is the word for a kind and the words of its fields, parted by single spaces:
--     aes KEY PLAIN ENCIPHERED      speck KEY PLAIN ENCIPHERED
--     product A B RESULT
--     horner KEY LIST RESULT        brw KEY LIST RESULT
-- or, for a sector, the words of its cipher (aes or speck) and its hash (horner or brw) and those of its fields:
--     CIPHER HASH KEY NUMBER PLAIN ENCIPHERED
-- A key of 16 bytes and a block are 32 hex digits each, in either case; a list is the digits of its blocks one after the
-- other, or a dash if it is empty. A sector's number is in decimal digits, below 2^64, with no 0 before others; its texts
-- are lists of as many blocks each, 4 to 256. An empty line and one that begins with '#' are passed over.
use Rattle.std.specs.Prelude.{ℕ, Bool, true, cond, ◌&&◌, List, [], ◌∷◌, length, Some, None, Option, ◌==◌}
use Rattle.std.specs.Option.{option_map}
use Rattle.elements.specs.declared.values.Block.{Block}
use Rattle.ciphers.specs.declared.choice.Cipher.{Cipher}
use Rattle.hashing.specs.declared.choice.AnyHash.{AnyHash}
use Rattle.text.specs.Hex.{between, block_word, list_word}
use Rattle.answers.specs.Kinds.{kind_named, cipher_by, hash_by}
use Rattle.text.specs.Numbers.{number_word}
use Rattle.text.specs.Words.{words}
use Rattle.answers.specs.declared.kinds.Kind.{Kind}
use Rattle.answers.specs.declared.kinds.Kind.TheVariants.{Aes, Speck, Product, Horner, Brw, Sector}

-- a known answer: the key, the plain and the enciphered block of a cipher, with the 16 bytes of the key as a block; two
-- factors and their product; the key, the list and the value of a polynomial; the cipher, the hash, the key and the number
-- of a sector, with its plain and its enciphered text
pub data Known : Type 0 where
  of_aes : Block → Block → Block → Known
  of_speck : Block → Block → Block → Known
  of_product : Block → Block → Block → Known
  of_horner : Block → List Block → Block → Known
  of_brw : Block → List Block → Block → Known
  of_sector : Cipher → AnyHash → Block → ℕ → List Block → List Block → Known

-- what an answer is about
abbrev pub kind_of : Known → Kind
kind_of (of_aes key plain enciphered) = Aes
kind_of (of_speck key plain enciphered) = Speck
kind_of (of_product a b result) = Product
kind_of (of_horner key list result) = Horner
kind_of (of_brw key list result) = Brw
kind_of (of_sector cipher hash key n plain enciphered) = Sector

-- what a line says
pub data Reading : Type 0 where
  passed : Reading
  understood : Known → Reading
  not_understood : Reading

-- three words
pub record Three : Type 0 where
  pub first : List ℕ
  pub second : List ℕ
  pub third : List ℕ

-- words that are three
abbrev pub three : List (List ℕ) → Option Three
three [] = None
three (a ∷ []) = None
three (a ∷ (b ∷ [])) = None
three (a ∷ (b ∷ (c ∷ []))) = Some (record { first = a; second = b; third = c })
three (a ∷ (b ∷ (c ∷ (d ∷ ws)))) = None

-- f of three things, if each is there
abbrev pub with_all : {X Y Z R : Type 0} → (X → Y → Z → R) → Option X → Option Y → Option Z → Option R
with_all f None y z = None
with_all f (Some a) None z = None
with_all f (Some a) (Some b) None = None
with_all f (Some a) (Some b) (Some c) = Some (f a b c)

-- an answer by its kind and fields; the word for sectors begins no line
abbrev pub answer_of : Kind → Three → Option Known
answer_of Aes w = with_all of_aes (block_word w.first) (block_word w.second) (block_word w.third)
answer_of Speck w = with_all of_speck (block_word w.first) (block_word w.second) (block_word w.third)
answer_of Product w = with_all of_product (block_word w.first) (block_word w.second) (block_word w.third)
answer_of Horner w = with_all of_horner (block_word w.first) (list_word w.second) (block_word w.third)
answer_of Brw w = with_all of_brw (block_word w.first) (list_word w.second) (block_word w.third)
answer_of Sector w = None

-- the same, if there are a kind and three fields
abbrev pub answer_if : Option Kind → Option Three → Option Known
answer_if None w = None
answer_if (Some k) None = None
answer_if (Some k) (Some w) = answer_of k w

-- an answer by the words of its line, of which the first is the kind's
abbrev pub by_kind : List (List ℕ) → Option Known
by_kind [] = None
by_kind (k ∷ ws) = answer_if (kind_named k) (three ws)

-- ---- sectors

-- the words of a sector's line
pub record Six : Type 0 where
  pub cipher : List ℕ
  pub hash : List ℕ
  pub key : List ℕ
  pub fields : Three

-- words that are six
abbrev pub six : List (List ℕ) → Option Six
six [] = None
six (a ∷ []) = None
six (a ∷ (b ∷ [])) = None
six (a ∷ (b ∷ (c ∷ ws))) = option_map (λ t. record { cipher = a; hash = b; key = c; fields = t }) (three ws)

-- texts that a sector can have: 4 to 256 blocks each, and as many
abbrev pub sector_texts : List Block → List Block → Bool
sector_texts plain enciphered = between 4 256 (length plain) && length enciphered == length plain

-- what f makes of a thing, if it is there
abbrev pub then : {X R : Type 0} → Option X → (X → Option R) → Option R
then None f = None
then (Some x) f = f x

-- a sector's answer by its words
abbrev pub sector_of : Six → Option Known
sector_of w =
    then (cipher_by (kind_named w.cipher)) (λ cipher.
    then (hash_by (kind_named w.hash)) (λ hash.
    then (block_word w.key) (λ key.
    then (number_word w.fields.first) (λ n.
    then (list_word w.fields.second) (λ plain.
    then (list_word w.fields.third) (λ enciphered.
    cond (sector_texts plain enciphered) (Some (of_sector cipher hash key n plain enciphered)) None))))))

-- six words are read as a sector's, and any others by their kind
abbrev pub sector_or : Option Six → Option Known → Option Known
sector_or None k = k
sector_or (Some w) k = sector_of w

-- an answer by the words of its line
abbrev pub known : List (List ℕ) → Option Known
known ws = sector_or (six ws) (by_kind ws)

-- an empty line, or one that begins with '#'
abbrev pub remark : List ℕ → Bool
remark [] = true
remark (c ∷ t) = c == 35

abbrev pub reading : Option Known → Reading
reading None = not_understood
reading (Some k) = understood k

-- what a line says
abbrev pub read : List ℕ → Reading
read line = cond (remark line) passed (reading (known (words line)))
