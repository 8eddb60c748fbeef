-- The words that name the kinds of answers. Assumes nothing.
use Rattle.std.specs.Prelude.{ℕ, List, [], ◌∷◌, Some, None, codes, Option}
use Rattle.ciphers.specs.declared.choice.Cipher.{Cipher}
use Rattle.ciphers.specs.declared.choice.Cipher.TheVariants.{Aes as AesCipher, Speck as SpeckCipher}
use Rattle.hashing.specs.declared.choice.AnyHash.{AnyHash}
use Rattle.hashing.specs.declared.choice.AnyHash.TheVariants.{Horner as HornerHash, Brw as BrwHash}
use Rattle.std.specs.List.{find}
use Rattle.std.specs.Str.{bytes_eq}
use Rattle.answers.specs.declared.answer.Polynomial.{Polynomial}
use Rattle.answers.specs.declared.answer.Polynomial.TheVariants.{Horner as PlainHorner, Brw as PlainBrw}
use Rattle.answers.specs.declared.kinds.Kind.{Kind}
use Rattle.answers.specs.declared.kinds.Kind.TheVariants.{Aes, Speck, Product, Horner, Brw, Sector}

-- the word for a kind
abbrev pub kind_word : Kind → List ℕ
kind_word Aes = codes "aes"
kind_word Speck = codes "speck"
kind_word Product = codes "product"
kind_word Horner = codes "horner"
kind_word Brw = codes "brw"
kind_word Sector = codes "sector"

-- the kind that a word names
unfoldable pub kind_named : List ℕ → Option Kind
kind_named w = find (λ k. bytes_eq w (kind_word k)) (Aes ∷ (Speck ∷ (Product ∷ (Horner ∷ (Brw ∷ (Sector ∷ []))))))

-- ---- the words of a cipher and of a hash

-- the kind with the word of a cipher
abbrev pub cipher_kind : Cipher → Kind
cipher_kind AesCipher = Aes
cipher_kind SpeckCipher = Speck

-- the kind with the word of a hash
abbrev pub hash_kind : AnyHash → Kind
hash_kind HornerHash = Horner
hash_kind BrwHash = Brw

-- the kind of a polynomial's values
abbrev pub polynomial_kind : Polynomial → Kind
polynomial_kind PlainHorner = Horner
polynomial_kind PlainBrw = Brw

-- the cipher with the word of a kind
abbrev pub cipher_by : Option Kind → Option Cipher
cipher_by None = None
cipher_by (Some Aes) = Some AesCipher
cipher_by (Some Speck) = Some SpeckCipher
cipher_by (Some Product) = None
cipher_by (Some Horner) = None
cipher_by (Some Brw) = None
cipher_by (Some Sector) = None

-- the hash with the word of a kind
abbrev pub hash_by : Option Kind → Option AnyHash
hash_by None = None
hash_by (Some Aes) = None
hash_by (Some Speck) = None
hash_by (Some Product) = None
hash_by (Some Horner) = Some HornerHash
hash_by (Some Brw) = Some BrwHash
hash_by (Some Sector) = None
