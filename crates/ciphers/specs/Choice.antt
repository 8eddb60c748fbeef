-- A cipher that is chosen at run time. Assumes nothing.
use Rattle.std.specs.Prelude.{ℕ, cond, ◌==◌, List, Option, Some, None}
use Rattle.elements.specs.declared.values.Block.{Block}
use Rattle.aes_rules.specs.Aes.{aes_128}
use Rattle.aes_cipher.specs.Views.{aes_of}
use Rattle.ciphers.specs.Speck.{speck}
use Rattle.ciphers.specs.SpeckViews.{speck_of}
use Rattle.ciphers.specs.declared.choice.AnyCipher.{AnyCipher}
use Rattle.ciphers.specs.declared.choice.AnyCipher.TheVariants.{Aes as KeyedAes, Speck as KeyedSpeck}
use Rattle.ciphers.specs.declared.choice.Cipher.{Cipher}
use Rattle.ciphers.specs.declared.choice.Cipher.TheVariants.{Aes, Speck}

-- a cipher, of a key of 16 bytes and a block
abbrev pub cipher_of : Cipher → List ℕ → Block → Block
cipher_of Aes = aes_128
cipher_of Speck = speck

-- the function that a keyed cipher is
abbrev pub keyed_of : AnyCipher → Block → Block
keyed_of (KeyedAes a) = aes_of a
keyed_of (KeyedSpeck s) = speck_of s

-- the cipher of a number
abbrev pub cipher_numbered : ℕ → Option Cipher
cipher_numbered n = cond (n == 1) (Some Aes) (cond (n == 2) (Some Speck) None)
