-- A sector's setting as the code holds it, and what is true of texts in it. Assumes nothing.
use Rattle.std.specs.Prelude.{◌≡◌, ℕ, List}
use Rattle.elements.specs.declared.values.Block.{Block}
use Rattle.ciphers.specs.Choice.{keyed_of}
use Rattle.hashing.specs.Choice.{hash_of}
use Rattle.sector.specs.Texts.{enciphered_bytes, deciphered_bytes, transformed_bytes}
use Rattle.sector.specs.Transform.{tweak}
use Rattle.sector.specs.declared.text.Direction.{Direction}
use Rattle.verdicts.specs.Agreement.{OneSector}
use Rattle.verdicts.specs.declared.sectors.Setting.{Setting}

-- the transform in a direction
abbrev pub transformed : Setting → Direction → List ℕ → List ℕ
transformed s d t = transformed_bytes d (keyed_of s.cipher.function) (hash_of s.cipher.hash) (tweak s.number) t

-- each direction takes the one text to the other
pub record BothWays (s : Setting) (plain enciphered : List ℕ) : Type 0 where
  pub enciphers : enciphered_bytes (keyed_of s.cipher.function) (hash_of s.cipher.hash) (tweak s.number) plain ≡ enciphered
  pub deciphers : deciphered_bytes (keyed_of s.cipher.function) (hash_of s.cipher.hash) (tweak s.number) enciphered ≡ plain

-- two texts are one sector's
abbrev pub InSetting : Setting → List Block → List Block → Type 0
InSetting s plain enciphered = OneSector (keyed_of s.cipher.function) (hash_of s.cipher.hash) (tweak s.number) plain enciphered
