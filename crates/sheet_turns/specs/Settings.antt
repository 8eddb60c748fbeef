-- Which settings are admitted. Assumes nothing.
use Rattle.std.specs.Prelude.{ℕ, ◌*◌, ◌%◌, Bool, cond, ◌&&◌, List, Some, None, Option, ◌==◌, nat_le}
use Rattle.ciphers.specs.declared.choice.Cipher.{Cipher}
use Rattle.ciphers.specs.Choice.{cipher_numbered}
use Rattle.hashing.specs.declared.choice.AnyHash.{AnyHash}
use Rattle.hashing.specs.Choice.{hash_numbered}
use Rattle.sheet_turns.specs.declared.settings.Setting.{Setting}

-- sectors of a length that stores have, one at least, of 32,768 bytes in all at most
abbrev pub figures : ℕ → ℕ → Bool
figures l n = nat_le 64 l && (nat_le l 4096 && (l % 16 == 0 && (nat_le 1 n && nat_le (l * n) 32768)))

-- a setting, if the cipher and the hash are known
abbrev pub set_to : Option Cipher → Option AnyHash → ℕ → ℕ → List ℕ → Option Setting
set_to None h l n k = None
set_to (Some c) None l n k = None
set_to (Some c) (Some h) l n k = Some (record { cipher = c; hash = h; length = l; count = n; key = k })

-- the setting that these values are: none if the cipher, the hash or the figures are not admitted
abbrev pub admitted : ℕ → ℕ → ℕ → ℕ → List ℕ → Option Setting
admitted c h l n k = cond (figures l n) (set_to (cipher_numbered c) (hash_numbered h) l n k) None
