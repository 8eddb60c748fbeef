-- Records, and the bytes that they lie as on a sheet. Assumes nothing.
use Rattle.std.specs.Prelude.{◌≡◌, ℕ, ◌+◌, ◌/◌, ◌%◌, ◌<◌, List, [], ◌∷◌, ◌++◌, length, take, drop}
use Rattle.sheets.specs.declared.records.Record.{Record}
use Rattle.sheets.specs.declared.records.Record.TheVariants.{Setting, Write, Read}

-- what a record says: a setting its cipher, hash, sector length, count and key; a write its sector, its text's place in
-- the sheet and the text; a read its sector
pub data Said : Type 0 where
  setting : ℕ → ℕ → ℕ → ℕ → List ℕ → Said
  write : ℕ → ℕ → List ℕ → Said
  read : ℕ → Said

-- what a record of the code says now
abbrev pub said : Record → Said
said (Setting v) = setting v.cipher v.hash v.length v.count v.key
said (Write sector text at) = write sector at text.now
said (Read sector) = read sector

-- a number as two bytes, the higher first
abbrev pub both : ℕ → List ℕ
both n = n / 256 ∷ n % 256 ∷ []

-- a record's body: its kind, and then what it says
abbrev pub body : Said → List ℕ
body (setting c h l n k) = 1 ∷ c ∷ h ∷ (both l ++ (both n ++ k))
body (write s a t) = 2 ∷ (both s ++ t)
body (read s) = 3 ∷ both s

-- a record's bytes on a sheet: the length of its body, and the body
abbrev pub written : Said → List ℕ
written r = both (length (body r)) ++ body r

-- how many bytes a key has: the length that the ciphers name as theirs
abbrev pub key_length : ℕ
key_length = 16

-- the numbers fit their bytes, a key has its length, and the length of the body fits two bytes
abbrev pub Formed : Said → Type 0
Formed (setting c h l n k) = (c < 256) × (h < 256) × (l < 65536) × (n < 65536) × (length k ≡ key_length)
Formed (write s a t) = (s < 65536) × (length t + 3 < 65536)
Formed (read s) = s < 65536

-- a write's text begins after the body's length, the kind and the sector
abbrev pub Placed : ℕ → Said → Type 0
Placed at (setting c h l n k) = Unit {0}
Placed at (write s a t) = a ≡ at + 5
Placed at (read s) = Unit {0}

-- at a place the sheet goes on with the bytes of a record
pub record Stands (sheet : List ℕ) (at : ℕ) (r : Said) : Type 0 where
  pub formed : Formed r
  pub placed : Placed at r
  pub lies : take (length (written r)) (drop at sheet) ≡ written r
