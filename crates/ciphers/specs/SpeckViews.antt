-- The code's words and keyed cipher as the definition's. Assumes nothing.
use Rattle.elements.specs.declared.values.Block.{Block}
use Rattle.ciphers.specs.Speck.{Pair, speck_with}
use Rattle.ciphers.specs.declared.speck.Words.{Words}
use Rattle.ciphers.specs.declared.speck.Speck128.{Speck128}

-- the two words
abbrev pub pair : Words → Pair
pair w = record { u = w.u; v = w.v }

-- the function that a keyed cipher is
abbrev pub speck_of : Speck128 → Block → Block
speck_of s x = speck_with (pair s.key) x
