-- Speck128/128, from ePrint 2013/404. Assumes nothing.
use Rattle.std.specs.Prelude.{ℕ, zero, suc, ◌+◌, ◌-◌, ◌*◌, ◌/◌, ◌%◌, ◌^◌, List, [], ◌∷◌, bit_or, bit_xor}
use Rattle.std.specs.Int.Digits.{number_from_digits}
use Rattle.elements.specs.Values.{block}
use Rattle.elements.specs.declared.values.Block.{Block}

-- two words of 64 bits: u and v of a text, l and k of a key
pub record Pair : Type 0 where
  pub u : ℕ
  pub v : ℕ

-- a block's two words, each big-endian
unfoldable pub halves : Block → Pair
halves x = record { u = x.value / 2 ^ 64; v = x.value % 2 ^ 64 }

-- the block of two words
unfoldable pub joined : Pair → Block
joined w = block (w.u * 2 ^ 64 + w.v)

-- a word rotated right by n
unfoldable pub rotated_right : ℕ → ℕ → ℕ
rotated_right n x = bit_or (x / 2 ^ n) (x * 2 ^ (64 - n) % 2 ^ 64)

-- a word rotated left by n
unfoldable pub rotated_left : ℕ → ℕ → ℕ
rotated_left n x = bit_or (x * 2 ^ n % 2 ^ 64) (x / 2 ^ (64 - n))

-- one round under the round key k
unfoldable pub round : ℕ → Pair → Pair
round k w =
    let u = bit_xor ((rotated_right 8 w.u + w.v) % 2 ^ 64) k in
    record { u = u; v = bit_xor (rotated_left 3 w.v) u }

-- the round keys of n rounds from round i on: k is one, and the key goes on by the same round under the number i
unfoldable pub round_keys : ℕ → ℕ → Pair → List ℕ
round_keys zero i w = []
round_keys (suc n) i w = w.v ∷ round_keys n (suc i) (round i w)

-- a round under each of the round keys
unfoldable pub rounds : List ℕ → Pair → Pair
rounds [] w = w
rounds (k ∷ ks) w = rounds ks (round k w)

-- the function under the key of two words
unfoldable pub speck_with : Pair → Block → Block
speck_with key x = joined (rounds (round_keys 32 0 key) (halves x))

-- the function under the key of sixteen bytes
unfoldable pub speck : List ℕ → Block → Block
speck key x = speck_with (halves (block (number_from_digits 256 key))) x
