-- The rules of the tables of AES, as tests that are computed. Assumes nothing.
use Rattle.std.specs.Prelude.{ℕ, zero, suc, ◌+◌, Bool, true, false, cond, List, [], ◌∷◌, Some, None, Option, ◌==◌, nat_lt}
use Rattle.elements.specs.declared.values.Byte.{Byte}
use Rattle.elements.specs.Values.{byte, byte_operations}
use Rattle.aes_rules.specs.Aes.{inverse, affine, round_constant}

-- both tests pass
abbrev pub both : Bool → Bool → Bool
both true b = b
both false b = false

-- the rule holds of each entry and its place, counted from i
abbrev pub every : (ℕ → ℕ → Bool) → ℕ → List ℕ → Bool
every rule i [] = true
every rule i (x ∷ xs) = both (rule i x) (every rule (suc i) xs)

-- what k times its inverse is: 0 for 0, and else 1
abbrev pub unit : ℕ → ℕ
unit zero = 0
unit (suc k) = 1

-- entry y of the S-box at place k: the affine map of the inverse of k, which is its inverse indeed
abbrev pub substitutes : ℕ → ℕ → Bool
substitutes k y =
    both (y == (affine (inverse (byte k))).value)
    ((byte_operations.product (byte k) (inverse (byte k))).value == unit k)

-- entry y of the round constants at place k: that of round k + 1
abbrev pub raises : ℕ → ℕ → Bool
raises k y = y == (round_constant (k + 1)).value

-- the constant of round j, of the rounds 1 to 10
abbrev pub constant_of : ℕ → Option Byte
constant_of j = cond (nat_lt 0 j) (cond (nat_lt 10 j) None (Some (round_constant j))) None
