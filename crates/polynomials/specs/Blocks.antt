-- A text of bytes as blocks of 16. Assumes nothing.
use Rattle.std.specs.Prelude.{ℕ, zero, suc, ◌/◌, List, [], ◌∷◌, length, take, drop}
use Rattle.std.specs.Int.Digits.{number_from_digits}
use Rattle.elements.specs.Values.{block}
use Rattle.elements.specs.declared.values.Block.{Block}

-- the first n blocks of a text
abbrev pub blocks : ℕ → List ℕ → List Block
blocks zero t = []
blocks (suc n) t = block (number_from_digits 256 (take 16 t)) ∷ blocks n (drop 16 t)

-- the blocks of a text, but for what is left over at its end
abbrev pub blocks_of : List ℕ → List Block
blocks_of t = blocks (length t / 16) t
