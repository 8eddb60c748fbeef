-- The code's values as the definitions'. Assumes nothing.
use Rattle.std.specs.Prelude.{ℕ, List, [], Some, None, Option}
use Rattle.std.specs.Borrow.{Bor}
use Rattle.elements.specs.declared.values.Block.{Block}
use Rattle.text.specs.Hex.{hex_blocks_of}
use Rattle.text.specs.Words.{words}
use Rattle.text.specs.declared.hex.HexBlocks.{HexBlocks}

-- the blocks that lie as digits
abbrev pub blocks_in : HexBlocks → List Block
blocks_in s = hex_blocks_of s.digits.now

-- the words of what is left after a space, and none where no space was
abbrev pub words_left : Option (Bor (List ℕ)) → List (List ℕ)
words_left None = []
words_left (Some t) = words t.now
