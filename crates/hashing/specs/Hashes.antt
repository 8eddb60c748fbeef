-- The two hashes of a key and a list of blocks. Assumes nothing.
use Rattle.std.specs.Prelude.{List, ◌∷◌}
use Rattle.elements.specs.Values.{block, block_operations}
use Rattle.elements.specs.declared.values.Block.{Block}
use Rattle.polynomials.specs.Sums.{horner, brw}

-- Horner of the list with a 1 put before it
abbrev pub horner_hash : Block → List Block → Block
horner_hash τ xs = horner block_operations τ (block 1 ∷ xs)

-- BRW of the list
abbrev pub brw_hash : Block → List Block → Block
brw_hash τ xs = brw block_operations τ xs
