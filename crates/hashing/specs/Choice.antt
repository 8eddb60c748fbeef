-- A hash that is chosen at run time. Assumes nothing.
use Rattle.std.specs.Prelude.{ℕ, cond, ◌==◌, List, Option, Some, None}
use Rattle.elements.specs.declared.values.Block.{Block}
use Rattle.hashing.specs.Hashes.{horner_hash, brw_hash}
use Rattle.hashing.specs.declared.choice.AnyHash.{AnyHash}
use Rattle.hashing.specs.declared.choice.AnyHash.TheVariants.{Horner, Brw}

-- the function that a hash is
abbrev pub hash_of : AnyHash → Block → List Block → Block
hash_of Horner = horner_hash
hash_of Brw = brw_hash

-- the hash of a number
abbrev pub hash_numbered : ℕ → Option AnyHash
hash_numbered n = cond (n == 1) (Some Horner) (cond (n == 2) (Some Brw) None)
