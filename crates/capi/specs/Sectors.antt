-- Block functions and hashes by number, and what calls on sectors answer. Assumes nothing.
use Rattle.std.specs.Prelude.{ℕ, Bool, true, cond, List, length, Err, Result, ◌==◌}
use Rattle.elements.specs.declared.values.Block.{Block}
use Rattle.ciphers.specs.Aes.{aes_128}
use Rattle.ciphers.specs.Speck.{speck}
use Rattle.hashing.specs.Hashes.{horner_hash, brw_hash}
use Rattle.sector.specs.Refusals.{answer, answer_number}
use Rattle.sector.specs.Texts.{transformed_bytes}
use Rattle.sector.specs.Transform.{tweak}
use Rattle.sector.specs.declared.refusal.Refusal.{Refusal}
use Rattle.sector.specs.declared.refusal.Refusal.TheVariants.{Figures}
use Rattle.sector.specs.declared.text.Direction.{Direction}
use Rattle.capi.specs.Blocks.{whole}

-- the block function of a number under a key: 1 is AES-128, 2 is Speck128/128
abbrev pub cipher_of : ℕ → List ℕ → Block → Block
cipher_of n key = cond (n == 1) (aes_128 key) (speck key)

-- the hash of a number: 1 is the Horner hash, 2 the BRW hash
abbrev pub hash_of : ℕ → Block → List Block → Block
hash_of n = cond (n == 1) horner_hash brw_hash

-- a number that names a block function or a hash
abbrev pub named : ℕ → Bool
named n = cond (n == 1) true (n == 2)

-- what a call answers: refused for an unknown block function or hash or the wrong length of a key, else as the transform does
abbrev pub sector_result : ℕ → ℕ → List ℕ → List ℕ → List ℕ → List ℕ → Result (Unit {0}) Refusal
sector_result cipher hash key text output working =
    cond (named cipher) (cond (whole key) (cond (named hash) (answer (length text) (length output) (length working)) (Err Figures)) (Err Figures)) (Err Figures)

-- the same by numbers: 6 for an unknown block function or hash or the wrong length of a key
abbrev pub sector_answer : ℕ → ℕ → List ℕ → List ℕ → List ℕ → List ℕ → ℕ
sector_answer cipher hash key text output working = answer_number (sector_result cipher hash key text output working)

-- what the output holds after a call that gave this answer
abbrev pub transformed_or : ℕ → Direction → (Block → Block) → (Block → List Block → Block) → ℕ → List ℕ → List ℕ → List ℕ
transformed_or a direction F g sector text before = cond (a == 0) (transformed_bytes direction F g (tweak sector) text) before
