-- The sector transform FAST: the five steps and the way back, over any block function F, hash g and tweak T.
-- Assumes nothing.
use Rattle.std.specs.Prelude.{ℕ, suc, List, [], ◌∷◌, ◌++◌, codes}
use Rattle.std.specs.Int.Digits.{number_from_digits}
use Rattle.elements.specs.Values.{block, block_operations}
use Rattle.elements.specs.declared.values.Block.{Block}
use Rattle.sector.specs.declared.text.Front.{Front}

infixl 60 ◌⊕◌
infixl 70 ◌⊗◌
-- the sum and the product of blocks
abbrev pub ◌⊕◌ : Block → Block → Block
◌⊕◌ x y = block_operations.sum x y

abbrev pub ◌⊗◌ : Block → Block → Block
◌⊗◌ x y = block_operations.product x y

-- a text by its blocks: the first two, and the tail from the third on
pub record Text : Type 0 where
  pub front : Front
  pub tail : List Block

-- the block whose bytes are these characters
abbrev pub fixed_block : Block
fixed_block = block (number_from_digits 256 (codes "LENS HEAD SECTOR"))

-- T, the sector number as a 16-byte big-endian number
abbrev pub tweak : ℕ → Block
tweak n = block n

-- the counter of a tail block, its index counted from 1, as a 16-byte big-endian number
abbrev pub counter_block : ℕ → Block
counter_block i = block i

-- step 4: each tail block becomes itself ⊕ F(Z ⊕ i), with i from here on up
abbrev pub counter_mode : (Block → Block) → Block → ℕ → List Block → List Block
counter_mode F Z i [] = []
counter_mode F Z i (b ∷ bs) = (b ⊕ F (Z ⊕ counter_block i)) ∷ counter_mode F Z (suc i) bs

-- the key of the hash, F of the fixed block
abbrev pub hash_key : (Block → Block) → Block
hash_key F = F fixed_block

-- h(M): the key times the hash of the tail M followed by T
unfoldable pub tail_hash : (Block → List Block → Block) → Block → Block → List Block → Block
tail_hash g τ T M = τ ⊗ g τ (M ++ (T ∷ []))

-- the text that P is enciphered to
unfoldable pub enciphered : (Block → Block) → (Block → List Block → Block) → Block → Text → Text
enciphered F g T P =
    let τ : Block = hash_key F in
    let h : List Block → Block = tail_hash g τ T in
    let A1 : Block = P.front.first ⊕ h P.tail in
    let A2 : Block = P.front.second ⊕ τ ⊗ A1 in
    let B1 : Block = A1 ⊕ F A2 in
    let B2 : Block = A2 ⊕ F B1 in
    let Z : Block = B1 ⊕ B2 in
    let tail : List Block = counter_mode F Z 1 P.tail in
    let C2 : Block = B2 ⊕ τ ⊗ h tail in
    let C1 : Block = B1 ⊕ τ ⊗ B2 in
    record { front = record { first = C1; second = C2 }; tail = tail }

-- the text that C is deciphered to
unfoldable pub deciphered : (Block → Block) → (Block → List Block → Block) → Block → Text → Text
deciphered F g T C =
    let τ : Block = hash_key F in
    let h : List Block → Block = tail_hash g τ T in
    let B2 : Block = C.front.second ⊕ τ ⊗ h C.tail in
    let B1 : Block = C.front.first ⊕ τ ⊗ B2 in
    let A2 : Block = B2 ⊕ F B1 in
    let A1 : Block = B1 ⊕ F A2 in
    let Z : Block = B1 ⊕ B2 in
    let tail : List Block = counter_mode F Z 1 C.tail in
    let P2 : Block = A2 ⊕ τ ⊗ A1 in
    let P1 : Block = A1 ⊕ h tail in
    record { front = record { first = P1; second = P2 }; tail = tail }
