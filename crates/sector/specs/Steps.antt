-- The steps of the transform as the code shares them between the two directions. Assumes nothing.
use Rattle.std.specs.Prelude.{List}
use Rattle.elements.specs.declared.values.Block.{Block}
use Rattle.sector.specs.declared.text.Direction.{Direction}
use Rattle.sector.specs.declared.text.Direction.TheVariants.{Encipher, Decipher}
use Rattle.sector.specs.declared.text.Front.{Front}
use Rattle.sector.specs.Transform.{◌⊕◌, ◌⊗◌, Text, counter_mode, hash_key, tail_hash}

-- step 2, P to A, with the hash h of the tail; and back
abbrev pub masked : Block → Block → Front → Front
masked τ h p = record { first = p.first ⊕ h; second = p.second ⊕ τ ⊗ (p.first ⊕ h) }

abbrev pub unmasked : Block → Block → Front → Front
unmasked τ h a = record { first = a.first ⊕ h; second = a.second ⊕ τ ⊗ a.first }

-- step 3, A to B; and back
abbrev pub feistel : (Block → Block) → Front → Front
feistel F a = record { first = a.first ⊕ F a.second; second = a.second ⊕ F (a.first ⊕ F a.second) }

abbrev pub feistel_back : (Block → Block) → Front → Front
feistel_back F b = record { first = b.first ⊕ F (b.second ⊕ F b.first); second = b.second ⊕ F b.first }

-- step 5, B to C, with the hash h of the tail; and back
abbrev pub blended : Block → Block → Front → Front
blended τ h b = record { first = b.first ⊕ τ ⊗ b.second; second = b.second ⊕ τ ⊗ h }

abbrev pub unblended : Block → Block → Front → Front
unblended τ h c = record { first = c.first ⊕ τ ⊗ (c.second ⊕ τ ⊗ h); second = c.second ⊕ τ ⊗ h }

-- from the front of a text, with the hash of its tail, to B
abbrev pub to_middle : Direction → (Block → Block) → Block → Block → Front → Front
to_middle Encipher F τ h p = feistel F (masked τ h p)
to_middle Decipher F τ h c = unblended τ h c

-- from B, with the hash of the new tail, to the new front
abbrev pub from_middle : Direction → (Block → Block) → Block → Block → Front → Front
from_middle Encipher F τ h b = blended τ h b
from_middle Decipher F τ h b = unmasked τ h (feistel_back F b)

-- the new text from B and the tail
unfoldable pub finished : Direction → (Block → Block) → (Block → List Block → Block) → Block → Front → List Block → Text
finished d F g T b M =
    record {
      front = from_middle d F (hash_key F) (tail_hash g (hash_key F) T (counter_mode F (b.first ⊕ b.second) 1 M)) b;
      tail = counter_mode F (b.first ⊕ b.second) 1 M;
    }

-- the transform of a text in a direction
unfoldable pub transformed : Direction → (Block → Block) → (Block → List Block → Block) → Block → Text → Text
transformed d F g T p = finished d F g T (to_middle d F (hash_key F) (tail_hash g (hash_key F) T p.tail) p.front) p.tail
