-- Enciphering and deciphering undo each other. Assumes nothing.
use Rattle.std.specs.Prelude.{◌≡◌, ℕ, ◌%◌, ◌≤◌, List, length}
use Rattle.std.specs.Int.Digits.{AllBelowBase}
use Rattle.elements.specs.declared.values.Block.{Block}
use Rattle.sector.specs.Texts.{enciphered_bytes, deciphered_bytes}

-- for every block function F, hash g, tweak T and text of two or more whole blocks
pub record Inverse : Type 0 where
  pub deciphers : (F : Block → Block) (g : Block → List Block → Block) (T : Block) (t : List ℕ)
      → 32 ≤ length t → length t % 16 ≡ 0 → AllBelowBase 256 t → deciphered_bytes F g T (enciphered_bytes F g T t) ≡ t
  pub enciphers : (F : Block → Block) (g : Block → List Block → Block) (T : Block) (t : List ℕ)
      → 32 ≤ length t → length t % 16 ≡ 0 → AllBelowBase 256 t → enciphered_bytes F g T (deciphered_bytes F g T t) ≡ t
