-- The values of bytes and blocks that are made of numbers. Assumes nothing.
use Rattle.std.proofs.Common.{◌≡◌, ℕ, ◌^◌, ◌<◌, ap, ◌∙◌, mod-eq_of_lt}
use Rattle.elements.specs.Values.{byte, block}
use Rattle.elements.specs.declared.values.Byte.{Byte}
use Rattle.elements.specs.declared.values.Block.{Block}

-- the value of a byte that was made of n, which is m and fits
pub byte_of : {x : Byte} {n m : ℕ} → x ≡ byte n → n ≡ m → m < 2 ^ 8 → x.value ≡ m
byte_of e is h = ap (λ (b : Byte). b.value) e ∙ ap (λ (k : ℕ). (byte k).value) is ∙ mod-eq_of_lt h

-- the same of a block
pub block_of : {x : Block} {n m : ℕ} → x ≡ block n → n ≡ m → m < 2 ^ 128 → x.value ≡ m
block_of e is h = ap (λ (b : Block). b.value) e ∙ ap (λ (k : ℕ). (block k).value) is ∙ mod-eq_of_lt h
