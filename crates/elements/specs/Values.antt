-- Bytes, blocks and degrees with their operations. Assumes nothing.
use Rattle.std.specs.Prelude.{ℕ, ◌%◌, ◌^◌, ◌<◌, List, Some, None, codes, decimal, Option, bit_xor}
use Rattle.std.proofs.Common.{mod-lt, arith, lit<, pow_pos}
use Rattle.elements.specs.Degrees.{number, capped, larger, added}
use Rattle.elements.specs.Field.{double, times}
use Rattle.elements.specs.Operations.{Operations}
use Rattle.elements.specs.declared.values.Block.{Block}
use Rattle.elements.specs.declared.values.Byte.{Byte}
use Rattle.elements.specs.declared.values.Degree.{Degree}

-- the binary field of the polynomials reduced by z ^ w + r, of a type whose elements are made of their bits
abbrev pub field_operations : {E : Type 0} → ℕ → ℕ → (E → ℕ) → (ℕ → E) → Operations E
field_operations w r bits of = record {
  zero = of 0;
  one = of 1;
  sum = λ x y. of (bit_xor (bits x) (bits y));
  product = λ x y. of (times w r w (bits x) (bits y));
}

-- the byte of a number, of which the low 8 bits count
abbrev pub byte : ℕ → Byte
byte n = record { value = n % 2 ^ 8; fits = mod-lt n (pow_pos 8) }

-- the product is reduced by z^8 + z^4 + z^3 + z + 1
abbrev pub byte_operations : Operations Byte
byte_operations = field_operations 8 0x1b (λ (x : Byte). x.value) byte

-- the block of a number, of which the low 128 bits count
abbrev pub block : ℕ → Block
block n = record { value = n % 2 ^ 128; fits = mod-lt n (pow_pos 128) }

-- the block times z
abbrev pub block_double : Block → Block
block_double x = block (double 128 0x87 x.value)

-- the product is reduced by z^128 + z^7 + z^2 + z + 1
abbrev pub block_operations : Operations Block
block_operations = field_operations 128 0x87 (λ (x : Block). x.value) block

pub capped_fits : (o : Option ℕ) → number (capped o) < 2 ^ 32
capped_fits None = lit< tt
capped_fits (Some n) = omega arith

-- the degree of a number, which stops at the largest, or of none
abbrev pub degree : Option ℕ → Degree
degree o = record { value = capped o; fits = capped_fits o }

-- the sum is the larger, the product adds; absent is zero, and 0 is one
abbrev pub degree_operations : Operations Degree
degree_operations = record {
  zero = degree None;
  one = degree (Some 0);
  sum = λ x y. degree (larger x.value y.value);
  product = λ x y. degree (added x.value y.value);
}

-- a degree as text: its decimal digits, or a dash where it is absent
abbrev pub degree_text : Degree → List ℕ
degree_text x = elim x.value [ Some n ↦ decimal n | None ↦ codes "-" ]
