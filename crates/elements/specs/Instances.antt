-- Bytes, blocks and degrees keep the laws of elements. Assumes nothing.
use Rattle.std.specs.Prelude.{◌≡◌, ℕ, ◌^◌, ◌<◌, Some, None, Option, refl}
use Rattle.std.proofs.Common.{ap, ◌∙◌, mod-eq_of_lt, arith, lit<, pow_pos}
use mathlib.Core.HLevel.{is_prop→PathP}
use Rattle.std.proofs.Math.Bridge.{le_prop}
use Rattle.std.specs.Int.Bits.{bit_xor, xor_assoc}
use Rattle.std.proofs.lemmas.Nat.{xor_comm, xor_lt}
use Rattle.elements.specs.Field.{times}
use Rattle.elements.specs.Operations.{Operations, Laws}
use Rattle.elements.specs.Degrees.{number, capped, larger, added}
use Rattle.elements.specs.Values.{byte, byte_operations, block, block_operations, degree, degree_operations}
use Rattle.elements.specs.declared.values.Byte.{Byte}
use Rattle.elements.specs.declared.values.Block.{Block}
use Rattle.elements.specs.declared.values.Degree.{Degree}
use Rattle.elements.specs.Powers.{mul_comm, mul_mul, mul_add, times_one, times_lt, zero_times}
use Rattle.elements.specs.Transport.{LawsOn, lawful}

-- ---- every width and feedback

-- the operations on the numbers below 2 ^ w
abbrev numbers : ℕ → ℕ → Operations ℕ
numbers w r = record { zero = 0; one = 1; sum = bit_xor; product = times w r w }

field_laws : (w r : ℕ) → r < 2 ^ w → 1 < 2 ^ w → LawsOn (λ n. n < 2 ^ w) (numbers w r)
field_laws w r hr h1 = record {
  sum_fits = xor_lt w;
  product_fits = λ x y hx hy. times_lt w r hr w x y hy;
  zero_fits = pow_pos w;
  one_fits = h1;
  sum_assoc = λ x y z hx hy hz. xor_assoc x y z;
  sum_comm = λ x y hx hy. xor_comm x y;
  sum_zero = λ x hx. refl;
  product_assoc = mul_mul w r hr;
  product_comm = mul_comm w r;
  product_one = λ x hx. mul_comm w r 1 x h1 hx ∙ times_one w r x hx;
  product_zero = λ x hx. zero_times w r w x;
  distributes = λ x y z hx hy hz. mul_add w r x y z;
}

-- ---- bytes

byte_path : (x y : Byte) → x.value ≡ y.value → x ≡ y
byte_path x y p = λ i. record { value = p i; fits = is_prop→PathP (λ j. p j < 2 ^ 8) (λ j. le_prop) x.fits y.fits i }

-- a byte is the byte of its value
pub byte_whole : (x : Byte) → byte x.value ≡ x
byte_whole x = byte_path (byte x.value) x (mod-eq_of_lt x.fits)

pub byte_laws : Laws byte_operations
byte_laws = lawful (λ n. n < 2 ^ 8) (λ (x : Byte). x.value) byte (λ x. x.fits) (λ n h. mod-eq_of_lt h) byte_whole
    (numbers 8 0x1b) (field_laws 8 0x1b (lit< tt) (lit< tt))

-- ---- blocks

block_path : (x y : Block) → x.value ≡ y.value → x ≡ y
block_path x y p = λ i. record { value = p i; fits = is_prop→PathP (λ j. p j < 2 ^ 128) (λ j. le_prop) x.fits y.fits i }

-- a block is the block of its value
pub block_whole : (x : Block) → block x.value ≡ x
block_whole x = block_path (block x.value) x (mod-eq_of_lt x.fits)

pub block_laws : Laws block_operations
block_laws = lawful (λ n. n < 2 ^ 128) (λ (x : Block). x.value) block (λ x. x.fits) (λ n h. mod-eq_of_lt h) block_whole
    (numbers 128 0x87) (field_laws 128 0x87 (lit< tt) (lit< tt))

-- ---- degrees

degree_path : (x y : Degree) → x.value ≡ y.value → x ≡ y
degree_path x y p = λ i. record { value = p i; fits = is_prop→PathP (λ j. number (p j) < 2 ^ 32) (λ j. le_prop) x.fits y.fits i }

capped_whole : (o : Option ℕ) → number o < 2 ^ 32 → capped o ≡ o
capped_whole None h = refl
capped_whole (Some n) h = ap {B = Option ℕ} Some (omega arith)

pub degree_whole : (x : Degree) → degree x.value ≡ x
degree_whole x = degree_path (degree x.value) x (capped_whole x.value x.fits)

larger_small : (x y : Option ℕ) → number x < 2 ^ 32 → number y < 2 ^ 32 → number (larger x y) < 2 ^ 32
larger_small None y hx hy = hy
larger_small (Some a) None hx hy = hx
larger_small (Some a) (Some b) hx hy = omega arith

added_small : (x y : Option ℕ) → number x < 2 ^ 32 → number y < 2 ^ 32 → number (added x y) < 2 ^ 32
added_small None y hx hy = omega arith
added_small (Some a) None hx hy = omega arith
added_small (Some a) (Some b) hx hy = omega arith

larger_assoc : (x y z : Option ℕ) → larger (larger x y) z ≡ larger x (larger y z)
larger_assoc None y z = refl
larger_assoc (Some a) None z = refl
larger_assoc (Some a) (Some b) None = refl
larger_assoc (Some a) (Some b) (Some c) = ap {B = Option ℕ} Some (omega arith)

larger_comm : (x y : Option ℕ) → larger x y ≡ larger y x
larger_comm None None = refl
larger_comm None (Some b) = refl
larger_comm (Some a) None = refl
larger_comm (Some a) (Some b) = ap {B = Option ℕ} Some (omega arith)

added_assoc : (x y z : Option ℕ) → added (added x y) z ≡ added x (added y z)
added_assoc None y z = refl
added_assoc (Some a) None z = refl
added_assoc (Some a) (Some b) None = refl
added_assoc (Some a) (Some b) (Some c) = ap {B = Option ℕ} Some (omega arith)

added_comm : (x y : Option ℕ) → added x y ≡ added y x
added_comm None None = refl
added_comm None (Some b) = refl
added_comm (Some a) None = refl
added_comm (Some a) (Some b) = ap {B = Option ℕ} Some (omega arith)

added_one : (x : Option ℕ) → number x < 2 ^ 32 → added (Some 0) x ≡ x
added_one None h = refl
added_one (Some a) h = ap {B = Option ℕ} Some (omega arith)

added_larger : (x y z : Option ℕ) → added x (larger y z) ≡ larger (added x y) (added x z)
added_larger None y z = refl
added_larger (Some a) None z = refl
added_larger (Some a) (Some b) None = refl
added_larger (Some a) (Some b) (Some c) = ap {B = Option ℕ} Some (omega arith)

pub degree_laws : Laws degree_operations
degree_laws = lawful (λ o. number o < 2 ^ 32) (λ (x : Degree). x.value) degree (λ x. x.fits) capped_whole degree_whole
    (record { zero = None; one = Some 0; sum = larger; product = added })
    (record {
      sum_fits = larger_small;
      product_fits = added_small;
      zero_fits = lit< tt;
      one_fits = lit< tt;
      sum_assoc = λ x y z hx hy hz. larger_assoc x y z;
      sum_comm = λ x y hx hy. larger_comm x y;
      sum_zero = λ x hx. refl;
      product_assoc = λ x y z hx hy hz. added_assoc x y z;
      product_comm = λ x y hx hy. added_comm x y;
      product_one = added_one;
      product_zero = λ x hx. refl;
      distributes = λ x y z hx hy hz. added_larger x y z;
    })
