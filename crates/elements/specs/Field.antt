-- Polynomials over bits as numbers: bit i is the coefficient of z ^ i, and the sum is the exclusive or. Assumes nothing.
use Rattle.std.specs.Prelude.{ℕ, zero, suc, ◌+◌, ◌*◌, ◌/◌, ◌%◌, ◌^◌, ◌<◌, List, [], ◌∷◌, bit_xor}

-- x where the bit is 1, and nothing where it is 0
abbrev pub pick : ℕ → ℕ → ℕ
pick zero x = 0
pick (suc d) x = x

-- x times z, reduced by z ^ w + r: shifted left by one within w bits, and r added if a 1 fell out
unfoldable pub double : ℕ → ℕ → ℕ → ℕ
double w r x = bit_xor (x * 2 % 2 ^ w) (pick (x * 2 / 2 ^ w % 2) r)

-- by doubling and adding: the sum of x times z ^ i, reduced, over the bits i of a, for i below k
unfoldable pub times : ℕ → ℕ → ℕ → ℕ → ℕ → ℕ
times w r zero a x = 0
times w r (suc k) a x = bit_xor (pick (a % 2) x) (times w r k (a / 2) (double w r x))

-- the product of two polynomials, not reduced: the sum of x times z ^ i over the bits i of a, for i below k
unfoldable pub carryless : ℕ → ℕ → ℕ → ℕ
carryless zero a x = 0
carryless (suc k) a x = bit_xor (pick (a % 2) x) (carryless k (a / 2) (x * 2))

-- the multiples of the polynomial p: the sums of p times powers of z
pub data Multiple (p : ℕ) : ℕ → Type 0 where
  none : Multiple p 0
  plus : (n i : ℕ) → Multiple p n → Multiple p (bit_xor n (p * 2 ^ i))

-- the polynomial whose terms have these exponents, each named once
abbrev pub terms : List ℕ → ℕ
terms [] = 0
terms (i ∷ is) = 2 ^ i + terms is

-- `product` on w bits is the product of polynomials reduced by p: it has no more than w bits, and differs from the
-- product that is not reduced by a multiple of p
pub record Reduced {X : Type 0} (value : X → ℕ) (product : X → X → X) (w p : ℕ) : Type 0 where
  pub below : (x y : X) → value (product x y) < 2 ^ w
  pub congruent : (x y : X) → Multiple p (bit_xor (carryless w (value x) (value y)) (value (product x y)))
