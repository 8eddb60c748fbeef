-- The laws of the product, over the width w and the feedback r. Assumes nothing.
use Rattle.std.specs.Prelude.{◌≡◌, ℕ, zero, suc, ◌+◌, ◌-◌, ◌*◌, ◌/◌, ◌%◌, ◌^◌, ◌<◌, ◌≤◌, bit_xor}
use Rattle.std.proofs.Math.Path.{refl, sym, ap, ap₂}
use Rattle.std.proofs.Common.{◌∙◌, zero-mul, one-mul, mul-one, add-zero, mod-lt, pow-suc, div-add-mod'}
use Rattle.std.proofs.Math.Nat.{mod-eq_of_lt, div-eq_of_lt}
use native.Mathlib.Omega.{arith}
use Rattle.std.proofs.lemmas.Nat.{xor_comm, xor_block}
use Rattle.std.specs.Int.Bits.{xor_assoc, xor_zero_r, xor_self, xor_lt, xor_mod, xor_shr, xor_shifted}
use Rattle.std.proofs.Math.Pow.{pow_pos, pow-lt}
use Rattle.elements.specs.Field.{pick, double, times}

-- ---- sums

xor_left_comm : (a b c : ℕ) → bit_xor a (bit_xor b c) ≡ bit_xor b (bit_xor a c)
xor_left_comm a b c = sym (xor_assoc a b c) ∙ ap (λ (x : ℕ). bit_xor x c) (xor_comm a b) ∙ xor_assoc b a c

pub xor4 : (a b c d : ℕ) → bit_xor (bit_xor a b) (bit_xor c d) ≡ bit_xor (bit_xor a c) (bit_xor b d)
xor4 a b c d =
    xor_assoc a b (bit_xor c d) ∙ ap (λ (x : ℕ). bit_xor a x) (xor_left_comm b c d) ∙ sym (xor_assoc a c (bit_xor b d))

-- ---- picking by a bit

pub pick_add : (d x y : ℕ) → pick d (bit_xor x y) ≡ bit_xor (pick d x) (pick d y)
pick_add zero x y = refl
pick_add (suc d) x y = refl

pick_bits : (d e x : ℕ) → d < 2 → e < 2 → pick (bit_xor d e) x ≡ bit_xor (pick d x) (pick e x)
pick_bits zero e x hd he = refl
pick_bits (suc zero) zero x hd he = sym (xor_zero_r x)
pick_bits (suc zero) (suc zero) x hd he = sym (xor_self x)
pick_bits (suc zero) (suc (suc e)) x hd he = absurd (omega arith)
pick_bits (suc (suc d)) e x hd he = absurd (omega arith)

pub pick_lt : (d x m : ℕ) → 0 < m → x < m → pick d x < m
pick_lt zero x m hm h = hm
pick_lt (suc d) x m hm h = h

xor_odd : (a b : ℕ) → bit_xor a b % 2 ≡ bit_xor (a % 2) (b % 2)
xor_odd a b = xor_mod a b 1

pub xor_twice : (a b : ℕ) → bit_xor a b * 2 ≡ bit_xor (a * 2) (b * 2)
xor_twice a b =
    sym (add-zero (bit_xor a b * 2))
    ∙ sym (xor_block 1 a b 0 0 (omega arith) (omega arith))
    ∙ ap₂ bit_xor (add-zero (a * 2)) (add-zero (b * 2))

pick_xor : (a b x : ℕ) → pick (bit_xor a b % 2) x ≡ bit_xor (pick (a % 2) x) (pick (b % 2) x)
pick_xor a b x = ap (λ (d : ℕ). pick d x) (xor_odd a b) ∙ pick_bits (a % 2) (b % 2) x (omega arith) (omega arith)

pub pick_mul : (d x : ℕ) → d < 2 → pick d x ≡ d * x
pick_mul zero x h = sym (zero-mul x)
pick_mul (suc zero) x h = sym (one-mul x)
pick_mul (suc (suc d)) x h = absurd (omega arith)

-- a number by its half and its last bit, times p
glue : (a q d p : ℕ) → q * 2 + d ≡ a → q * (p * 2) + d * p ≡ a * p
glue a q d p e = let h : q * (p * 2) + d * p ≡ (q * 2 + d) * p = omega arith in h ∙ ap (λ (n : ℕ). n * p) e

join : (a j : ℕ) → bit_xor (pick (a % 2) (2 ^ j)) (a / 2 * 2 ^ suc j) ≡ a * 2 ^ j
join a j =
    let odd : a % 2 < 2 = omega arith in
    let up : 2 ^ j < 2 ^ suc j = pow-lt (omega arith) in
    xor_comm (pick (a % 2) (2 ^ j)) (a / 2 * 2 ^ suc j)
    ∙ xor_shifted (a / 2) (suc j) (pick (a % 2) (2 ^ j)) (pick_lt (a % 2) (2 ^ j) (2 ^ suc j) (pow_pos (suc j)) up)
    ∙ ap₂ (λ (m n : ℕ). a / 2 * m + n) (pow-suc 2 j) (pick_mul (a % 2) (2 ^ j) odd)
    ∙ glue a (a / 2) (a % 2) (2 ^ j) (div-add-mod' a 2)

-- ---- doubling is additive

-- the code's doubling, by the bit that it shifts out
pub double_by : (w r x d : ℕ) → x * 2 / 2 ^ w % 2 ≡ d → double w r x ≡ bit_xor (x * 2 % 2 ^ w) (pick d r)
unfolding double
double_by w r x d e = ap (λ (n : ℕ). bit_xor (x * 2 % 2 ^ w) (pick n r)) e

module _ (w r : ℕ) where
  pub double_add : (x y : ℕ) → double w r (bit_xor x y) ≡ bit_xor (double w r x) (double w r y)
  unfolding double
  double_add x y =
      ap₂ bit_xor
      (ap (λ (n : ℕ). n % 2 ^ w) (xor_twice x y) ∙ xor_mod (x * 2) (y * 2) w)
      (ap (λ (n : ℕ). pick (n % 2) r) (ap (λ (n : ℕ). n / 2 ^ w) (xor_twice x y) ∙ xor_shr (x * 2) (y * 2) w) ∙ pick_xor (x * 2 / 2 ^ w) (y * 2 / 2 ^ w) r)
      ∙ xor4 (x * 2 % 2 ^ w) (y * 2 % 2 ^ w) (pick (x * 2 / 2 ^ w % 2) r) (pick (y * 2 / 2 ^ w % 2) r)

  pub double_zero : double w r 0 ≡ 0
  double_zero = double_add 0 0 ∙ xor_self (double w r 0)

  double_pick : (d x : ℕ) → double w r (pick d x) ≡ pick d (double w r x)
  double_pick zero x = double_zero
  double_pick (suc d) x = refl

  -- ---- the product is additive on both sides, and products commute with doubling and with one another

  pub times_add : (k a x y : ℕ) → times w r k a (bit_xor x y) ≡ bit_xor (times w r k a x) (times w r k a y)
  unfolding times
  times_add zero a x y = refl
  times_add (suc k) a x y =
      ap₂ bit_xor (pick_add (a % 2) x y)
      (ap (times w r k (a / 2)) (double_add x y) ∙ times_add k (a / 2) (double w r x) (double w r y))
      ∙ xor4 (pick (a % 2) x) (pick (a % 2) y) (times w r k (a / 2) (double w r x)) (times w r k (a / 2) (double w r y))

  pub times_zero : (k a : ℕ) → times w r k a 0 ≡ 0
  times_zero k a = times_add k a 0 0 ∙ xor_self (times w r k a 0)

  times_pick : (k a d x : ℕ) → times w r k a (pick d x) ≡ pick d (times w r k a x)
  times_pick k a zero x = times_zero k a
  times_pick k a (suc d) x = refl

  pub times_double : (k a x : ℕ) → times w r k a (double w r x) ≡ double w r (times w r k a x)
  unfolding times
  times_double zero a x = sym double_zero
  times_double (suc k) a x =
      ap₂ bit_xor (sym (double_pick (a % 2) x)) (times_double k (a / 2) (double w r x))
      ∙ sym (double_add (pick (a % 2) x) (times w r k (a / 2) (double w r x)))

  pub times_times : (k a l b x : ℕ) → times w r k a (times w r l b x) ≡ times w r l b (times w r k a x)
  unfolding times
  times_times zero a l b x = sym (times_zero l b)
  times_times (suc k) a l b x =
      ap₂ bit_xor (sym (times_pick l b (a % 2) x))
      (ap (times w r k (a / 2)) (sym (times_double l b x)) ∙ times_times k (a / 2) l b (double w r x))
      ∙ sym (times_add l b (pick (a % 2) x) (times w r k (a / 2) (double w r x)))

  -- no bit, no product
  pub zero_times : (k x : ℕ) → times w r k 0 x ≡ 0
  unfolding times
  zero_times zero x = refl
  zero_times (suc k) x = zero_times k (double w r x)

  -- ---- every number below 2 ^ w is a sum of z ^ i

  double_pow : (j : ℕ) → suc j < w → double w r (2 ^ j) ≡ 2 ^ suc j
  unfolding double
  double_pow j h =
      let p : 2 ^ suc j < 2 ^ w = pow-lt h in
      let e : 2 ^ j * 2 ≡ 2 ^ suc j = sym (pow-suc 2 j) in
      ap₂ (λ (m d : ℕ). bit_xor m (pick (d % 2) r))
      (ap (λ (n : ℕ). n % 2 ^ w) e ∙ mod-eq_of_lt p)
      (ap (λ (n : ℕ). n / 2 ^ w) e ∙ div-eq_of_lt p)
      ∙ xor_zero_r (2 ^ suc j)

  basis : (k j a : ℕ) → k + j ≤ w → a < 2 ^ k → times w r k a (2 ^ j) ≡ a * 2 ^ j
  unfolding times
  basis zero j a hk ha = let e : 0 ≡ a = omega arith in sym (zero-mul (2 ^ j)) ∙ ap (λ (n : ℕ). n * 2 ^ j) e
  basis (suc zero) j a hk ha =
      let e : a % 2 ≡ a = omega arith in
      xor_zero_r (pick (a % 2) (2 ^ j)) ∙ pick_mul (a % 2) (2 ^ j) (omega arith) ∙ ap (λ (n : ℕ). n * 2 ^ j) e
  basis (suc (suc k)) j a hk ha =
      let half : a / 2 < 2 ^ suc k = omega arith in
      ap₂ bit_xor refl (ap (times w r (suc k) (a / 2)) (double_pow j (omega arith)) ∙ basis (suc k) (suc j) (a / 2) (omega arith) half)
      ∙ join a j

  pub times_one : (a : ℕ) → a < 2 ^ w → times w r w a 1 ≡ a
  times_one a ha = basis w 0 a (omega arith) ha ∙ mul-one a

  pub times_suc : (k a x : ℕ) → times w r (suc k) a x ≡ bit_xor (pick (a % 2) x) (times w r k (a / 2) (double w r x))
  unfolding times
  times_suc k a x = refl

  -- one turn of the loop that adds up the product
  pub times_next : (n i s a x : ℕ) → i < n
      → bit_xor (bit_xor s (pick (a % 2) x)) (times w r (n - (i + 1)) (a / 2) (double w r x)) ≡ bit_xor s (times w r (n - i) a x)
  times_next n i s a x h =
      let e : n - i ≡ suc (n - (i + 1)) = omega arith in
      xor_assoc s (pick (a % 2) x) (times w r (n - (i + 1)) (a / 2) (double w r x))
      ∙ ap (bit_xor s) (sym (times_suc (n - (i + 1)) a x))
      ∙ ap (λ (k : ℕ). bit_xor s (times w r k a x)) (sym e)

  pub times_none : (n s a x : ℕ) → bit_xor s (times w r (n - n) a x) ≡ s
  unfolding times
  times_none n s a x = let e : n - n ≡ 0 = omega arith in ap (λ (k : ℕ). bit_xor s (times w r k a x)) e ∙ xor_zero_r s

  -- ---- closed below 2 ^ w

  module _ (hr : r < 2 ^ w) where
    pub double_lt : (x : ℕ) → double w r x < 2 ^ w
    unfolding double
    double_lt x = xor_lt w (x * 2 % 2 ^ w) (pick (x * 2 / 2 ^ w % 2) r) (mod-lt (x * 2) (pow_pos w)) (pick_lt (x * 2 / 2 ^ w % 2) r (2 ^ w) (pow_pos w) hr)

    pub times_lt : (k a x : ℕ) → x < 2 ^ w → times w r k a x < 2 ^ w
    unfolding times
    times_lt zero a x h = pow_pos w
    times_lt (suc k) a x h =
        xor_lt w (pick (a % 2) x) (times w r k (a / 2) (double w r x)) (pick_lt (a % 2) x (2 ^ w) (pow_pos w) h)
        (times_lt k (a / 2) (double w r x) (double_lt x))

  -- ---- the laws

  pub mul_comm : (a b : ℕ) → a < 2 ^ w → b < 2 ^ w → times w r w a b ≡ times w r w b a
  mul_comm a b ha hb =
      ap (times w r w a) (sym (times_one b hb)) ∙ times_times w a w b 1 ∙ ap (times w r w b) (times_one a ha)

  pub mul_add : (a b c : ℕ) → times w r w a (bit_xor b c) ≡ bit_xor (times w r w a b) (times w r w a c)
  mul_add a b c = times_add w a b c

  pub mul_mul : r < 2 ^ w → (a b c : ℕ) → a < 2 ^ w → b < 2 ^ w → c < 2 ^ w
      → times w r w (times w r w a b) c ≡ times w r w a (times w r w b c)
  mul_mul hr a b c ha hb hc =
      mul_comm (times w r w a b) c (times_lt hr w a b hb) hc
      ∙ times_times w c w a b
      ∙ ap (times w r w a) (mul_comm c b hc hb)

  -- doubling is the product with z
  pub times_two : (k x : ℕ) → times w r (suc (suc k)) 2 x ≡ double w r x
  unfolding times
  times_two k x = ap (bit_xor (double w r x)) (zero_times k (double w r (double w r x))) ∙ xor_zero_r (double w r x)
