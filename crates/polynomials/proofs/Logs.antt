-- The binary logarithm, rounded down. Assumes nothing.
use Rattle.std.proofs.Common.{◌≡◌, ℕ, zero, suc, ◌+◌, ◌*◌, ◌^◌, ◌<◌, ◌≤◌, Bool, true, false, leb, ◌⊎◌, sym, refl, ap, ◌∙◌, subst, inl, inr, add-one, arith, pow_pos, pow_mono}
use Rattle.std.proofs.lemmas.Bool.{leb-true, leb-false, cases_lt}
use Rattle.polynomials.specs.Sums.{log2_to, log2, levels, LargestPower}

below_pow : (k : ℕ) → k < 2 ^ k
below_pow zero = omega arith
below_pow (suc k) = let h : k < 2 ^ k = below_pow k in omega arith

low : (n m : ℕ) → 1 ≤ m → 2 ^ log2_to n m ≤ m
unfolding log2_to
low zero m h = h
low (suc n) m h = go (leb (2 ^ suc n) m) refl (low n m h)
  where
    go : (b : Bool) → leb (2 ^ suc n) m ≡ b → 2 ^ log2_to n m ≤ m → 2 ^ (elim b [ true ↦ suc n | false ↦ log2_to n m ]) ≤ m
    go true e ih = leb-true (2 ^ suc n) m e
    go false e ih = ih

high : (n m : ℕ) → m < 2 * 2 ^ n → m < 2 * 2 ^ log2_to n m
unfolding log2_to
high zero m h = h
high (suc n) m h = go (leb (2 ^ suc n) m) refl (high n m)
  where
    go : (b : Bool) → leb (2 ^ suc n) m ≡ b → (m < 2 * 2 ^ n → m < 2 * 2 ^ log2_to n m) → m < 2 * 2 ^ (elim b [ true ↦ suc n | false ↦ log2_to n m ])
    go true e ih = h
    go false e ih = ih (omega (arith, leb-false (2 ^ suc n) m e))

pub exponent_lt : (m i k : ℕ) → 2 ^ i ≤ m → m < 2 ^ k → i < k
exponent_lt m i k lo hi = go (cases_lt i k)
  where
    go : (i < k) ⊎ (k ≤ i) → i < k
    go (inl h) = h
    go (inr h) = let p : 2 ^ k ≤ 2 ^ i = pow_mono h in absurd (omega arith)

pub log2_low : (m : ℕ) → 1 ≤ m → 2 ^ log2 m ≤ m
unfolding log2
log2_low m h = low m m h

pub log2_high : (m : ℕ) → m < 2 * 2 ^ log2 m
unfolding log2
log2_high m = let p : m < 2 ^ m = below_pow m in high m m (omega arith)

-- there is one such number
pub log2_is : (m k : ℕ) → 2 ^ k ≤ m → m < 2 * 2 ^ k → log2 m ≡ k
log2_is m k lo hi =
    let pos : 1 ≤ 2 ^ k = pow_pos k in
    let a : log2 m < suc k = exponent_lt m (log2 m) (suc k) (log2_low m (omega arith)) (omega arith) in
    let b : k < suc (log2 m) = exponent_lt m k (suc (log2 m)) lo (omega (arith, log2_high m)) in
    omega arith

-- 2 ^ log2 m is the largest power of two not above m
pub largest_power : (m : ℕ) → 1 ≤ m → LargestPower (2 ^ log2 m) m
largest_power m h = record { exponent = log2 m; power_of_two = refl; not_above = log2_low m h; largest = log2_high m }

-- and the only one
pub largest_is : (m p : ℕ) → LargestPower p m → p ≡ 2 ^ log2 m
largest_is m p is =
    let e = is.power_of_two in
    let lo : 2 ^ is.exponent ≤ m = omega (arith, e, is.not_above) in
    let hi : m < 2 * 2 ^ is.exponent = omega (arith, e, is.largest) in
    e ∙ ap (λ (k : ℕ). 2 ^ k) (sym (log2_is m is.exponent lo hi))

-- ---- the number of powers

levels_by : (m : ℕ) (b : Bool) → leb 3 m ≡ b → levels m ≡ elim b [ true ↦ suc (log2 m) | false ↦ 1 ]
unfolding levels
levels_by m b e = ap (λ (x : Bool). elim x [ true ↦ suc (log2 m) | false ↦ 1 ]) e

pub levels_many : (m k : ℕ) → 3 ≤ m → 2 ^ k ≤ m → m < 2 * 2 ^ k → k + 1 ≡ levels m
levels_many m k h lo hi = go (leb 3 m) refl
  where
    go : (b : Bool) → leb 3 m ≡ b → k + 1 ≡ levels m
    go true e = add-one k ∙ ap suc (sym (log2_is m k lo hi)) ∙ sym (levels_by m true e)
    go false e = absurd (omega (arith, leb-false 3 m e))

pub levels_few : (m : ℕ) → m < 3 → 1 ≡ levels m
levels_few m h = go (leb 3 m) refl
  where
    go : (b : Bool) → leb 3 m ≡ b → 1 ≡ levels m
    go true e = absurd (omega (arith, leb-true 3 m e))
    go false e = sym (levels_by m false e)

-- so many powers are enough
pub levels_enough : (m : ℕ) → 3 ≤ m → m < 2 ^ levels m
levels_enough m h = go (leb 3 m) refl
  where
    go : (b : Bool) → leb 3 m ≡ b → m < 2 ^ levels m
    go true e = subst (λ (k : ℕ). m < 2 ^ k) (sym (levels_by m true e)) (omega (arith, log2_high m))
    go false e = absurd (omega (arith, leb-false 3 m e))

-- 64 places are enough for a list that a machine holds
pub levels_le : (m : ℕ) → m < 2 ^ 64 → levels m ≤ 64
levels_le m h = go (leb 3 m) refl
  where
    go : (b : Bool) → leb 3 m ≡ b → levels m ≤ 64
    go true e = let l : log2 m < 64 = exponent_lt m (log2 m) 64 (log2_low m (omega (arith, leb-true 3 m e))) h in omega (arith, levels_by m true e)
    go false e = omega (arith, levels_by m false e)
