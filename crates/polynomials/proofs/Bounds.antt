-- The degree of BRW. Assumes nothing.
use Rattle.std.proofs.Common.{◌≡◌, ℕ, zero, suc, ◌+◌, ◌-◌, ◌*◌, ◌^◌, ◌<◌, ◌≤◌, max, List, length, get_or, replicate, Some, None, Option, sym, refl, ap, ◌∙◌, subst, ap₂, arith, pow_pos, pow_mono}
use Rattle.std.proofs.lemmas.List.{length-replicate, take-replicate, drop-replicate, get_or-replicate}
use Rattle.elements.specs.Degrees.{number, capped, larger, added}
use Rattle.elements.specs.Values.{degree, degree_operations}
use Rattle.elements.specs.declared.values.Degree.{Degree}
use Rattle.polynomials.specs.Sums.{log2, power, brw_to, brw}
use Rattle.polynomials.specs.Degrees.{brw_degree, BrwDegreeBound}
use Rattle.polynomials.proofs.Brw.{brw_more}
use Rattle.polynomials.proofs.Logs.{log2_low, log2_high, exponent_lt}

capped_le : (o : Option ℕ) → number (capped o) ≤ number o
capped_le None = omega arith
capped_le (Some n) = omega arith

larger_le : (x y : Option ℕ) → number (larger x y) ≤ max (number x) (number y)
larger_le None y = omega arith
larger_le (Some a) None = omega arith
larger_le (Some a) (Some b) = omega arith

added_le : (x y : Option ℕ) → number (added x y) ≤ number x + number y
added_le None y = omega arith
added_le (Some a) None = omega arith
added_le (Some a) (Some b) = omega arith

deg : Degree → ℕ
deg x = number x.value

infixl 60 ◌⊕◌
infixl 70 ◌⊗◌
abbrev ◌⊕◌ : Degree → Degree → Degree
◌⊕◌ x y = degree_operations.sum x y

abbrev ◌⊗◌ : Degree → Degree → Degree
◌⊗◌ x y = degree_operations.product x y

sum_le : (x y : Degree) → deg (x ⊕ y) ≤ max (deg x) (deg y)
unfolding deg
sum_le x y = omega (arith, capped_le (larger x.value y.value), larger_le x.value y.value)

product_le : (x y : Degree) → deg (x ⊗ y) ≤ deg x + deg y
unfolding deg
product_le x y = omega (arith, capped_le (added x.value y.value), added_le x.value y.value)

-- the key to the power t
key_to : ℕ → Degree
key_to = power degree_operations (degree (Some 1))

power_le : (t : ℕ) → deg (key_to t) ≤ t
unfolding key_to deg
power_le zero = omega arith
power_le (suc t) = omega (arith, product_le (degree (Some 1)) (key_to t), power_le t)

step : (m k : ℕ) → 4 ≤ m → log2 m ≡ k → 2 ^ k ≤ m
    → brw_degree m ≡ brw_degree (2 ^ k - 1) ⊗ (degree (Some 0) ⊕ key_to (2 ^ k)) ⊕ brw_degree (m - 2 ^ k)
unfolding key_to
step m k four e le =
    let flat : Degree = degree (Some 0) in
    let rows : ℕ → List Degree = λ n. replicate n flat in
    let B : List Degree → Degree = brw degree_operations (degree (Some 1)) in
    let t : ℕ = 2 ^ k in
    let pos : 1 ≤ t = pow_pos k in
    let len : length (rows m) ≡ m = length-replicate m flat in
    brw_more degree_operations (degree (Some 1)) (rows m) k (omega arith) (ap log2 len ∙ e)
    ∙ ap₂ (λ (u v : List Degree). B u ⊗ (get_or (rows m) (t - 1) (degree None) ⊕ key_to t) ⊕ B v)
    (take-replicate (t - 1) m flat (omega arith)) (drop-replicate t m flat)
    ∙ ap (λ (x : Degree). B (rows (t - 1)) ⊗ (x ⊕ key_to t) ⊕ B (rows (m - t))) (get_or-replicate m (t - 1) flat (degree None) (omega arith))

joins : (t k : ℕ) (a b : Degree) → deg a < t → deg b < t → 2 * t ≤ 2 ^ k → deg (a ⊗ (degree (Some 0) ⊕ key_to t) ⊕ b) < 2 ^ k
unfolding deg
joins t k a b ha hb room =
    omega (
      arith,
      sum_le (a ⊗ (degree (Some 0) ⊕ key_to t)) b,
      product_le a (degree (Some 0) ⊕ key_to t),
      sum_le (degree (Some 0)) (key_to t),
      power_le t,
    )

-- of fewer than 2 ^ k blocks the degree is below 2 ^ k
below : (n m k : ℕ) → m ≤ n → m < 2 ^ k → deg (brw_degree m) < 2 ^ k
unfolding deg brw brw_to
below n zero k hn hk = hk
below n (suc zero) k hn hk = omega arith
below n (suc (suc zero)) k hn hk = omega arith
below n (suc (suc (suc zero))) k hn hk = omega arith
below zero (suc (suc (suc (suc m)))) k hn hk = absurd (omega arith)
below (suc n) (suc (suc (suc (suc m)))) k hn hk =
    let M : ℕ = suc (suc (suc (suc m))) in
    let j : ℕ = log2 M in
    let pos : 1 ≤ 2 ^ j = pow_pos j in
    let lo : 2 ^ j ≤ M = log2_low M (omega arith) in
    let hi : M < 2 * 2 ^ j = log2_high M in
    let front : deg (brw_degree (2 ^ j - 1)) < 2 ^ j = below n (2 ^ j - 1) j (omega arith) (omega arith) in
    let back : deg (brw_degree (M - 2 ^ j)) < 2 ^ j = below n (M - 2 ^ j) j (omega arith) (omega arith) in
    let room : 2 ^ suc j ≤ 2 ^ k = pow_mono (exponent_lt M j k lo hk) in
    subst (λ (x : Degree). number x.value < 2 ^ k) (sym (step M j (omega arith) refl lo))
    (joins (2 ^ j) k (brw_degree (2 ^ j - 1)) (brw_degree (M - 2 ^ j)) front back (omega arith))

pub brw_degree_bound : BrwDegreeBound
unfolding deg
brw_degree_bound m h =
    let j : ℕ = log2 m in
    let b : deg (brw_degree m) < 2 ^ suc j = below m m (suc j) (omega arith) (omega (arith, log2_high m)) in
    omega (arith, b, log2_low m (omega arith))
