-- The product by doubling and adding is that of polynomials, reduced by z ^ w + r. Assumes nothing.
use Rattle.std.proofs.Common.{◌≡◌, ℕ, zero, suc, ◌+◌, ◌*◌, ◌/◌, ◌%◌, ◌^◌, ◌<◌, sym, refl, ap, ◌∙◌, subst, ap₂, mod-lt, mod-eq_of_lt, mul_assoc, one-mul, pow-suc, mul-one, arith, pow_pos}
use lib.Bits.{bit_xor, xor_comm, xor_assoc, xor_zero_r, xor_self, xor_shifted}
use lib.Pow.{split}
use Rattle.std.proofs.lemmas.Nat.{div_below}
use Rattle.elements.specs.Field.{pick, double, times, carryless, Multiple, none, plus, Reduced}
use Rattle.elements.specs.Powers.{xor4, pick_add, pick_mul, xor_twice, double_lt}

carryless_add : (k a x y : ℕ) → carryless k a (bit_xor x y) ≡ bit_xor (carryless k a x) (carryless k a y)
unfolding carryless
carryless_add zero a x y = refl
carryless_add (suc k) a x y =
    ap₂ bit_xor (pick_add (a % 2) x y) (ap (carryless k (a / 2)) (xor_twice x y) ∙ carryless_add k (a / 2) (x * 2) (y * 2))
    ∙ xor4 (pick (a % 2) x) (pick (a % 2) y) (carryless k (a / 2) (x * 2)) (carryless k (a / 2) (y * 2))

carryless_zero : (k a : ℕ) → carryless k a 0 ≡ 0
carryless_zero k a = carryless_add k a 0 0 ∙ xor_self (carryless k a 0)

module _ (p : ℕ) where
  multiple_add : (m n : ℕ) → Multiple p m → Multiple p n → Multiple p (bit_xor m n)
  multiple_add m _ hm none = subst (Multiple p) (sym (xor_zero_r m)) hm
  multiple_add m _ hm (plus n i hn) = subst (Multiple p) (xor_assoc m n (p * 2 ^ i)) (plus (bit_xor m n) i (multiple_add m n hm hn))

  multiple_pick : (d i : ℕ) → Multiple p (pick d (p * 2 ^ i))
  multiple_pick zero i = none
  multiple_pick (suc d) i = plus 0 i none

  multiple_times : (k a i : ℕ) → Multiple p (carryless k a (p * 2 ^ i))
  unfolding carryless
  multiple_times zero a i = none
  multiple_times (suc k) a i =
      let e : p * 2 ^ i * 2 ≡ p * 2 ^ suc i = mul_assoc p (2 ^ i) 2 ∙ ap (λ (n : ℕ). p * n) (sym (pow-suc 2 i)) in
      multiple_add (pick (a % 2) (p * 2 ^ i)) (carryless k (a / 2) (p * 2 ^ i * 2)) (multiple_pick (a % 2) i)
      (subst (λ (n : ℕ). Multiple p (carryless k (a / 2) n)) (sym e) (multiple_times k (a / 2) (suc i)))

  multiple_pick_times : (k a d : ℕ) → Multiple p (carryless k a (pick d p))
  multiple_pick_times k a zero = subst (Multiple p) (sym (carryless_zero k a)) none
  multiple_pick_times k a (suc d) = subst (λ (n : ℕ). Multiple p (carryless k a n)) (mul-one p) (multiple_times k a 0)

-- (u ⊕ v) ⊕ (u ⊕ w) is v ⊕ w
cancel : (u v w : ℕ) → bit_xor (bit_xor u v) (bit_xor u w) ≡ bit_xor v w
cancel u v w = xor4 u v u w ∙ ap (λ (n : ℕ). bit_xor n (bit_xor v w)) (xor_self u)

swap : (u v w : ℕ) → bit_xor (bit_xor u v) w ≡ bit_xor (bit_xor u w) v
swap u v w = xor_assoc u v w ∙ ap (bit_xor u) (xor_comm v w) ∙ sym (xor_assoc u w v)

module _ (w r : ℕ) (hr : r < 2 ^ w) where
  -- a doubling, by what it takes away
  double_takes : (x : ℕ) → x < 2 ^ w → x * 2 ≡ bit_xor (double w r x) (pick (x * 2 / 2 ^ w % 2) (2 ^ w + r))
  unfolding double
  double_takes x h =
      let q : ℕ = x * 2 / 2 ^ w in
      let lo : ℕ = x * 2 % 2 ^ w in
      let small : q < 2 = div_below (x * 2) (2 ^ w) 2 (pow_pos w) (omega arith) in
      let bit : q % 2 ≡ q = mod-eq_of_lt small in
      let d : ℕ = q % 2 in
      let modulus : 2 ^ w + r ≡ bit_xor (2 ^ w) r = sym (ap (λ (n : ℕ). bit_xor n r) (sym (one-mul (2 ^ w))) ∙ xor_shifted 1 w r hr ∙ ap (λ (n : ℕ). n + r) (one-mul (2 ^ w))) in
      let shifted : pick d (2 ^ w) ≡ q * 2 ^ w = ap (λ (n : ℕ). pick n (2 ^ w)) bit ∙ pick_mul q (2 ^ w) small in
      sym (ap (bit_xor (bit_xor lo (pick d r))) (ap (pick d) modulus ∙ pick_add d (2 ^ w) r)
      ∙ xor4 lo (pick d r) (pick d (2 ^ w)) (pick d r)
      ∙ ap (bit_xor (bit_xor lo (pick d (2 ^ w)))) (xor_self (pick d r))
      ∙ xor_zero_r (bit_xor lo (pick d (2 ^ w)))
      ∙ ap (bit_xor lo) shifted ∙ xor_comm lo (q * 2 ^ w)
      ∙ xor_shifted q w lo (mod-lt (x * 2) (pow_pos w)) ∙ split (x * 2) w)

  reduces : (k a x : ℕ) → x < 2 ^ w → Multiple (2 ^ w + r) (bit_xor (carryless k a x) (times w r k a x))
  unfolding carryless times
  reduces zero a x h = none
  reduces (suc k) a x h =
      let d : ℕ = x * 2 / 2 ^ w % 2 in
      let y : ℕ = double w r x in
      let e : bit_xor (carryless k (a / 2) (x * 2)) (times w r k (a / 2) y)
      ≡ bit_xor (bit_xor (carryless k (a / 2) y) (times w r k (a / 2) y)) (carryless k (a / 2) (pick d (2 ^ w + r))) =
      ap (λ (n : ℕ). bit_xor n (times w r k (a / 2) y)) (ap (carryless k (a / 2)) (double_takes x h) ∙ carryless_add k (a / 2) y (pick d (2 ^ w + r)))
      ∙ swap (carryless k (a / 2) y) (carryless k (a / 2) (pick d (2 ^ w + r))) (times w r k (a / 2) y) in
      subst (Multiple (2 ^ w + r)) (sym (cancel (pick (a % 2) x) (carryless k (a / 2) (x * 2)) (times w r k (a / 2) y) ∙ e))
      (multiple_add (2 ^ w + r) (bit_xor (carryless k (a / 2) y) (times w r k (a / 2) y)) (carryless k (a / 2) (pick d (2 ^ w + r)))
      (reduces k (a / 2) y (double_lt w r hr x)) (multiple_pick_times (2 ^ w + r) k (a / 2) d))

  -- the same of a type whose values are the numbers below 2 ^ w
  pub product_reduced : {X : Type 0} (value : X → ℕ) (product : X → X → X) → ((x : X) → value x < 2 ^ w)
      → ((x y : X) → value (product x y) ≡ times w r w (value x) (value y)) → Reduced value product w (2 ^ w + r)
  product_reduced value product fits is = record {
    below = λ x y. fits (product x y);
    congruent = λ x y. subst (λ (n : ℕ). Multiple (2 ^ w + r) (bit_xor (carryless w (value x) (value y)) n)) (sym (is x y)) (reduces w (value x) (value y) (fits y));
  }
