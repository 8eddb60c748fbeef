-- What the laws give of sums of products, powers and Horner. Assumes nothing.
use Rattle.std.proofs.Common.{◌≡◌, ℕ, zero, suc, ◌+◌, ◌-◌, ◌^◌, ◌<◌, ◌≤◌, min, ◌⊎◌, List, [], ◌∷◌, ◌++◌, length, get_or, take, drop, sym, refl, ap, ◌∙◌, ap₂, inl, inr, suc-add, pow-suc, zero-add, add-one, arith}
use Rattle.std.proofs.lemmas.List.{take_more, drop_more, length_push, length-drop, drop_all, get_or-drop}
use Rattle.std.proofs.lemmas.Bool.{cases_lt}
use Rattle.elements.specs.Operations.{Operations, Laws}
use Rattle.polynomials.specs.Sums.{dot, power, horner, squared}

module _ {E : Type 0} {o : Operations E} (laws : Laws o) where
  infixl 60 ◌⊕◌
  infixl 70 ◌⊗◌
  abbrev ◌⊕◌ : E → E → E
  ◌⊕◌ x y = o.sum x y

  abbrev ◌⊗◌ : E → E → E
  ◌⊗◌ x y = o.product x y

  sum_right : (x : E) → x ⊕ o.zero ≡ x
  sum_right x = laws.sum_comm x o.zero ∙ laws.sum_zero x

  product_right : (x : E) → x ⊗ o.one ≡ x
  product_right x = laws.product_comm x o.one ∙ laws.product_one x

  right_distributes : (x y z : E) → (x ⊕ y) ⊗ z ≡ (x ⊗ z) ⊕ (y ⊗ z)
  right_distributes x y z =
      laws.product_comm (x ⊕ y) z ∙ laws.distributes z x y ∙ ap₂ o.sum (laws.product_comm z x) (laws.product_comm z y)

  -- ---- sums of products

  -- one more pair
  pub dot_next : (xs ys : List E) (i : ℕ) (s x y : E) → i < length xs → i < length ys → x ≡ get_or xs i x → y ≡ get_or ys i y
      → (s ⊕ (x ⊗ y)) ⊕ dot o (drop (i + 1) xs) (drop (i + 1) ys) ≡ s ⊕ dot o (drop i xs) (drop i ys)
  dot_next xs ys i s x y hx hy ex ey =
      laws.sum_assoc s (x ⊗ y) (dot o (drop (i + 1) xs) (drop (i + 1) ys))
      ∙ ap (o.sum s) (sym (ap₂ (dot o) (drop_more xs i x hx ∙ ap (λ (e : E). e ∷ drop (i + 1) xs) (sym ex)) (drop_more ys i y hy ∙ ap (λ (e : E). e ∷ drop (i + 1) ys) (sym ey))))

  dot_none : (xs : List E) → dot o xs [] ≡ o.zero
  dot_none [] = refl
  dot_none (x ∷ xs) = refl

  pub dot_end : (xs ys : List E) (i : ℕ) (s : E) → min (length xs) (length ys) ≤ i → s ⊕ dot o (drop i xs) (drop i ys) ≡ s
  dot_end xs ys i s h = go (cases_lt i (length xs))
    where
      go : (i < length xs) ⊎ (length xs ≤ i) → s ⊕ dot o (drop i xs) (drop i ys) ≡ s
      go (inl p) = ap (λ (l : List E). s ⊕ dot o (drop i xs) l) (drop_all i ys (omega arith)) ∙ ap (o.sum s) (dot_none (drop i xs)) ∙ sum_right s
      go (inr p) = ap (λ (l : List E). s ⊕ dot o l (drop i ys)) (drop_all i xs p) ∙ sum_right s

  -- ---- powers

  power_add : (τ : E) (a b : ℕ) → power o τ (a + b) ≡ power o τ a ⊗ power o τ b
  power_add τ zero b = ap (power o τ) (zero-add b) ∙ sym (laws.product_one (power o τ b))
  power_add τ (suc a) b = ap (power o τ) (suc-add a b) ∙ ap (o.product τ) (power_add τ a b) ∙ sym (laws.product_assoc τ (power o τ a) (power o τ b))

  -- squaring k times gives the power 2 ^ k
  squared_is : (τ : E) (k : ℕ) → squared o τ k ≡ power o τ (2 ^ k)
  squared_is τ zero = sym (product_right τ)
  squared_is τ (suc k) =
      let e : 2 ^ k + 2 ^ k ≡ 2 ^ suc k = omega (arith, pow-suc 2 k) in
      ap₂ o.product (squared_is τ k) (squared_is τ k) ∙ sym (power_add τ (2 ^ k) (2 ^ k)) ∙ ap (power o τ) e

  pub squares_are_powers : (τ : E) → squared o τ ≡ (λ k. power o τ (2 ^ k))
  squares_are_powers τ = λ i k. squared_is τ k i

  -- ---- Horner

  horner_push : (τ : E) (xs : List E) (x : E) → horner o τ (xs ++ (x ∷ [])) ≡ (horner o τ xs ⊗ τ) ⊕ x
  horner_push τ [] x = ap (λ (e : E). e ⊕ o.zero) (product_right x) ∙ sum_right x ∙ sym (ap (λ (e : E). e ⊕ x) (laws.product_zero τ) ∙ laws.sum_zero x)
  horner_push τ (y ∷ xs) x =
      let p : E = power o τ (length xs) in
      let q : E = horner o τ xs in
      ap₂ o.sum
      (ap (λ (n : ℕ). y ⊗ power o τ n) (length_push xs x ∙ add-one (length xs)) ∙ ap (o.product y) (laws.product_comm τ p) ∙ sym (laws.product_assoc y p τ))
      (horner_push τ xs x)
      ∙ sym (laws.sum_assoc ((y ⊗ p) ⊗ τ) (q ⊗ τ) x)
      ∙ ap (λ (e : E). e ⊕ x) (sym (right_distributes (y ⊗ p) q τ))

  pub horner_alone : (τ x : E) → horner o τ (x ∷ []) ≡ x
  horner_alone τ x = sum_right (x ⊗ o.one) ∙ product_right x

  -- one more coefficient, of those from a on
  pub horner_next : (τ f : E) (xs : List E) (a i : ℕ) (v x w : E) → a ≤ i → i < length xs → x ≡ get_or xs i x
      → v ≡ horner o τ (f ∷ take (i - a) (drop a xs)) → w ≡ (v ⊗ τ) ⊕ x
      → w ≡ horner o τ (f ∷ take ((i + 1) - a) (drop a xs))
  horner_next τ f xs a i v x w h l read e q =
      let ys : List E = drop a xs in
      let within : i - a < length ys = omega (arith, length-drop a xs) in
      let n : (i - a) + 1 ≡ (i + 1) - a = omega arith in
      let at : x ≡ get_or ys (i - a) x = read ∙ ap (λ (k : ℕ). get_or xs k x) (omega arith) ∙ sym (get_or-drop a xs (i - a) x) in
      let push : take (i - a) ys ++ (x ∷ []) ≡ take ((i - a) + 1) ys = sym (take_more ys (i - a) x within ∙ ap (λ (u : E). take (i - a) ys ++ (u ∷ [])) (sym at)) in
      q ∙ ap (λ (u : E). (u ⊗ τ) ⊕ x) e ∙ sym (horner_push τ (f ∷ take (i - a) ys) x)
      ∙ ap (λ (l' : List E). horner o τ (f ∷ l')) (push ∙ ap (λ (k : ℕ). take k ys) n)
