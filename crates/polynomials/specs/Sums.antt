-- The sum of products, Horner and BRW, over any zero, one, sum and product. Assumes nothing.
use Rattle.std.specs.Prelude.{◌≡◌, ℕ, zero, suc, ◌-◌, ◌*◌, ◌^◌, ◌<◌, ◌≤◌, Bool, true, false, List, [], ◌∷◌, ◌++◌, map, length, take, drop, nat_le, slice_index_or}
use Rattle.std.specs.List.{range_with_len}
use Rattle.elements.specs.Operations.{Operations}

-- the largest k up to n with 2 ^ k ≤ m
unfoldable pub log2_to : ℕ → ℕ → ℕ
log2_to zero m = 0
log2_to (suc n) m = elim (nat_le (2 ^ suc n) m) [ true ↦ suc n | false ↦ log2_to n m ]

-- the binary logarithm of m, rounded down, for m from 1 on
unfoldable pub log2 : ℕ → ℕ
log2 m = log2_to m m

-- how many powers of the key BRW of m elements uses, the key itself among them
unfoldable pub levels : ℕ → ℕ
levels m = elim (nat_le 3 m) [ true ↦ suc (log2 m) | false ↦ 1 ]

-- whether so many places have room for the powers of BRW of m elements
abbrev pub room : ℕ → ℕ → Bool
room places m = nat_le (levels m) places

-- a list whose first n places are filled with p 0, p 1, ..
abbrev pub filled : {E : Type 0} → (ℕ → E) → ℕ → List E → List E
filled p n xs = map p (range_with_len 0 n) ++ drop n xs

-- p is the largest power of two not above m
pub record LargestPower (p m : ℕ) : Type 0 where
  pub exponent : ℕ
  pub power_of_two : p ≡ 2 ^ exponent
  pub not_above : p ≤ m
  pub largest : m < 2 * p

module _ {E : Type 0} (o : Operations E) where
  infixl 60 ◌⊕◌
  infixl 70 ◌⊗◌
  abbrev ◌⊕◌ : E → E → E
  ◌⊕◌ x y = o.sum x y

  abbrev ◌⊗◌ : E → E → E
  ◌⊗◌ x y = o.product x y

  -- x₁ ⊗ y₁ ⊕ x₂ ⊗ y₂ ⊕ .., as far as both lists go
  abbrev pub dot : List E → List E → E
  dot [] ys = o.zero
  dot (x ∷ xs) [] = o.zero
  dot (x ∷ xs) (y ∷ ys) = x ⊗ y ⊕ dot xs ys

  -- τ to the power k
  abbrev pub power : E → ℕ → E
  power τ zero = o.one
  power τ (suc k) = τ ⊗ power τ k

  -- x₁ ⊗ τ^(m-1) ⊕ .. ⊕ xₘ
  abbrev pub horner : E → List E → E
  horner τ [] = o.zero
  horner τ (x ∷ xs) = x ⊗ power τ (length xs) ⊕ horner τ xs

  -- BRW at τ of up to n elements, where p k is τ to the power 2 ^ k
  unfoldable pub brw_to : ℕ → E → (ℕ → E) → List E → E
  brw_to n τ p [] = o.zero
  brw_to n τ p (a ∷ []) = a
  brw_to n τ p (a ∷ (b ∷ [])) = a ⊗ τ ⊕ b
  brw_to n τ p (a ∷ (b ∷ (c ∷ []))) = (a ⊕ τ) ⊗ (b ⊕ p 1) ⊕ c
  brw_to zero τ p (a ∷ (b ∷ (c ∷ (d ∷ xs)))) = o.zero
  brw_to (suc n) τ p (a ∷ (b ∷ (c ∷ (d ∷ xs)))) =
      let l : List E = a ∷ (b ∷ (c ∷ (d ∷ xs))) in
      let k : ℕ = log2 (length l) in
      brw_to n τ p (take (2 ^ k - 1) l) ⊗ (slice_index_or l (2 ^ k - 1) o.zero ⊕ p k) ⊕ brw_to n τ p (drop (2 ^ k) l)

  -- BRW at τ
  unfoldable pub brw : E → List E → E
  brw τ xs = brw_to (length xs) τ (λ k. power τ (2 ^ k)) xs

  -- the rules of BRW
  pub record BrwRules : Type 0 where
    pub none : (τ : E) → brw τ [] ≡ o.zero
    pub one : (τ a : E) → brw τ (a ∷ []) ≡ a
    pub two : (τ a b : E) → brw τ (a ∷ (b ∷ [])) ≡ a ⊗ τ ⊕ b
    pub three : (τ a b c : E) → brw τ (a ∷ (b ∷ (c ∷ []))) ≡ (a ⊕ τ) ⊗ (b ⊕ power τ 2) ⊕ c
    pub more : (τ : E) (xs : List E) (p : ℕ) → 4 ≤ length xs → LargestPower p (length xs)
        → brw τ xs ≡ brw τ (take (p - 1) xs) ⊗ (slice_index_or xs (p - 1) o.zero ⊕ power τ p) ⊕ brw τ (drop p xs)

  -- τ to the power 2 ^ k, by squaring k times
  abbrev pub squared : E → ℕ → E
  squared τ zero = τ
  squared τ (suc k) = squared τ k ⊗ squared τ k

  -- the list is τ, τ^2, τ^4, .., each the square of the one before
  unfoldable pub Squares : E → List E → Type 0
  Squares τ ps = ps ≡ map (squared τ) (range_with_len 0 (length ps))

  -- BRW at τ with the powers by squaring: the same as BRW where the laws hold
  unfoldable pub squared_brw : E → List E → E
  squared_brw τ xs = brw_to (length xs) τ (squared τ) xs
