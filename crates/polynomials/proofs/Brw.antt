-- BRW over any operations: its rules, and those of a part of a list. Assumes nothing.
use Rattle.std.proofs.Common.{◌≡◌, ℕ, zero, suc, ◌+◌, ◌-◌, ◌*◌, ◌^◌, ◌<◌, ◌≤◌, ◌⊎◌, List, [], ◌∷◌, map, length, get_or, take, drop, set, sym, refl, ap, ◌∙◌, ap₂, inl, inr, arith, pow_pos}
use Rattle.std.specs.List.{range_with_len}
use Rattle.std.proofs.lemmas.List.FromFn.{fill_by_all, get_or-map-range_with_len}
use Rattle.std.proofs.lemmas.List.{length-take-le, length-drop, take_rest, get_or_read, get_or_default, get_or-set_other, get_or-set_same}
use Rattle.std.proofs.lemmas.Bool.{cases_lt}
use Rattle.elements.specs.Operations.{Operations, Laws}
use Rattle.polynomials.specs.Sums.{log2, power, squared, Squares, brw_to, brw, squared_brw, BrwRules}
use Rattle.polynomials.proofs.Parts.{part_length, part_read, front_part, back_part}
use Rattle.polynomials.proofs.Logs.{log2_low, log2_is, largest_is}
use Rattle.polynomials.proofs.Horner.{squares_are_powers}

module _ {E : Type 0} (o : Operations E) where
  infixl 60 ◌⊕◌
  infixl 70 ◌⊗◌
  abbrev ◌⊕◌ : E → E → E
  ◌⊕◌ x y = o.sum x y

  abbrev ◌⊗◌ : E → E → E
  ◌⊗◌ x y = o.product x y

  -- ---- the table of squares

  pub squares_none : (τ : E) (ps : List E) → length ps ≡ 0 → Squares o τ ps
  unfolding Squares
  squares_none τ [] e = refl
  squares_none τ (p ∷ ps) e = absurd (omega arith)

  pub squares_first : (ps : List E) (j : ℕ) → j < 1 → get_or ps j o.zero ≡ squared o (get_or ps 0 o.zero) j
  squares_first ps zero hj = refl
  squares_first ps (suc j) hj = absurd (omega arith)

  -- one more square, at i
  pub squares_next : (τ : E) (ps : List E) (i : ℕ) (y d₁ d₂ : E) → 1 ≤ i → i < length ps
      → ((j : ℕ) → j < i → get_or ps j o.zero ≡ squared o τ j) → y ≡ get_or ps (i - 1) d₁ ⊗ get_or ps (i - 1) d₂
      → (j : ℕ) → j < i + 1 → get_or (set ps i y) j o.zero ≡ squared o τ j
  squares_next τ ps i y d₁ d₂ pos h inv e j hj = go (cases_lt j i)
    where
      at : (d : E) → get_or ps (i - 1) d ≡ squared o τ (i - 1)
      at d = get_or_default ps (i - 1) d o.zero (omega arith) ∙ inv (i - 1) (omega arith)

      go : (j < i) ⊎ (i ≤ j) → get_or (set ps i y) j o.zero ≡ squared o τ j
      go (inl p) = get_or-set_other ps i j y o.zero (omega arith) ∙ inv j p
      go (inr p) =
          let same : i ≡ j = omega arith in
          let back : suc (i - 1) ≡ j = omega arith in
          ap (λ (n : ℕ). get_or (set ps i y) n o.zero) (sym same) ∙ get_or-set_same ps i y o.zero h
          ∙ e ∙ ap₂ o.product (at d₁) (at d₂) ∙ ap (squared o τ) back

  pub squares_all : (τ : E) (ps : List E) (n : ℕ) → length ps ≤ n
      → ((j : ℕ) → j < n → get_or ps j o.zero ≡ squared o τ (suc j)) → Squares o τ (τ ∷ ps)
  unfolding Squares
  squares_all τ ps n h inv = fill_by_all (squared o τ) (τ ∷ ps) (length (τ ∷ ps)) o.zero refl (λ k l. at k l)
    where
      at : (k : ℕ) → k < length (τ ∷ ps) → get_or (τ ∷ ps) k o.zero ≡ squared o τ k
      at zero l = refl
      at (suc k) l = inv k (omega arith)

  pub squares_at : (τ : E) (ps : List E) (i : ℕ) (x : E) → Squares o τ ps → i < length ps → x ≡ get_or ps i x → x ≡ squared o τ i
  unfolding Squares
  squares_at τ ps i x sq h e =
      get_or_read ps i x h e o.zero ∙ ap (λ (l : List E). get_or l i o.zero) sq
      ∙ get_or-map-range_with_len (squared o τ) 0 (length ps) i i o.zero h (omega arith)

  pub squares_are : (τ : E) (ps : List E) (n : ℕ) → length ps ≡ n → Squares o τ ps → ps ≡ map (squared o τ) (range_with_len 0 n)
  unfolding Squares
  squares_are τ ps n e sq = sq ∙ ap (λ (k : ℕ). map (squared o τ) (range_with_len 0 k)) e

  -- ---- the rules, whatever the powers are

  module _ (τ : E) (p : ℕ → E) where
    -- more fuel changes nothing
    enough : (n m : ℕ) (xs : List E) → length xs ≤ n → length xs ≤ m → brw_to o n τ p xs ≡ brw_to o m τ p xs
    unfolding brw_to
    enough n m [] hn hm = refl
    enough n m (a ∷ []) hn hm = refl
    enough n m (a ∷ (b ∷ [])) hn hm = refl
    enough n m (a ∷ (b ∷ (c ∷ []))) hn hm = refl
    enough zero m (a ∷ (b ∷ (c ∷ (d ∷ xs)))) hn hm = absurd (omega arith)
    enough (suc n) zero (a ∷ (b ∷ (c ∷ (d ∷ xs)))) hn hm = absurd (omega arith)
    enough (suc n) (suc m) (a ∷ (b ∷ (c ∷ (d ∷ xs)))) hn hm =
        let l : List E = a ∷ (b ∷ (c ∷ (d ∷ xs))) in
        let k : ℕ = log2 (length l) in
        let t : ℕ = 2 ^ k in
        let le : t ≤ length l = log2_low (length l) (omega arith) in
        let pos : 1 ≤ t = pow_pos k in
        let lf : length (take (t - 1) l) ≡ t - 1 = length-take-le (t - 1) l (omega arith) in
        let lb : length (drop t l) ≡ length l - t = length-drop t l in
        ap₂ (λ (u v : E). u ⊗ (get_or l (t - 1) o.zero ⊕ p k) ⊕ v)
        (enough n m (take (t - 1) l) (omega arith) (omega arith))
        (enough n m (drop t l) (omega arith) (omega arith))

    -- the last rule
    rule_more : (xs : List E) (k : ℕ) → 4 ≤ length xs → log2 (length xs) ≡ k
        → brw_to o (length xs) τ p xs
        ≡ brw_to o (length (take (2 ^ k - 1) xs)) τ p (take (2 ^ k - 1) xs) ⊗ (get_or xs (2 ^ k - 1) o.zero ⊕ p k) ⊕ brw_to o (length (drop (2 ^ k) xs)) τ p (drop (2 ^ k) xs)
    unfolding brw_to
    rule_more [] k h e = absurd (omega arith)
    rule_more (a ∷ []) k h e = absurd (omega arith)
    rule_more (a ∷ (b ∷ [])) k h e = absurd (omega arith)
    rule_more (a ∷ (b ∷ (c ∷ []))) k h e = absurd (omega arith)
    rule_more (a ∷ (b ∷ (c ∷ (d ∷ xs)))) k h e =
        let l : List E = a ∷ (b ∷ (c ∷ (d ∷ xs))) in
        let n : ℕ = suc (suc (suc (length xs))) in
        let t : ℕ = 2 ^ k in
        let le : 2 ^ log2 (length l) ≤ length l = log2_low (length l) (omega arith) in
        let le' : t ≤ length l = omega (arith, ap (λ (j : ℕ). 2 ^ j) e) in
        let pos : 1 ≤ t = pow_pos k in
        let lf : length (take (t - 1) l) ≡ t - 1 = length-take-le (t - 1) l (omega arith) in
        let lb : length (drop t l) ≡ length l - t = length-drop t l in
        ap (λ (j : ℕ). brw_to o n τ p (take (2 ^ j - 1) l) ⊗ (get_or l (2 ^ j - 1) o.zero ⊕ p j) ⊕ brw_to o n τ p (drop (2 ^ j) l)) e
        ∙ ap₂ (λ (u v : E). u ⊗ (get_or l (t - 1) o.zero ⊕ p k) ⊕ v)
        (enough n (length (take (t - 1) l)) (take (t - 1) l) (omega arith) (omega arith))
        (enough n (length (drop t l)) (drop t l) (omega arith) (omega arith))

  -- ---- BRW with the powers by squaring, as the code works it out

  pub none : (τ : E) (xs : List E) → length xs ≡ 0 → squared_brw o τ xs ≡ o.zero
  unfolding squared_brw brw_to
  none τ [] h = refl
  none τ (a ∷ xs) h = absurd (omega arith)

  one : (τ : E) (xs : List E) (a : E) → length xs ≡ 1 → a ≡ get_or xs 0 a → a ≡ squared_brw o τ xs
  unfolding squared_brw brw_to
  one τ [] a h e = absurd (omega arith)
  one τ (x ∷ []) a h e = e
  one τ (x ∷ (y ∷ xs)) a h e = absurd (omega arith)

  two : (τ : E) (xs : List E) (a b : E) → length xs ≡ 2 → a ≡ get_or xs 0 a → b ≡ get_or xs 1 b → a ⊗ τ ⊕ b ≡ squared_brw o τ xs
  unfolding squared_brw brw_to
  two τ [] a b h e f = absurd (omega arith)
  two τ (x ∷ []) a b h e f = absurd (omega arith)
  two τ (x ∷ (y ∷ [])) a b h e f = ap₂ (λ (u v : E). u ⊗ τ ⊕ v) e f
  two τ (x ∷ (y ∷ (z ∷ xs))) a b h e f = absurd (omega arith)

  three : (τ : E) (xs : List E) (a b c : E) → length xs ≡ 3 → a ≡ get_or xs 0 a → b ≡ get_or xs 1 b → c ≡ get_or xs 2 c
      → (a ⊕ τ) ⊗ (b ⊕ squared o τ 1) ⊕ c ≡ squared_brw o τ xs
  unfolding squared_brw brw_to
  three τ [] a b c h e f g = absurd (omega arith)
  three τ (x ∷ []) a b c h e f g = absurd (omega arith)
  three τ (x ∷ (y ∷ [])) a b c h e f g = absurd (omega arith)
  three τ (x ∷ (y ∷ (z ∷ []))) a b c h e f g =
      ap₂ (λ (u v : E). (u ⊕ τ) ⊗ (v ⊕ squared o τ 1) ⊕ c) e f ∙ ap (λ (v : E). (x ⊕ τ) ⊗ (y ⊕ squared o τ 1) ⊕ v) g
  three τ (x ∷ (y ∷ (z ∷ (w ∷ xs)))) a b c h e f g = absurd (omega arith)

  -- the last rule, from its parts as the code has them: P is `1 << k`
  more : (τ : E) (xs : List E) (P k : ℕ) (low x p high : E) → 4 ≤ length xs → P ≡ 2 ^ k → 2 ^ k ≤ length xs → length xs < 2 * 2 ^ k
      → low ≡ squared_brw o τ (take (P - 1) xs) → x ≡ get_or xs (P - 1) x → p ≡ squared o τ k
      → high ≡ squared_brw o τ (take (length xs - P) (drop P xs))
      → low ⊗ (x ⊕ p) ⊕ high ≡ squared_brw o τ xs
  unfolding squared_brw
  more τ xs P k low x p high four is lo hi el ex ep eh =
      let within : P - 1 < length xs = let pos : 1 ≤ 2 ^ k = pow_pos k in omega arith in
      let part : E → E → E → E → E = λ u v w z. u ⊗ (v ⊕ w) ⊕ z in
      ap₂ o.sum (ap₂ o.product el (ap₂ o.sum (get_or_read xs (P - 1) x within ex o.zero) ep)) (eh ∙ ap (squared_brw o τ) (take_rest xs P))
      ∙ ap (λ (t : ℕ). squared_brw o τ (take (t - 1) xs) ⊗ (get_or xs (t - 1) o.zero ⊕ squared o τ k) ⊕ squared_brw o τ (drop t xs)) is
      ∙ sym (rule_more τ (squared o τ) xs k four (log2_is (length xs) k lo hi))

  -- ---- the same of the elements from a on and before b

  pub part_one : (τ : E) (xs : List E) (a b : ℕ) (x : E) → b - a ≡ 1 → b ≤ length xs → x ≡ get_or xs a x
      → x ≡ squared_brw o τ (take (b - a) (drop a xs))
  part_one τ xs a b x m l ex =
      let n = part_length xs a b (omega arith) l in
      one τ (take (b - a) (drop a xs)) x (n ∙ m) (part_read xs a (b - a) 0 a x (omega arith) (omega arith) ex)

  pub part_two : (τ : E) (xs : List E) (a b : ℕ) (x y : E) → b - a ≡ 2 → b ≤ length xs → x ≡ get_or xs a x → y ≡ get_or xs (a + 1) y
      → x ⊗ τ ⊕ y ≡ squared_brw o τ (take (b - a) (drop a xs))
  part_two τ xs a b x y m l ex ey =
      let n = part_length xs a b (omega arith) l in
      two τ (take (b - a) (drop a xs)) x y (n ∙ m)
      (part_read xs a (b - a) 0 a x (omega arith) (omega arith) ex) (part_read xs a (b - a) 1 (a + 1) y (omega arith) refl ey)

  pub part_three : (τ : E) (xs : List E) (a b : ℕ) (x y z : E) → b - a ≡ 3 → b ≤ length xs → x ≡ get_or xs a x → y ≡ get_or xs (a + 1) y → z ≡ get_or xs (a + 2) z
      → (x ⊕ τ) ⊗ (y ⊕ squared o τ 1) ⊕ z ≡ squared_brw o τ (take (b - a) (drop a xs))
  part_three τ xs a b x y z m l ex ey ez =
      let n = part_length xs a b (omega arith) l in
      three τ (take (b - a) (drop a xs)) x y z (n ∙ m)
      (part_read xs a (b - a) 0 a x (omega arith) (omega arith) ex) (part_read xs a (b - a) 1 (a + 1) y (omega arith) refl ey) (part_read xs a (b - a) 2 (a + 2) z (omega arith) refl ez)

  pub part_more : (τ : E) (xs : List E) (a b P k : ℕ) (low x p high : E) → b ≤ length xs → 4 ≤ b - a → P ≡ 2 ^ k → 2 ^ k ≤ b - a → b - a < 2 * 2 ^ k
      → low ≡ squared_brw o τ (take (((a + P) - 1) - a) (drop a xs)) → x ≡ get_or xs ((a + P) - 1) x → p ≡ squared o τ k
      → high ≡ squared_brw o τ (take (b - (a + P)) (drop (a + P) xs))
      → low ⊗ (x ⊕ p) ⊕ high ≡ squared_brw o τ (take (b - a) (drop a xs))
  part_more τ xs a b P k low x p high l four is lo hi el ex ep eh =
      let pos : 1 ≤ 2 ^ k = pow_pos k in
      let n = part_length xs a b (omega arith) l in
      let ys : List E = take (b - a) (drop a xs) in
      more τ ys P k low x p high (omega arith) is (omega arith) (omega arith)
      (el ∙ sym (ap (squared_brw o τ) (front_part xs a b (((a + P) - 1) - a) (P - 1) (omega arith) (omega arith))))
      (part_read xs a (b - a) (P - 1) ((a + P) - 1) x (omega arith) (omega arith) ex)
      ep
      (eh ∙ sym (ap (squared_brw o τ) (back_part xs a b P (length ys - P) (omega arith) (omega arith))))

  -- ---- BRW

  -- the last rule
  pub brw_more : (τ : E) (xs : List E) (k : ℕ) → 4 ≤ length xs → log2 (length xs) ≡ k
      → brw o τ xs ≡ brw o τ (take (2 ^ k - 1) xs) ⊗ (get_or xs (2 ^ k - 1) o.zero ⊕ power o τ (2 ^ k)) ⊕ brw o τ (drop (2 ^ k) xs)
  unfolding brw
  brw_more τ xs k four e = rule_more τ (λ j. power o τ (2 ^ j)) xs k four e

  pub brw_rules : BrwRules o
  unfolding brw brw_to
  brw_rules = record {
    none = λ τ. refl;
    one = λ τ a. refl;
    two = λ τ a b. refl;
    three = λ τ a b c. refl;
    more = λ τ xs p h is.
        brw_more τ xs (log2 (length xs)) h refl
        ∙ ap (λ (t : ℕ). brw o τ (take (t - 1) xs) ⊗ (get_or xs (t - 1) o.zero ⊕ power o τ t) ⊕ brw o τ (drop t xs)) (sym (largest_is (length xs) p is));
  }

-- where the laws hold, it makes no difference how the powers are worked out
pub squares_do : {E : Type 0} {o : Operations E} → Laws o → (τ : E) (xs : List E) → squared_brw o τ xs ≡ brw o τ xs
unfolding squared_brw brw
squares_do {o} laws τ xs = ap (λ p. brw_to o (length xs) τ p xs) (squares_are_powers laws τ)
