-- Parts of a list by their places in it, and the list that a text of bytes is. Assumes nothing.
use Rattle.std.proofs.Common.{◌≡◌, ℕ, zero, suc, ◌+◌, ◌-◌, ◌*◌, ◌<◌, ◌≤◌, true, List, [], ◌∷◌, length, get_or, take, drop, is_some, Option, Some, None, sym, refl, ap, ◌∙◌, ap₂, arith}
use Rattle.std.proofs.lemmas.List.{get_or-take, get_or-drop, take-take, drop-take, drop-drop, length-take-le, length-drop}
use Rattle.std.specs.List.{slice_get}
use Rattle.std.specs.Simd.{first_chunks}
use Rattle.std.specs.Option.{option_map, MatchOption, IsSomeAnd}
use Rattle.std.specs.Int.Digits.{number_from_digits}
use Rattle.elements.specs.Values.{block}
use Rattle.elements.specs.declared.values.Block.{Block}
use Rattle.polynomials.specs.Blocks.{blocks}

pub blocks_length : (n : ℕ) (t : List ℕ) → length (blocks n t) ≡ n
blocks_length zero t = refl
blocks_length (suc n) t = ap suc (blocks_length n (drop 16 t))

-- block i, as the part of the bytes that it is
pub blocks_at : (n i : ℕ) (t : List ℕ) (d : Block) → i < n → get_or (blocks n t) i d ≡ block (number_from_digits 256 (take 16 (drop (16 * i) t)))
blocks_at zero i t d h = absurd (omega arith)
blocks_at (suc n) zero t d h = refl
blocks_at (suc n) (suc i) t d h =
    let e : 16 + 16 * i ≡ 16 * suc i = omega arith in
    blocks_at n i (drop 16 t) d (omega arith) ∙ ap (λ (l : List ℕ). block (number_from_digits 256 (take 16 l))) (drop-drop (16 * i) 16 t ∙ ap (λ (k : ℕ). drop k t) e)

-- the blocks of a text, read off its pieces
pub blocks_get : (n i : ℕ) (t : List ℕ) → option_map (λ bs. block (number_from_digits 256 bs)) (slice_get (first_chunks 16 n t) i) ≡ slice_get (blocks n t) i
blocks_get zero i t = refl
blocks_get (suc n) zero t = refl
blocks_get (suc n) (suc i) t = blocks_get n i (drop 16 t)

pub mapped : {A B : Type 0} (f : A → B) (o : Option A) (r : Option B) → MatchOption o (r ≡ None) (λ x. IsSomeAnd r (λ y. y ≡ f x)) → r ≡ option_map f o
mapped f None r e = e
mapped f (Some x) None e = absurd e
mapped f (Some x) (Some y) e = ap Some e

module _ {E : Type 0} where
  -- ---- what `nth` finds

  pub nth_within : (xs : List E) (i : ℕ) → i < length xs → is_some (slice_get xs i) ≡ true
  nth_within [] i h = absurd (omega arith)
  nth_within (x ∷ xs) zero h = refl
  nth_within (x ∷ xs) (suc i) h = nth_within xs i (omega arith)

  pub nth_found : (xs : List E) (i : ℕ) (x : E) → slice_get xs i ≡ Some x → x ≡ get_or xs i x
  nth_found [] i x e = refl
  nth_found (y ∷ xs) zero x e = cc
  nth_found (y ∷ xs) (suc i) x e = nth_found xs i x e

  pub nth_empty : (xs : List E) → slice_get xs 0 ≡ None → xs ≡ []
  nth_empty [] e = refl
  nth_empty (y ∷ xs) e = let z : ◌≡◌ {A = ℕ} 0 1 = cc in absurd (omega arith)

  -- ---- parts

  pub part_length : (xs : List E) (a b : ℕ) → a ≤ b → b ≤ length xs → length (take (b - a) (drop a xs)) ≡ b - a
  part_length xs a b h l = length-take-le (b - a) (drop a xs) (omega (arith, length-drop a xs))

  -- a read at a + i is one of the part from a on
  pub part_read : (xs : List E) (a m i j : ℕ) (x : E) → i < m → j ≡ a + i → x ≡ get_or xs j x → x ≡ get_or (take m (drop a xs)) i x
  part_read xs a m i j x h e r = r ∙ ap (λ (k : ℕ). get_or xs k x) e ∙ sym (get_or-take m (drop a xs) i x h ∙ get_or-drop a xs i x)

  pub front_part : (xs : List E) (a b t n : ℕ) → n ≤ b - a → n ≡ t → take n (take (b - a) (drop a xs)) ≡ take t (drop a xs)
  front_part xs a b t n h e = take-take n (b - a) (drop a xs) h ∙ ap (λ (k : ℕ). take k (drop a xs)) e

  pub back_part : (xs : List E) (a b t n : ℕ) → t ≤ b - a → n ≡ (b - a) - t → take n (drop t (take (b - a) (drop a xs))) ≡ take (b - (a + t)) (drop (a + t) xs)
  back_part xs a b t n h e =
      let q : b - a ≡ t + n = omega arith in
      let r : n ≡ b - (a + t) = omega arith in
      ap (λ (k : ℕ). take n (drop t (take k (drop a xs)))) q
      ∙ ap (take n) (drop-take t n (drop a xs))
      ∙ take-take n n (drop t (drop a xs)) (omega arith)
      ∙ ap₂ (λ (k : ℕ) (l : List E). take k l) r (drop-drop t a xs)
