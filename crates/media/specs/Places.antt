-- Places in a medium's bytes, and that sectors in the places of their numbers keep the laws of a layout. Assumes nothing.
use Rattle.std.specs.Prelude.{◌≡◌, ℕ, suc, ◌+◌, ◌*◌, ◌<◌, ◌≤◌, cond, ◌⊎◌, List, length, take, drop, Some}
use Rattle.std.proofs.Common.{eqb, sym, ap, ◌∙◌, subst, inl, inr, ⊎_elim, mul-le-mul_right, suc-mul, arith, rules}
use borrow.Rule.Slice.PartMut.{put_mid}
use Rattle.std.proofs.lemmas.List.{places, same_lists}
use Rattle.std.proofs.lemmas.Bool.{cases_order, cond-true, cond-false, eq-eqb, ne_eqb}
use Rattle.media.specs.Media.{place}

-- a place before another ends where that begins, or earlier
pub place_end : (p q size : ℕ) → p < q → p * size + size ≤ q * size
place_end p q size h = let m : suc p * size ≤ q * size = mul-le-mul_right size h in omega (arith, suc-mul p size)

module _ (all xs : List ℕ) (a size : ℕ) (within : a + size ≤ length all) (sized : length xs ≡ size) where
  pub part_same : take size (drop a (put_mid a size all xs)) ≡ xs
  part_same = same_lists _ _ (search (rules, places)) (λ k d h. grind (arith, places))

  pub part_other : (b : ℕ) → (b + size ≤ a) ⊎ (a + size ≤ b) → take size (drop b (put_mid a size all xs)) ≡ take size (drop b all)
  part_other b (inl h) = same_lists _ _ (search (rules, places)) (λ k d h'. grind (arith, places))
  part_other b (inr h) = same_lists _ _ (search (rules, places)) (λ k d h'. grind (arith, places))

  pub put_length : length (put_mid a size all xs) ≡ length all
  put_length = search (rules, places)

module _ (all xs : List ℕ) (n c size : ℕ) (inside : n < c) (room : c * size ≤ length all) (sized : length xs ≡ size) where
  within : n * size + size ≤ length all
  within = omega (arith, place_end n c size inside)

  -- what each place holds once one of them is written
  pub place_put : (k : ℕ) → place (put_mid (n * size) size all xs) size k ≡ cond (eqb k n) xs (place all size k)
  place_put k = ⊎_elim
      (λ e. ap (λ z. place (put_mid (n * size) size all xs) size z) e ∙ part_same all xs (n * size) size within sized ∙ sym (cond-true (eqb k n) _ _ (eq-eqb k n e)))
      (λ ne. part_other all xs (n * size) size within sized (k * size)
      (⊎_elim (λ h. inl (place_end k n size h)) (λ h. inr (place_end n k size h)) ne)
      ∙ sym (cond-false (eqb k n) _ _ (ne_eqb k n (⊎_elim (λ h e. omega arith) (λ h e. omega arith) ne))))
      (cases_order k n)

pub own_within : (c n p : ℕ) → n < c → Some n ≡ Some p → p < c
own_within c n p h e = let q : n ≡ p = cc in omega arith

pub own_read : (all : List ℕ) (size n p : ℕ) → Some n ≡ Some p → place all size n ≡ place all size p
own_read all size n p e = cc

pub own_written : (all xs : List ℕ) (c size n p k : ℕ) → n < c → Some n ≡ Some p → c * size ≤ length all → length xs ≡ size
    → place (put_mid (p * size) size all xs) size k ≡ cond (eqb k n) xs (place all size k)
own_written all xs c size n p k h e room sized =
    let q : n ≡ p = cc in
    subst (λ z. place (put_mid (z * size) size all xs) size k ≡ cond (eqb k n) xs (place all size k)) q (place_put all xs n c size h room sized k)
