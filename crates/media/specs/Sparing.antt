-- Sectors with spare places keep the laws of a layout: no two lie in one place. Assumes nothing.
use Rattle.std.specs.Prelude.{◌≡◌, ℕ, ◌+◌, ◌*◌, ◌<◌, ◌≤◌, cond, List, length, Some, None, Option, refl}
use Rattle.std.proofs.Common.{get_or, eqb, ltb, sym, ap, ◌∙◌, subst, inl, inr, ⊎_elim, arith}
use borrow.Rule.Slice.PartMut.{put_mid}
use Rattle.std.proofs.lemmas.Bool.{cases_eq, cases_lt, cases_order, cond-true, cond-false, eq-eqb, eqb-true, ne_eqb, lt-ltb, le-ltb}
use Rattle.std.proofs.lemmas.List.Quantifiers.{position-Some}
use Rattle.media.specs.Media.{place}
use Rattle.media.specs.Spared.{position, spare_place, lies, own_or, home, sector_bytes}
use Rattle.media.specs.Places.{place_end, part_same, part_other}

-- a position is within the list, and the sector stands there
pub position_is : (bad : List ℕ) (k i : ℕ) → position bad k ≡ Some i → (get_or bad i 0 ≡ k) × (i < length bad)
position_is bad k i e = let p = position-Some (λ x. eqb x k) bad i 0 e in (eqb-true (get_or bad i 0) k p.1, p.0)

module _ (n spares : ℕ) (bad : List ℕ) where
  -- what is known of a sector's place
  data Lies (k p : ℕ) : Type 0 where
    own : p ≡ k → Lies k p
    spare : (i : ℕ) → get_or bad i 0 ≡ k → i < spares → p ≡ n + i → Lies k p

  lies_by : (k : ℕ) (o : Option ℕ) → position bad k ≡ o → Lies k (own_or k (lies (n + spares) k (spare_place n o)))
  lies_by k None e = own refl
  lies_by k (Some i) e = ⊎_elim
      (λ h. spare i (position_is bad k i e).0 (omega arith) (ap (own_or k) (cond-true (ltb (n + i) (n + spares)) _ _ (lt-ltb (n + i) (n + spares) h))))
      (λ h. own (ap (own_or k) (cond-false (ltb (n + i) (n + spares)) _ _ (le-ltb (n + i) (n + spares) h))))
      (cases_lt (n + i) (n + spares))

  known : (k : ℕ) → Lies k (home n spares bad k)
  known k = lies_by k (position bad k) refl

  apart_by : (k j p q : ℕ) → k < n → j < n → (k ≡ j → ⊥) → Lies k p → Lies j q → p ≡ q → ⊥
  apart_by k j p q hk hj ne (own e) (own f) same = ne (omega arith)
  apart_by k j p q hk hj ne (own e) (spare i b h f) same = omega arith
  apart_by k j p q hk hj ne (spare i b h e) (own f) same = omega arith
  apart_by k j p q hk hj ne (spare i b h e) (spare i' b' h' f) same =
      let s : i ≡ i' = omega arith in ne (sym b ∙ ap (λ z. get_or bad z 0) s ∙ b')

  inside_by : (k p : ℕ) → k < n → Lies k p → p < n + spares
  inside_by k p h (own e) = omega arith
  inside_by k p h (spare i b l e) = omega arith

  -- two sectors lie in two places
  pub apart : (k j : ℕ) → k < n → j < n → (k ≡ j → ⊥) → home n spares bad k ≡ home n spares bad j → ⊥
  apart k j hk hj ne = apart_by k j _ _ hk hj ne (known k) (known j)

  -- failed or not, a sector lies in one of the places
  pub inside : (k : ℕ) → k < n → home n spares bad k < n + spares
  inside k h = inside_by k _ h (known k)

  pub place_within : (k p : ℕ) → k < n → lies (n + spares) k (spare_place n (position bad k)) ≡ Some p → p < n + spares
  place_within k p h e = subst (λ o. own_or k o < n + spares) e (inside k h)

module _ (all : List ℕ) (n size spares : ℕ) (bad : List ℕ) where
  pub place_read : (k p : ℕ) → k < n → lies (n + spares) k (spare_place n (position bad k)) ≡ Some p → sector_bytes all n size spares bad k ≡ place all size p
  place_read k p h e = cond-true (ltb k n) _ _ (lt-ltb k n h) ∙ ap (λ o. place all size (own_or k o)) e

module _ (all xs : List ℕ) (n size spares : ℕ) (bad : List ℕ) (m p : ℕ) (there : lies (n + spares) m (spare_place n (position bad m)) ≡ Some p)
    (below : m < n) (room : (n + spares) * size ≤ length all) (sized : length xs ≡ size) where
  is_place : home n spares bad m ≡ p
  is_place = ap (own_or m) there

  fits : p * size + size ≤ length all
  fits = omega (arith, place_end p (n + spares) size (place_within n spares bad m p below there))

  after : List ℕ
  after = put_mid (p * size) size all xs

  other_place : (k : ℕ) → k < n → (k ≡ m → ⊥) → place after size (home n spares bad k) ≡ place all size (home n spares bad k)
  unfolding after
  other_place k h ne = part_other all xs (p * size) size fits sized (home n spares bad k * size)
      (⊎_elim (λ e. absurd (apart n spares bad k m h below ne (e ∙ sym is_place))) (⊎_elim (λ l. inl (place_end (home n spares bad k) p size l)) (λ l. inr (place_end p (home n spares bad k) size l)))
      (cases_order (home n spares bad k) p))

  pub place_written : (k : ℕ) → sector_bytes (put_mid (p * size) size all xs) n size spares bad k ≡ cond (eqb k m) xs (sector_bytes all n size spares bad k)
  unfolding after
  place_written k = ⊎_elim
      (λ e. cond-true (ltb k n) _ _ (lt-ltb k n (omega arith)) ∙ ap (λ z. place after size (home n spares bad z)) e ∙ ap (place after size) is_place ∙ part_same all xs (p * size) size fits sized ∙ sym (cond-true (eqb k m) _ _ (eq-eqb k m e)))
      (λ ne. ⊎_elim
      (λ h. cond-true (ltb k n) _ _ (lt-ltb k n h) ∙ other_place k h ne ∙ sym (cond-true (ltb k n) _ _ (lt-ltb k n h)))
      (λ h. cond-false (ltb k n) _ _ (le-ltb k n h) ∙ sym (cond-false (ltb k n) _ _ (le-ltb k n h)))
      (cases_lt k n)
      ∙ sym (cond-false (eqb k m) _ _ (ne_eqb k m ne)))
      (cases_eq k m)
