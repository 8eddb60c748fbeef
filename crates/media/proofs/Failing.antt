-- The failed sectors of a spared medium. Assumes nothing.
use Rattle.std.proofs.Common.{◌≡◌, ℕ, zero, suc, ◌+◌, ◌-◌, ◌<◌, true, not, ◌&&◌, eqb, ltb, List, [], ◌∷◌, ◌++◌, length, get_or, drop, is_some, Some, None, Option, sym, refl, ap, ◌∙◌, ⊎_elim, arith, length-drop}
use borrow.Rule.Slice.PartMut.{post_of}
use Rattle.std.proofs.lemmas.List.{get_or-drop}
use Rattle.std.proofs.lemmas.Bool.{and_parts, false≢true, cases_lt, cond-true, cond-false, eq-eqb, ne_eqb, lt-ltb, le-ltb}
use Rattle.std.specs.List.{position_or_len}
use Rattle.std.proofs.lemmas.List.Sums.{position_or_len_is, fails_before_first}
use Rattle.media.specs.Spared.{position, spare_place, lies, lost, spared_store, listed, Failures}
use Rattle.media.specs.Sparing.{position_is}

never_in : (xs : List ℕ) (x : ℕ) → position xs x ≡ None → (j : ℕ) → j < length xs → get_or xs j 0 ≡ x → ⊥
never_in xs x e j h q = ⊎_elim
    (λ l. cc (cond-true (ltb (position_or_len (λ z. eqb z x) xs) (length xs)) (Some (position_or_len (λ z. eqb z x) xs)) None (lt-ltb _ _ l)))
    (λ g. false≢true (sym (fails_before_first (λ z. eqb z x) xs j 0 (omega arith)) ∙ eq-eqb (get_or xs j 0) x q))
    (cases_lt (position_or_len (λ z. eqb z x) xs) (length xs))

pub position_at : (bad : List ℕ) (k i : ℕ) → i < length bad → get_or bad i 0 ≡ k → ((j : ℕ) → j < i → get_or bad j 0 ≡ k → ⊥) → position bad k ≡ Some i
position_at bad k i h e before =
    let is : position_or_len (λ z. eqb z k) bad ≡ i = position_or_len_is (λ z. eqb z k) bad i 0 (omega arith) (λ j l. ne_eqb (get_or bad j 0) k (before j l)) (λ _. eq-eqb (get_or bad i 0) k e) in
    cond-true (ltb (position_or_len (λ z. eqb z k) bad) (length bad)) _ _ (lt-ltb _ _ (omega arith)) ∙ ap (λ z. Some z) is

-- what is not listed has no position
pub position_none : (bad : List ℕ) (k : ℕ) → ((j : ℕ) → j < length bad → get_or bad j 0 ≡ k → ⊥) → position bad k ≡ None
position_none bad k never =
    let is : position_or_len (λ z. eqb z k) bad ≡ length bad = position_or_len_is (λ z. eqb z k) bad (length bad) 0 (omega arith) (λ j l. ne_eqb (get_or bad j 0) k (never j l)) (λ l. absurd (omega arith)) in
    cond-false (ltb (position_or_len (λ z. eqb z k) bad) (length bad)) _ _ (le-ltb _ _ (omega arith))

none_is : (o : Option ℕ) → not (is_some o) ≡ true → o ≡ None
none_is None e = refl
none_is (Some i) e = absurd (false≢true e)

parts : (n x : ℕ) (xs : List ℕ) → listed n (x ∷ xs) ≡ true → (not (is_some (position xs x)) ≡ true) × (listed n xs ≡ true)
parts n x xs o = and_parts (not (is_some (position xs x))) (listed n xs) (and_parts (ltb x n) (not (is_some (position xs x)) && listed n xs) o).1

-- no sector is listed twice
listed_apart : (n : ℕ) (xs : List ℕ) → listed n xs ≡ true → (i j : ℕ) → i < j → j < length xs → get_or xs i 0 ≡ get_or xs j 0 → ⊥
listed_apart n [] o i j l h e = omega arith
listed_apart n (x ∷ xs) o i zero l h e = omega arith
listed_apart n (x ∷ xs) o zero (suc j) l h e = never_in xs x (none_is (position xs x) (parts n x xs o).0) j (omega arith) (sym e)
listed_apart n (x ∷ xs) o (suc i) (suc j) l h e = listed_apart n xs (parts n x xs o).1 i j (omega arith) (omega arith) e

-- ---- failures

module _ (all : List ℕ) (n size spares : ℕ) (bad : List ℕ) (single : listed n bad ≡ true) where
  each_failed : (i : ℕ) → i < length (drop spares bad) → is_some (lost (get_or (drop spares bad) i 0) (lies (n + spares) (get_or (drop spares bad) i 0) (spare_place n (position bad (get_or (drop spares bad) i 0))))) ≡ true
  each_failed i h =
      let k = get_or (drop spares bad) i 0 in
      let lt : spares + i < length bad = omega (arith, length-drop spares bad) in
      let e : position bad k ≡ Some (spares + i) = position_at bad k (spares + i) lt (sym (get_or-drop spares bad i 0)) (λ j l q. listed_apart n bad single j (spares + i) l lt (q ∙ get_or-drop spares bad i 0)) in
      ap (λ o. is_some (lost k (lies (n + spares) k (spare_place n o)))) e ∙ ap (λ o. is_some (lost k o)) (cond-false (ltb (n + (spares + i)) (n + spares)) _ _ (le-ltb (n + (spares + i)) (n + spares) (omega arith)))

  all_failed : (k : ℕ) → is_some (lost k (lies (n + spares) k (spare_place n (position bad k)))) ≡ true → (i : ℕ) × (i < length (drop spares bad)) × (get_or (drop spares bad) i 0 ≡ k)
  all_failed k = go (position bad k) refl
    where
      go : (o : Option ℕ) → position bad k ≡ o → is_some (lost k (lies (n + spares) k (spare_place n o))) ≡ true → (i : ℕ) × (i < length (drop spares bad)) × (get_or (drop spares bad) i 0 ≡ k)
      go None e h = absurd (false≢true h)
      go (Some i) e h = ⊎_elim
          (λ l. absurd (false≢true (sym (ap (λ o. is_some (lost k o)) (cond-true (ltb (n + i) (n + spares)) _ _ (lt-ltb (n + i) (n + spares) l))) ∙ h)))
          (λ g. (i - spares, omega (arith, length-drop spares bad, (position_is bad k i e).1), get_or-drop spares bad (i - spares) 0 ∙ ap (λ z. get_or bad z 0) (omega arith) ∙ (position_is bad k i e).0))
          (cases_lt (n + i) (n + spares))

  pub failures_are : Failures (spared_store all n size spares bad) (drop spares bad)
  failures_are = record {
    each = each_failed;
    all = all_failed;
    apart = λ i j l h e. listed_apart n bad single (spares + i) (spares + j) (omega arith) (omega (arith, length-drop spares bad)) (sym (get_or-drop spares bad i 0) ∙ e ∙ get_or-drop spares bad j 0);
  }

-- failed sectors written into the front of a buffer leave its rest as it was
pub rest_kept : (last fs out : List ℕ) (k : ℕ) → last ≡ fs → k ≡ length fs → last ++ post_of 0 (k - 0) out ≡ fs ++ drop (length fs) out
rest_kept last fs out k e f = ap (λ z. z ++ post_of 0 (k - 0) out) e ∙ ap (λ z. fs ++ drop z out) (h ∙ f)
  where
    h : k - 0 ≡ k
    h = omega arith
