-- What the calls of a medium come to, by where the sector lies. Assumes nothing.
use Rattle.std.proofs.Common.{◌≡◌, ℕ, ◌+◌, ◌*◌, ◌<◌, ◌≤◌, true, false, cond, eqb, List, length, is_some, Some, None, Ok, Err, Option, sym, refl, subst, ⊎_elim, inl, inr, arith}
use borrow.Rule.Slice.PartMut.{put_mid}
use Rattle.std.proofs.lemmas.Bool.{cases_order, cond_both}
use Rattle.stores.specs.declared.fault.Fault.{Fault}
use Rattle.stores.specs.Stores.{Store, failure, put, state_of}
use Rattle.stores.specs.declared.state.SectorState.TheVariants.{Ready, Failed}
use Rattle.media.specs.Media.{place, flat_figures, flat_store, flat_medium}
use Rattle.media.specs.Spared.{laid_out, lost, placed}
use Rattle.media.specs.Places.{place_end, part_other}

pub found : (k : ℕ) (o : Option ℕ) (p : ℕ) → Ok p ≡ placed k o → o ≡ Some p
found k None p e = cc
found k (Some q) p e = cc

pub is_ready : (k : ℕ) (o p : Option ℕ) → p ≡ o → true ≡ is_some p → Ready ≡ state_of (lost k o)
is_ready k None p same e = cc
is_ready k (Some q) p same e = refl

pub is_failed : (k : ℕ) (o p : Option ℕ) → p ≡ o → false ≡ is_some p → Failed ≡ state_of (lost k o)
is_failed k None p same e = refl
is_failed k (Some q) p same e = cc

pub fails : (k : ℕ) (o : Option ℕ) (f : Fault) → Err f ≡ placed k o → failure (lost k o) ≡ Some f
fails k None f e = cc
fails k (Some p) f e = cc

module _ (all : List ℕ) (p places size : ℕ) (inside : p < places) (room : places * size ≤ length all) where
  within : p * size + size ≤ length all
  within = omega (arith, place_end p places size inside)

  pub room_for : (len : ℕ) → len ≡ size → p * len + len ≤ length all
  room_for len e = subst (λ z. p * z + z ≤ length all) (sym e) within

  -- a place written is as it was elsewhere
  pub elsewhere : (xs : List ℕ) (q : ℕ) → length xs ≡ size → (q ≡ p → ⊥) → place (put_mid (p * size) size all xs) size q ≡ place all size q
  elsewhere xs q e ne = part_other all xs (p * size) size within e (q * size)
      (⊎_elim (λ same. absurd (ne same)) (⊎_elim (λ l. inl (place_end q p size l)) (λ l. inr (place_end p q size l))) (cases_order q p))

pub laid_put : (n size : ℕ) (bytes bytes' : ℕ → List ℕ) (lies : ℕ → Option ℕ) (k : ℕ) (xs : List ℕ) → ((j : ℕ) → bytes' j ≡ cond (eqb j k) xs (bytes j))
    → laid_out n size bytes' lies ≡ put (laid_out n size bytes lies) k xs
unfolding put
laid_put n size bytes bytes' lies k xs h = λ i. record { count = n; size = size; layer = 0; bytes = λ j. h j i; failed = λ j. lost j (lies j) }

-- only a medium whose figures keep the rules has sectors
pub flat_ok : (all : List ℕ) (n size k : ℕ) → k < (flat_medium all n size).count → flat_figures (length all) n size ≡ true
flat_ok all n size k h = cond_both (flat_figures (length all) n size) (flat_store all n size) (flat_store all 0 64) (λ (s : Store). k < s.count → flat_figures (length all) n size ≡ true) (λ e l. e) (λ e l. absurd (omega arith)) h
