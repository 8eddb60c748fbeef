-- An enciphering layer refuses as the store below it. Assumes nothing.
use Rattle.std.proofs.Common.{◌≡◌, ℕ, ◌-◌, ◌%◌, ◌<◌, ◌≤◌, true, eqb, leb, List, Some, None, Ok, Option, sym, refl, ap, ◌∙◌, arith}
use Rattle.std.proofs.lemmas.Bool.{eq-eqb, le-leb, cond-true}
use Rattle.elements.specs.declared.values.Block.{Block}
use Rattle.sector.specs.Refusals.{answer, admitted, both}
use Rattle.sector.specs.Texts.{enciphered_bytes}
use Rattle.sector.specs.Transform.{tweak}
use Rattle.stores.specs.declared.fault.Fault.{Fault}
use Rattle.stores.specs.Stores.{refusal, state}
use Rattle.stores.specs.Layers.{Stack, enciphering, over, store, after_write}
use Rattle.stores.proofs.Answered.{refusal_in}

module _ (p : Stack) (F : Block → Block) (g : Block → List Block → Block) (n : ℕ) where
  pub cipher_state : state (store (over (enciphering F g) p)) n ≡ state (store p) n
  unfolding state
  cipher_state = refl

  pub cipher_refusal : (len len' : ℕ) → len ≡ (store p).size → n < (store p).count → len' ≡ len → refusal (store (over (enciphering F g) p)) n len ≡ refusal (store p) n len'
  cipher_refusal len len' same inside e = refusal_in (store (over (enciphering F g) p)) n len same inside ∙ sym (refusal_in (store p) n len' (e ∙ same) inside)

  pub cipher_after : (v : Option Fault) (xs : List ℕ) → over (enciphering F g) (after_write v p n (enciphered_bytes F g (tweak n) xs)) ≡ after_write v (over (enciphering F g) p) n xs
  cipher_after None xs = refl
  cipher_after (Some f) xs = refl

-- the transform takes every text that a store's sector can be
pub taken : (t o w : ℕ) → o ≡ t → 64 ≤ t → t ≤ 4096 → t % 16 ≡ 0 → w ≡ 4096 → answer t o w ≡ Ok tt
taken t o w same long short even room =
    let a : admitted t ≡ true = ap (λ z. both z (both (leb 64 t) (leb t 4096))) (eq-eqb (t % 16) 0 even) ∙ ap (λ z. both z (leb t 4096)) (le-leb 64 t long) ∙ le-leb t 4096 short in
    cond-true (admitted t) _ _ a ∙ cond-true (eqb o t) _ _ (eq-eqb o t same) ∙ cond-true (leb (t - 16) w) _ _ (le-leb (t - 16) w (omega arith))
