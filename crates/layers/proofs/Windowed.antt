-- A window refuses as the store below it. Assumes nothing.
use Rattle.std.proofs.Common.{◌≡◌, ℕ, ◌+◌, ◌<◌, ◌≤◌, cond, leb, List, [], ◌∷◌, Some, None, Option, sym, refl, ◌∙◌, arith}
use Rattle.std.proofs.lemmas.Bool.{leb-true, cond_both}
use Rattle.stores.specs.declared.fault.Fault.{Fault}
use Rattle.stores.specs.Stores.{refusal, state}
use Rattle.stores.specs.Layers.{Layer, Stack, Sound, enciphering, window, over, store, after_write, count_of}
use Rattle.stores.proofs.Answered.{refusal_in, state_in}

-- a window's sector lies within what is below
window_in : (b k c n : ℕ) → n < cond (leb (b + k) c) k 0 → b + n < c
window_in b k c n h = cond_both (leb (b + k) c) k 0 (λ x. n < x → b + n < c) (λ e m. omega (arith, leb-true (b + k) c e)) (λ e m. omega arith) h

-- layers have no more sectors than what they stand on
count_within : (ls : List Layer) (c : ℕ) → count_of ls c ≤ c
count_within [] c = omega arith
count_within (enciphering F g ∷ ls) c = count_within ls c
count_within (window b k ∷ ls) c =
    let ih = count_within ls c in
    cond_both (leb (b + k) (count_of ls c)) k 0 (λ x. x ≤ c) (λ e. omega (arith, leb-true (b + k) (count_of ls c) e)) (λ e. omega arith)

module _ (p : Stack) (b k n : ℕ) (h : n < (store (over (window b k) p)).count) where
  pub window_refusal : (len : ℕ) → len ≡ p.lowest.size → refusal (store (over (window b k) p)) n len ≡ refusal (store p) (b + n) len
  window_refusal len e =
      refusal_in (store (over (window b k) p)) n len e h ∙ sym (refusal_in (store p) (b + n) len e (window_in b k (store p).count n h))

  pub window_state : state (store (over (window b k) p)) n ≡ state (store p) (b + n)
  window_state = state_in (store (over (window b k) p)) n h ∙ sym (state_in (store p) (b + n) (window_in b k (store p).count n h))

  pub window_few : Sound p.lowest → b + n < 65536
  window_few s = omega (arith, s.few, count_within p.layers p.lowest.count, window_in b k (store p).count n h)

pub window_after : (v : Option Fault) (p : Stack) (b k n : ℕ) (xs : List ℕ) → over (window b k) (after_write v p (b + n) xs) ≡ after_write v (over (window b k) p) n xs
window_after None p b k n xs = refl
window_after (Some f) p b k n xs = refl
