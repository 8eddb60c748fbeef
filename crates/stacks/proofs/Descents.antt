-- Down a stack of layers and up again. Assumes nothing.
use Rattle.std.proofs.Common.{◌≡◌, ℕ, ◌+◌, ◌%◌, ◌≤◌, min, cond, eqb, leb, List, [], ◌∷◌, ◌++◌, length, None, sym, refl, ap, ◌∙◌, ⊎_elim, arith}
use Rattle.std.proofs.lemmas.Bool.{cases_eq, cond-true, cond-false, eq-eqb, ne_eqb}
use Rattle.std.proofs.lemmas.Bool.Decides.{nat_tests}
use Rattle.sector.specs.Texts.{enciphered_bytes, deciphered_bytes}
use Rattle.sector.specs.Transform.{tweak}
use Rattle.sector.proofs.Bytes.{inverse}
use Rattle.stores.specs.Stores.{Store, put}
use Rattle.stores.specs.Layers.{Layer, enciphering, window, stacked, reach, down, up, count_of, layer_of}
use Rattle.stores.specs.Stores.{refusal}
use Rattle.stacks.proofs.Sectors.{Sector, enciphered_sector}

pub reach_inj : (ls : List Layer) (m n : ℕ) → reach ls m ≡ reach ls n → m ≡ n
reach_inj [] m n e = e
reach_inj (enciphering F g ∷ ls) m n e = reach_inj ls m n e
reach_inj (window b k ∷ ls) m n e = let h = reach_inj ls (b + m) (b + n) e in omega arith

module _ (size : ℕ) (long : 64 ≤ size) (even : size % 16 ≡ 0) where
  pub down_sector : (ls : List Layer) (n : ℕ) (xs : List ℕ) → Sector size xs → Sector size (down ls n xs)
  down_sector [] n xs k = k
  down_sector (enciphering F g ∷ ls) n xs k = down_sector ls n (enciphered_bytes F g (tweak n) xs) (enciphered_sector F g (tweak n) size xs long even k)
  down_sector (window b w ∷ ls) n xs k = down_sector ls (b + n) xs k

  -- deciphering from the lowest store up undoes enciphering down to it
  pub up_down : (ls : List Layer) (n : ℕ) (xs : List ℕ) → Sector size xs → up ls n (down ls n xs) ≡ xs
  up_down [] n xs k = refl
  up_down (enciphering F g ∷ ls) n xs k =
      let l : 64 ≤ length xs = omega (arith, k.0) in
      let e : length xs % 16 ≡ 0 = ap (λ z. z % 16) k.0 ∙ even in
      ap (deciphered_bytes F g (tweak n)) (up_down ls n (enciphered_bytes F g (tweak n) xs) (enciphered_sector F g (tweak n) size xs long even k))
      ∙ inverse.deciphers F g (tweak n) xs (omega arith) e k.1
  up_down (window b w ∷ ls) n xs k = up_down ls (b + n) xs k

  put_at : (ls : List Layer) (s : Store) (m : ℕ) (ys : List ℕ) → Sector size ys → (k : ℕ)
      → up ls k (cond (eqb (reach ls k) (reach ls m)) (down ls m ys) (s.bytes (reach ls k))) ≡ cond (eqb k m) ys (up ls k (s.bytes (reach ls k)))
  put_at ls s m ys sec k = ⊎_elim
      (λ e.
      ap (up ls k) (cond-true (eqb (reach ls k) (reach ls m)) _ _ (eq-eqb (reach ls k) (reach ls m) (ap (reach ls) e)))
      ∙ ap (λ z. up ls z (down ls m ys)) e ∙ up_down ls m ys sec
      ∙ sym (cond-true (eqb k m) _ _ (eq-eqb k m e)))
      (λ ne.
      ap (up ls k) (cond-false (eqb (reach ls k) (reach ls m)) _ _ (ne_eqb (reach ls k) (reach ls m) (λ e. ne (reach_inj ls k m e))))
      ∙ sym (cond-false (eqb k m) _ _ (ne_eqb k m ne)))
      (cases_eq k m)

  -- a sector put below layers is that sector put into the store which they are
  pub put_through : (ls : List Layer) (s : Store) (m : ℕ) (ys : List ℕ) → Sector size ys → stacked ls (put s (reach ls m) (down ls m ys)) ≡ put (stacked ls s) m ys
  unfolding put
  put_through ls s m ys sec = λ i. record {
    count = count_of ls s.count;
    size = s.size;
    layer = layer_of ls s.layer;
    bytes = λ k. put_at ls s m ys sec k i;
    failed = λ k. s.failed (reach ls k);
  }

-- ---- layers on layers

pub reach_append : (us bs : List Layer) (n : ℕ) → reach bs (reach us n) ≡ reach (us ++ bs) n
reach_append [] bs n = refl
reach_append (enciphering F g ∷ us) bs n = reach_append us bs n
reach_append (window b k ∷ us) bs n = reach_append us bs (b + n)

pub down_append : (us bs : List Layer) (n : ℕ) (xs : List ℕ) → down bs (reach us n) (down us n xs) ≡ down (us ++ bs) n xs
down_append [] bs n xs = refl
down_append (enciphering F g ∷ us) bs n xs = down_append us bs n (enciphered_bytes F g (tweak n) xs)
down_append (window b k ∷ us) bs n xs = down_append us bs (b + n) xs

up_append : (us bs : List Layer) (n : ℕ) (ys : List ℕ) → up us n (up bs (reach us n) ys) ≡ up (us ++ bs) n ys
up_append [] bs n ys = refl
up_append (enciphering F g ∷ us) bs n ys = ap (deciphered_bytes F g (tweak n)) (up_append us bs n ys)
up_append (window b k ∷ us) bs n ys = up_append us bs (b + n) ys

count_append : (us bs : List Layer) (c : ℕ) → count_of us (count_of bs c) ≡ count_of (us ++ bs) c
count_append [] bs c = refl
count_append (enciphering F g ∷ us) bs c = count_append us bs c
count_append (window b k ∷ us) bs c = ap (λ z. cond (leb (b + k) z) k 0) (count_append us bs c)

layer_append : (us bs : List Layer) (l : ℕ) → layer_of us (layer_of bs l) ≡ layer_of (us ++ bs) l
layer_append [] bs l = refl
layer_append (x ∷ us) bs l = ap (λ z. min (z + 1) 65535) (layer_append us bs l)

pub stacked_append : (us bs : List Layer) (s : Store) → stacked us (stacked bs s) ≡ stacked (us ++ bs) s
stacked_append us bs s = λ i. record {
  count = count_append us bs s.count i;
  size = s.size;
  layer = layer_append us bs s.layer i;
  bytes = λ n. (up_append us bs n (s.bytes (reach bs (reach us n))) ∙ ap (λ z. up (us ++ bs) n (s.bytes z)) (reach_append us bs n)) i;
  failed = λ n. s.failed (reach_append us bs n i);
}

-- what is accepted is as long as a sector
pub accepted_length : (s : Store) (n len : ℕ) → refusal s n len ≡ None → len ≡ s.size
unfolding refusal
accepted_length s n len e = grind (arith, nat_tests)
