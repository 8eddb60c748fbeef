-- The words that rows hold. Assumes nothing.
use Rattle.std.proofs.Common.{◌≡◌, ℕ, zero, suc, ◌+◌, ◌-◌, ◌*◌, ◌/◌, ◌%◌, ◌<◌, ◌≤◌, List, [], ◌∷◌, ◌++◌, length, get_or, set, sym, refl, ap, ◌∙◌, le_of_suc-le-suc, not-suc-le-zero, zero-add, arith}
use Rattle.std.proofs.lemmas.List.{get_or_append_left, get_or-append_right, set-append_left, set-append_right}
use Rattle.aes_rules.specs.Aes.{Word, word, round_key}
use Rattle.aes_cipher.specs.Views.{row_words, words_of}
use Rattle.aes_cipher.specs.declared.schedule.RoundKey.{RoundKey}
use Rattle.aes_cipher.proofs.Words.{each}

pub words_length : (rows : List RoundKey) → length (words_of rows) ≡ 4 * length rows
words_length [] = refl
words_length (k ∷ ks) = omega (arith, words_length ks)

-- word c of row j
pub word_in : (rows : List RoundKey) (j c : ℕ) (d : RoundKey) → j < length rows → c < 4
    → word (words_of rows) (4 * j + c) ≡ word (row_words (get_or rows j d)) c
word_in [] j c d h k = absurd (not-suc-le-zero h)
word_in (r ∷ rs) zero c d h k = rw (zero-add c, get_or_append_left (row_words r) (words_of rs) [] c k)
word_in (r ∷ rs) (suc j) c d h k =
    let e : 4 * suc j + c - 4 ≡ 4 * j + c = omega arith in
    let l : 4 ≤ 4 * suc j + c = omega arith in
    rw (get_or-append_right (row_words r) (words_of rs) 4 (4 * suc j + c) [] refl l, e) (word_in rs j c d (le_of_suc-le-suc h) k)

-- word c of row j replaced
pub put_in : (rows : List RoundKey) (j c : ℕ) (d r : RoundKey) (w : Word) → j < length rows → c < 4 → row_words r ≡ set (row_words (get_or rows j d)) c w
    → words_of (set rows j r) ≡ set (words_of rows) (4 * j + c) w
put_in [] j c d r w h k e = absurd (not-suc-le-zero h)
put_in (q ∷ qs) zero c d r w h k e =
    rw (zero-add c, set-append_left (row_words q) (words_of qs) c w k) (ap (λ (v : List Word). v ++ words_of qs) e)
put_in (q ∷ qs) (suc j) c d r w h k e =
    let f : 4 * suc j + c - 4 ≡ 4 * j + c = omega arith in
    let l : 4 ≤ 4 * suc j + c = omega arith in
    rw (set-append_right (row_words q) (words_of qs) 4 (4 * suc j + c) w refl l, f) (ap (λ (v : List Word). row_words q ++ v) (put_in qs j c d r w (le_of_suc-le-suc h) k e))

-- the same at word i
module _ (rows : List RoundKey) (i : ℕ) (d : RoundKey) (h : i < 4 * length rows) where
  here : 4 * (i / 4) + i % 4 ≡ i
  here = omega arith

  pub word_here : (w : Word) → w ≡ word (row_words (get_or rows (i / 4) d)) (i % 4) → w ≡ word (words_of rows) i
  word_here w e =
      e ∙ sym (word_in rows (i / 4) (i % 4) d (omega arith) (omega arith)) ∙ ap (word (words_of rows)) here

  pub put_here : (r : RoundKey) (w : Word) → row_words r ≡ set (row_words (get_or rows (i / 4) d)) (i % 4) w → words_of (set rows (i / 4) r) ≡ set (words_of rows) i w
  put_here r w e =
      put_in rows (i / 4) (i % 4) d r w (omega arith) (omega arith) e ∙ ap (λ (k : ℕ). set (words_of rows) k w) here

-- a row is the round key of its round
pub row_is : (rows : List RoundKey) (j : ℕ) (d : RoundKey) → j < length rows → round_key (words_of rows) j ≡ row_words (get_or rows j d)
unfolding round_key
row_is rows j d h =
    each (word_in rows j 0 d h (omega arith)) (word_in rows j 1 d h (omega arith)) (word_in rows j 2 d h (omega arith)) (word_in rows j 3 d h (omega arith))
