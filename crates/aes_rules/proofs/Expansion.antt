-- The key schedule, word by word. Assumes nothing.
use Rattle.std.proofs.Common.{◌≡◌, ℕ, zero, suc, ◌+◌, ◌-◌, ◌/◌, ◌%◌, ◌<◌, ◌≤◌, true, false, eqb, ltb, List, [], ◌∷◌, length, take, set, sym, refl, ap, ◌∙◌, ap₂, inl, inr, not-suc-le-zero, add-one, arith, rules}
use Rattle.std.proofs.lemmas.Bool.{cases_lt}
use Rattle.std.proofs.lemmas.List.{get_or-take, take_more_set, take_all, length_push, get_or_push, get_or_append_left}
use Rattle.aes_rules.specs.Aes.{Word, word, word_at, sub_word, rot_word, add_words, rcon, temp, next_word, extended, key_expansion, Schedule}

-- ---- temp

module _ (nk i : ℕ) (w : Word) where
  pub temp_turned : i % nk ≡ 0 → temp nk i w ≡ add_words (sub_word (rot_word w)) (rcon (i / nk))
  unfolding temp
  temp_turned e = rw e

  pub temp_plain : 0 < i % nk → nk ≤ 6 → temp nk i w ≡ w
  unfolding temp
  temp_plain h l =
      let f : eqb (i % nk) 0 ≡ false = search rules in
      let g : ltb 6 nk ≡ false = search rules in
      rw (f, g)

-- ---- the next word

module _ (nk : ℕ) (key : List ℕ) (i : ℕ) (ws : List Word) where
  pub next_own : i < nk → next_word nk key i ws ≡ word_at key i
  unfolding next_word
  next_own h =
      let f : ltb i nk ≡ true = search rules in
      rw f

  pub next_other : nk ≤ i → next_word nk key i ws ≡ add_words (word ws (i - nk)) (temp nk i (word ws (i - 1)))
  unfolding next_word
  next_other h =
      let f : ltb i nk ≡ false = search rules in
      rw f

-- only the words before count
pub next_front : (nk : ℕ) (key : List ℕ) (i : ℕ) (ws : List Word) → 0 < nk → next_word nk key i (take i ws) ≡ next_word nk key i ws
next_front nk key i ws p =
    elim (cases_lt i nk) [
      | inl h ↦ next_own nk key i (take i ws) h ∙ sym (next_own nk key i ws h)
      | inr h ↦
          (let a : i - 1 < i = omega arith in
          let b : i - nk < i = omega arith in
          next_other nk key i (take i ws) h
          ∙ ap₂ add_words (get_or-take i ws (i - nk) [] b) (ap (temp nk i) (get_or-take i ws (i - 1) [] a))
          ∙ sym (next_other nk key i ws h))
    ]

-- one word more
pub expand_more : (nk : ℕ) (key : List ℕ) (i : ℕ) (ws vs : List Word) (w : Word) → 0 < nk → i < length ws
    → take i ws ≡ key_expansion nk key i → w ≡ next_word nk key i ws → vs ≡ set ws i w → take (i + 1) vs ≡ key_expansion nk key (i + 1)
unfolding key_expansion extended
expand_more nk key i ws vs w p l inv e s =
    rw (s, take_more_set ws i w l, add-one i, ← inv, next_front nk key i ws p, e)

-- none is left
pub expand_all : (nk : ℕ) (key : List ℕ) (n i : ℕ) (ws : List Word) → length ws ≡ n → i ≡ n → take i ws ≡ key_expansion nk key i → ws ≡ key_expansion nk key n
expand_all nk key n i ws h l inv =
    let k : length ws ≤ i = omega arith in
    sym (take_all i ws k) ∙ inv ∙ ap (key_expansion nk key) l

-- ---- the rule for each word of the whole schedule

module _ (nk : ℕ) (key : List ℕ) where
  count : (n : ℕ) → length (key_expansion nk key n) ≡ n
  unfolding key_expansion extended
  count zero = refl
  count (suc n) = length_push (key_expansion nk key n) (next_word nk key n (key_expansion nk key n)) ∙ omega (arith, count n)

  -- word i is made of the words before it, and stays
  made : (n i : ℕ) → i < n → word (key_expansion nk key n) i ≡ next_word nk key i (key_expansion nk key i)
  unfolding key_expansion extended
  made zero i h = absurd (not-suc-le-zero h)
  made (suc n) i h =
      let ws : List Word = key_expansion nk key n in
      elim (cases_lt i n) [
        | inl l ↦ get_or_append_left ws (next_word nk key n ws ∷ []) [] i (omega (arith, count n)) ∙ made n i l
        | inr l ↦
            (let e : n ≡ i = omega arith in
            get_or_push ws (next_word nk key n ws) [] i (omega (arith, count n)) ∙ ap (λ (k : ℕ). next_word nk key k (key_expansion nk key k)) e)
      ]

  pub scheduled : (n : ℕ) → 0 < nk → Schedule nk key n (key_expansion nk key n)
  scheduled n p = record {
    count = count n;
    own = λ i h l. made n i h ∙ next_own nk key i (key_expansion nk key i) l;
    others = λ i h l.
        let a : i - nk < i = omega arith in
        let b : i - 1 < i = omega arith in
        let a' : i - nk < n = omega arith in
        let b' : i - 1 < n = omega arith in
        made n i h ∙ next_other nk key i (key_expansion nk key i) l
        ∙ ap₂ add_words (made i (i - nk) a ∙ sym (made n (i - nk) a')) (ap (temp nk i) (made i (i - 1) b ∙ sym (made n (i - 1) b')));
  }
