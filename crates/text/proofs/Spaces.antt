-- Words and the text that they make. Assumes nothing.
use Rattle.std.proofs.Common.{◌≡◌, ℕ, ◌+◌, ◌<◌, ◌≤◌, Bool, true, cond, not, ◌&&◌, eqb, List, [], ◌∷◌, ◌++◌, map, length, get_or, take, drop, Some, None, codes, sym, refl, ap, ◌∙◌, ⊎_elim, arith}
use Rattle.std.specs.List.{position, position_or_len, onto_first}
use Rattle.std.proofs.lemmas.List.{take_more, drop_more, append_assoc, append-nil}
use Rattle.std.proofs.lemmas.Bool.{cases_Bool, cond_both, and_parts, not-true, eqb-false, eq-eqb, ne_eqb}
use Rattle.text.specs.Writing.{small_digit, small, Unspaced, AllUnspaced}
use Rattle.std.proofs.lemmas.Bool.Decides.{nat_tests}
use Rattle.std.proofs.lemmas.List.Splits.{slice_split_first, join_with_byte-slice_split}
use Rattle.text.specs.Words.{words, spaced}
use Rattle.text.proofs.Hexes.{digit_no_space, small_space}

-- ---- words to a text and back

pub words_front : (w t : List ℕ) → Unspaced w → words (w ++ (32 ∷ t)) ≡ w ∷ words t
words_front [] t u = refl
words_front (c ∷ w) t u =
    let rest : List (List ℕ) = words (w ++ (32 ∷ t)) in
    ap (λ b. cond b ([] ∷ rest) (onto_first c rest)) (ne_eqb c 32 u.0) ∙ ap (onto_first c) (words_front w t u.1)

words_one : (w : List ℕ) → Unspaced w → words w ≡ w ∷ []
words_one [] u = refl
words_one (c ∷ w) u =
    ap (λ b. cond b ([] ∷ words w) (onto_first c (words w))) (ne_eqb c 32 u.0) ∙ ap (onto_first c) (words_one w u.1)

pub words_spaced : (w : List ℕ) (ws : List (List ℕ)) → AllUnspaced (w ∷ ws) → words (spaced (w ∷ ws)) ≡ w ∷ ws
words_spaced w [] u = words_one w u.0
words_spaced w (v ∷ ws) u = words_front w (spaced (v ∷ ws)) u.0 ∙ ap (λ l. w ∷ l) (words_spaced v ws u.1)

pub spaced_words : (t : List ℕ) → spaced (words t) ≡ t
spaced_words t = join_with_byte-slice_split 32 t

unspaced_before : (c : ℕ) (ws : List (List ℕ)) → (c ≡ 32 → ⊥) → AllUnspaced ws → AllUnspaced (onto_first c ws)
unspaced_before c [] n u = ((n, tt), tt)
unspaced_before c (w ∷ ws) n u = ((n, u.0), u.1)

pub words_unspaced : (t : List ℕ) → AllUnspaced (words t)
words_unspaced [] = (tt, tt)
words_unspaced (c ∷ t) =
    cond_both (eqb c 32) ([] ∷ words t) (onto_first c (words t)) AllUnspaced
    (λ e. (tt, words_unspaced t)) (λ e. unspaced_before c (words t) (eqb-false c 32 e) (words_unspaced t))

-- ---- the first word, by the first space

abbrev space : ℕ → Bool
space c = eqb c 32

pub words_cut : (t : List ℕ) (i : ℕ) → position space t ≡ Some i → words t ≡ take i t ∷ words (drop (i + 1) t)
words_cut t i e = grind (arith, nat_tests, slice_split_first space t 0)

uncut : (t : List ℕ) → length t ≤ position_or_len space t → words t ≡ t ∷ []
uncut [] h = refl
uncut (c ∷ t) h =
    ⊎_elim
    (λ e. absurd (omega (arith, rw e at h)))
    (λ e. rw e (ap (onto_first c) (uncut t (omega (arith, rw e at h)))))
    (cases_Bool (eqb c 32))

pub words_uncut : (t : List ℕ) → position space t ≡ None → words t ≡ t ∷ []
words_uncut t e = grind (arith, nat_tests, uncut t)

-- ---- the first word from any place on

-- a text put before the first word
abbrev pub after : List ℕ → List (List ℕ) → List (List ℕ)
after t [] = t ∷ []
after t (w ∷ ws) = (t ++ w) ∷ ws

after_before : (t : List ℕ) (c : ℕ) (ws : List (List ℕ)) → after t (onto_first c ws) ≡ after (t ++ (c ∷ [])) ws
after_before t c [] = refl
after_before t c (w ∷ ws) = ap (λ x. x ∷ ws) (sym (append_assoc t (c ∷ []) w))

-- a byte that is no space goes to the first word
pub words_more : (t : List ℕ) (i : ℕ) → i < length t → (get_or t i 0 ≡ 32 → ⊥) → after (take i t) (words (drop i t)) ≡ after (take (i + 1) t) (words (drop (i + 1) t))
words_more t i h n =
    ap (λ l. after (take i t) (words l)) (drop_more t i 0 h)
    ∙ ap (λ b. after (take i t) (cond b ([] ∷ words (drop (i + 1) t)) (onto_first (get_or t i 0) (words (drop (i + 1) t))))) (ne_eqb (get_or t i 0) 32 n)
    ∙ after_before (take i t) (get_or t i 0) (words (drop (i + 1) t))
    ∙ ap (λ l. after l (words (drop (i + 1) t))) (sym (take_more t i 0 h))

-- a space ends it, the first or a later one
pub words_cut_at : (t : List ℕ) (i : ℕ) → i < length t → get_or t i 0 ≡ 32 → after (take i t) (words (drop i t)) ≡ take i t ∷ words (drop (i + 1) t)
words_cut_at t i h e =
    ap (λ l. after (take i t) (words l)) (drop_more t i 0 h)
    ∙ ap (λ b. after (take i t) (cond b ([] ∷ words (drop (i + 1) t)) (onto_first (get_or t i 0) (words (drop (i + 1) t))))) (eq-eqb (get_or t i 0) 32 e)
    ∙ ap (λ x. x ∷ words (drop (i + 1) t)) (append-nil (take i t))

-- ---- no space in a word

-- the same as a test, for words that are written out
abbrev pub spaceless : List ℕ → Bool
spaceless [] = true
spaceless (c ∷ w) = not (eqb c 32) && spaceless w

pub unspaced_from : (w : List ℕ) → spaceless w ≡ true → Unspaced w
unspaced_from [] h = tt
unspaced_from (c ∷ w) h =
    let p = and_parts (not (eqb c 32)) (spaceless w) h in
    (eqb-false c 32 (not-true (eqb c 32) p.0), unspaced_from w p.1)

pub unspaced_append : (a b : List ℕ) → Unspaced a → Unspaced b → Unspaced (a ++ b)
unspaced_append [] b u v = v
unspaced_append (c ∷ a) b u v = (u.0, unspaced_append a b u.1 v)

pub unspaced_dash : Unspaced (codes "-")
unspaced_dash = unspaced_from (codes "-") refl

pub unspaced_digits : (ds : List ℕ) → Unspaced (map small_digit ds)
unspaced_digits [] = tt
unspaced_digits (d ∷ ds) = (digit_no_space d, unspaced_digits ds)

unspaced_small : (w : List ℕ) → Unspaced (map small w) → Unspaced w
unspaced_small [] u = tt
unspaced_small (c ∷ w) u = ((λ e. u.0 (small_space c e)), unspaced_small w u.1)

pub all_unspaced_small : (ws : List (List ℕ)) → AllUnspaced (map (map small) ws) → AllUnspaced ws
all_unspaced_small [] u = tt
all_unspaced_small (w ∷ ws) u = (unspaced_small w u.0, all_unspaced_small ws u.1)
