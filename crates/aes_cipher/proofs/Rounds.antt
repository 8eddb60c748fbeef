-- The rounds of AES over its rows. Assumes nothing.
use Rattle.std.proofs.Common.{◌≡◌, ℕ, ◌+◌, ◌-◌, ◌<◌, List, length, get_or, take, drop, sym, refl, ap, ◌∙◌, ap₂, add-one, arith}
use Rattle.std.proofs.lemmas.List.{get_or-take, get_or-drop}
use Rattle.elements.specs.declared.values.Block.{Block}
use Rattle.aes_rules.specs.Aes.{Word, add_round_key, round_key, round, last_round, rounds, cipher, input, output, aes_with}
use Rattle.aes_cipher.specs.Views.{row_words, words_of}
use Rattle.aes_cipher.specs.declared.schedule.RoundKey.{RoundKey}
use Rattle.aes_cipher.proofs.Rows.{row_is}

module _ (rows : List RoundKey) where
  -- a row that is read
  key_is : (j : ℕ) (d : RoundKey) → j < length rows → row_words (get_or rows j d) ≡ round_key (words_of rows) j
  key_is j d h = sym (row_is rows j d h)

  pub no_round : (s : List Word) → s ≡ rounds (words_of rows) 0 s
  unfolding rounds
  no_round s = refl

  -- one round more, under a row between the first and the last
  pub round_more : (n j : ℕ) (d : RoundKey) (start before after : List Word) → j < n → j + 1 < length rows
      → before ≡ rounds (words_of rows) j start → after ≡ round (row_words (get_or (take n (drop 1 rows)) j d)) before → after ≡ rounds (words_of rows) (j + 1) start
  unfolding rounds
  round_more n j d start before after l h p q =
      let f : 1 + j ≡ j + 1 = omega arith in
      let row : get_or (take n (drop 1 rows)) j d ≡ get_or rows (j + 1) d =
      get_or-take n (drop 1 rows) j d l ∙ get_or-drop 1 rows j d ∙ ap (λ (i : ℕ). get_or rows i d) f in
      q ∙ ap₂ round (ap row_words row ∙ key_is (j + 1) d h) p ∙ rw (add-one j)

  -- all of them
  pub all_rounds : (n j : ℕ) (d₀ d : RoundKey) (x : Block) (s₀ s₁ s₂ s₃ : List Word) → n < length rows → j ≡ n - 1
      → s₀ ≡ input x → s₁ ≡ add_round_key s₀ (row_words (get_or rows 0 d₀)) → s₂ ≡ rounds (words_of rows) j s₁
      → s₃ ≡ last_round (row_words (get_or rows n d)) s₂ → output s₃ ≡ aes_with n (words_of rows) x
  unfolding aes_with cipher
  all_rounds n j d₀ d x s₀ s₁ s₂ s₃ h f p₀ p₁ p₂ p₃ =
      let first : s₁ ≡ add_round_key (input x) (round_key (words_of rows) 0) = p₁ ∙ ap₂ add_round_key p₀ (key_is 0 d₀ (omega arith)) in
      let middle : s₂ ≡ rounds (words_of rows) (n - 1) (add_round_key (input x) (round_key (words_of rows) 0)) = p₂ ∙ ap₂ (rounds (words_of rows)) f first in
      ap output (p₃ ∙ ap₂ last_round (key_is n d h) middle)
