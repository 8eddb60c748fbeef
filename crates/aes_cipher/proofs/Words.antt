-- Words and columns of four. Assumes nothing.
use Rattle.std.proofs.Common.{◌≡◌, ℕ, zero, suc, ◌/◌, ◌%◌, ◌<◌, ◌≤◌, List, [], ◌∷◌, ◌++◌, take, drop, set, length, get_or, sym, refl, ap, ◌∙◌, ap₂, zero-le, suc-le-suc, le_of_suc-le-suc, not-suc-le-zero, slice_index, arith}
use Rattle.std.proofs.lemmas.List.{get_or_default}
use Rattle.std.specs.Int.Digits.{number_from_digits}
use Rattle.elements.specs.Values.{byte, byte_operations, block}
use Rattle.polynomials.specs.Sums.{dot}
use Rattle.elements.specs.Instances.{byte_whole}
use Rattle.elements.specs.declared.values.Block.{Block}
use Rattle.aes_rules.specs.Aes.{Word, four, at, word, rot_word, mix_column, values, output}
use Rattle.aes_cipher.specs.Views.{blank, word_of_bytes, words_in}
use Rattle.aes_cipher.specs.declared.state.Column.{Column}
use Rattle.aes_cipher.specs.declared.state.TheConstants.{MATRIX}

-- four by four
pub each : {A : Type 0} {a b c d e f g h : A} → a ≡ e → b ≡ f → c ≡ g → d ≡ h
    → ◌≡◌ {A = List A} (a ∷ (b ∷ (c ∷ (d ∷ [])))) (e ∷ (f ∷ (g ∷ (h ∷ []))))
each p q r s = λ i. p i ∷ (q i ∷ (r i ∷ (s i ∷ [])))

-- f 0 to f (n - 1)
abbrev pub table : {A : Type 0} → (ℕ → A) → ℕ → List A
table f zero = []
table f (suc n) = f 0 ∷ table (λ k. f (suc k)) n

-- a list by the element at each place
listed : {A : Type 0} (xs : List A) (f : ℕ → A) → ((k : ℕ) (d : A) → k < length xs → get_or xs k d ≡ f k) → xs ≡ table f (length xs)
listed [] f h = refl
listed (x ∷ xs) f h = ap₂ (λ y ys. y ∷ ys) (h 0 x (suc-le-suc zero-le)) (listed xs (λ k. f (suc k)) (λ k d l. h (suc k) d (suc-le-suc l)))

pub listed_of : {A : Type 0} (n : ℕ) (xs : List A) (f : ℕ → A) → length xs ≡ n → ((k : ℕ) (d : A) → k < n → get_or xs k d ≡ f k) → xs ≡ table f n
listed_of n xs f e h = listed xs f (λ k d l. h k d (omega (arith, e, l))) ∙ ap (table f) e

pub four_is : {A : Type 0} (xs : List A) (f : ℕ → A) → length xs ≡ 4 → ((r : ℕ) (d : A) → r < 4 → get_or xs r d ≡ f r) → xs ≡ four f
four_is xs f e h = listed_of 4 xs f e h

-- a word from its own bytes
from_values : (w : Word) → length w ≡ 4 → word_of_bytes (values w) ≡ w
from_values w n =
    each (byte_whole (at w 0)) (byte_whole (at w 1)) (byte_whole (at w 2)) (byte_whole (at w 3))
    ∙ sym (four_is w (at w) n (λ r d h. get_or_default w r d (byte 0) (omega (arith, n, h))))

put_at : (f : ℕ → List ℕ) (c : ℕ) (b : List ℕ) (w : Word) → c < 4 → word_of_bytes b ≡ w
    → four (λ i. word_of_bytes (get_or (set (four f) c b) i [])) ≡ set (four (λ i. word_of_bytes (f i))) c w
put_at f zero b w h e = each e refl refl refl
put_at f (suc zero) b w h e = each refl e refl refl
put_at f (suc (suc zero)) b w h e = each refl refl e refl
put_at f (suc (suc (suc zero))) b w h e = each refl refl refl e
put_at f (suc (suc (suc (suc c)))) b w h e = absurd (not-suc-le-zero (le_of_suc-le-suc (le_of_suc-le-suc (le_of_suc-le-suc (le_of_suc-le-suc h)))))

-- word c of a row replaced, by its bytes
pub row_put : (ws : List (List ℕ)) (c : ℕ) (b : List ℕ) (w : Word) → length ws ≡ 4 → length w ≡ 4 → c < 4 → b ≡ values w
    → four (λ i. word_of_bytes (get_or (set ws c b) i [])) ≡ set (four (λ i. word_of_bytes (get_or ws i []))) c w
row_put ws c b w n m h e =
    let whole = four_is ws (λ i. get_or ws i []) n (λ i d l. get_or_default ws i d [] (omega (arith, n, l))) in
    ap (λ vs. four (λ i. word_of_bytes (get_or (set vs c b) i []))) whole
    ∙ put_at (λ i. get_or ws i []) c b w h (ap word_of_bytes e ∙ from_values w m)

-- the bytes of four columns
pub columns_are : (cs : List Column) (f : ℕ → Word) → ((c : ℕ) (d : Column) → c < 4 → (get_or cs c d).bytes ≡ f c) → words_in cs ≡ four f
columns_are cs f h = each (h 0 blank (omega arith)) (h 1 blank (omega arith)) (h 2 blank (omega arith)) (h 3 blank (omega arith))

-- the columns before k are done, and the others are as they were
abbrev pub Walked : (ℕ → Word → Word) → List Column → List Column → ℕ → Type 0
Walked step old new k = record {
  long : length new ≡ 4;
  done : (c : ℕ) (d : Column) → c < k → (get_or new c d).bytes ≡ step c (get_or old c d).bytes;
  left : (c : ℕ) (d : Column) → k ≤ c → get_or new c d ≡ get_or old c d;
}

-- all are done
pub walked : (step : ℕ → Word → Word) (old new : List Column) (k : ℕ) → Walked step old new k → 4 ≤ k → words_in new ≡ four (λ c. step c (word (words_in old) c))
walked step old new k w h =
    each (w.done 0 blank (omega arith)) (w.done 1 blank (omega arith)) (w.done 2 blank (omega arith)) (w.done 3 blank (omega arith))

-- a word rotated
pub rotated : (w x : Word) → length w ≡ 4 → x ≡ drop 1 w ++ take 1 w → x ≡ rot_word w
unfolding rot_word
rotated w x n e =
    e ∙ ap (λ (v : Word). drop 1 v ++ take 1 v) (four_is w (at w) n (λ r d h. get_or_default w r d (byte 0) (omega (arith, n, h))))

-- the sixteen bytes of a state
pub output_is : (s : List Word) (bytes : List ℕ) (x : Block) → length bytes ≡ 16
    → ((k : ℕ) (d : ℕ) → k < 16 → get_or bytes k d ≡ (at (word s (k / 4)) (k % 4)).value)
    → x ≡ block (number_from_digits 256 bytes) → x ≡ output s
unfolding output
output_is s bytes x n h e = e ∙ ap (λ (b : List ℕ). block (number_from_digits 256 b)) (listed_of 16 bytes (λ k. (at (word s (k / 4)) (k % 4)).value) n h)

-- row r of the matrix of MixColumns times a column
pub mixed_at : (w : Word) (r : ℕ) → r < 4 → dot byte_operations (four (λ k. byte (slice_index (get_or MATRIX r []) k))) w ≡ at (mix_column w) r
unfolding mix_column
mixed_at w zero h = refl
mixed_at w (suc zero) h = refl
mixed_at w (suc (suc zero)) h = refl
mixed_at w (suc (suc (suc zero))) h = refl
mixed_at w (suc (suc (suc (suc r)))) h = absurd (not-suc-le-zero (le_of_suc-le-suc (le_of_suc-le-suc (le_of_suc-le-suc (le_of_suc-le-suc h)))))
