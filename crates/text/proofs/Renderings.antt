-- Blocks and lists as words, written and read. Assumes nothing.
use Rattle.std.proofs.Common.{◌≡◌, ℕ, zero, suc, ◌*◌, ◌/◌, ◌%◌, ◌^◌, ◌<◌, Bool, true, false, cond, ◌&&◌, eqb, ltb, List, [], ◌∷◌, ◌++◌, map, length, take, drop, is_some, Some, None, codes, sym, refl, ap, ◌∙◌, subst, ap₂, mod-eq_of_lt, arith}
use Rattle.std.proofs.lemmas.List.Folds.{list_all-append}
use Rattle.std.proofs.lemmas.Int.Digits.{number_lt}
use Rattle.std.proofs.lemmas.Slice.Eq.{bytes_eq-Decides}
use Rattle.std.proofs.lemmas.List.{length-map, length-append, map-append, take-append-drop, length-take-le, length-drop, take-map, drop-map, take_at, drop_at, nil_from_length}
use Rattle.std.proofs.lemmas.Bool.{and_parts}
use Rattle.std.proofs.lemmas.Bool.Decides.{same_from_decides, nat_tests}
use Rattle.std.proofs.lemmas.Grind.{common_steps}
use Rattle.std.specs.Int.Digits.{number_from_digits}
use Rattle.std.specs.Str.{bytes_eq}
use Rattle.elements.specs.Instances.{block_whole}
use Rattle.elements.specs.Endian.{big_endian}
use Rattle.elements.specs.Values.{block}
use Rattle.elements.specs.declared.values.Block.{Block}
use Rattle.text.specs.Hex.{digit, digit_value, all_digits, hex_block, hex_blocks, hex_blocks_of, block_word, some_blocks, list_word}
use Rattle.text.specs.Writing.{small_digit, block_text, blocks_text, list_text, small, Unspaced}
use Rattle.text.proofs.Digits.{values_under, blocks_length}
use Rattle.text.proofs.Hexes.{halves, text_halves, block_under, block_length, block_number, block_back, digits_of_small, values_of_small, small_of_values, all_digits_small, values_small, small_written, small_dash}
use Rattle.text.proofs.Spaces.{unspaced_append, unspaced_dash, unspaced_digits}

-- ---- one block

pub text_length : (d : ℕ → ℕ) (x : Block) → length (block_text d x) ≡ 32
unfolding block_text
text_length d x = ap length (text_halves d (big_endian 16 x.value)) ∙ length-map (halves (big_endian 16 x.value)) d ∙ block_length x.value

pub text_digits : (x : Block) → all_digits (block_text small_digit x) ≡ true
unfolding block_text
text_digits x = ap all_digits (text_halves small_digit (big_endian 16 x.value)) ∙ digits_of_small (halves (big_endian 16 x.value)) (block_under x.value)

pub block_of_text : (x : Block) → hex_block (block_text small_digit x) ≡ x
unfolding block_text hex_block
block_of_text x =
    let v = x.value in
    ap (λ t. block (number_from_digits 16 (map digit_value t))) (text_halves small_digit (big_endian 16 v))
    ∙ ap (λ ds. block (number_from_digits 16 ds)) (values_of_small (halves (big_endian 16 v)) (block_under v))
    ∙ ap block (block_number v ∙ mod-eq_of_lt x.fits)
    ∙ block_whole x

pub text_of_block : (w : List ℕ) → length w ≡ 32 → all_digits w ≡ true → map small w ≡ block_text small_digit (hex_block w)
unfolding block_text hex_block
text_of_block w l h =
    let ds : List ℕ = map digit_value w in
    let n : length ds ≡ 32 = length-map w digit_value ∙ l in
    let below : number_from_digits 16 ds < 16 ^ length ds = number_lt 16 ds (values_under w) in
    let fits : number_from_digits 16 ds < 2 ^ 128 = omega (arith, below, ap (λ (k : ℕ). 16 ^ k) n) in
    small_of_values w h
    ∙ ap (map small_digit) (sym (ap (λ (k : ℕ). halves (big_endian 16 k)) (mod-eq_of_lt fits) ∙ block_back ds n (values_under w)))
    ∙ sym (text_halves small_digit (big_endian 16 (block (number_from_digits 16 ds)).value))

pub block_small : (w : List ℕ) → hex_block (map small w) ≡ hex_block w
unfolding hex_block
block_small w = ap (λ ds. block (number_from_digits 16 ds)) (values_small w)

pub small_block_text : (d : ℕ → ℕ) → ((v : ℕ) → v < 16 → small (d v) ≡ small_digit v) → (x : Block) → map small (block_text d x) ≡ block_text small_digit x
unfolding block_text
small_block_text d h x =
    let ds : List ℕ = halves (big_endian 16 x.value) in
    ap (map small) (text_halves d (big_endian 16 x.value)) ∙ small_written d h ds (block_under x.value)
    ∙ sym (text_halves small_digit (big_endian 16 x.value))

pub read_block_text : (x : Block) → block_word (block_text small_digit x) ≡ Some x
unfolding block_word
read_block_text x = grind (arith, nat_tests, text_length small_digit x, text_digits x, block_of_text x)

pub block_word_text : (w : List ℕ) (x : Block) → block_word w ≡ Some x → map small w ≡ block_text small_digit x
unfolding block_word
block_word_text w x e = grind (arith, nat_tests, text_of_block w)

pub block_word_small : (w : List ℕ) → block_word (map small w) ≡ block_word w
unfolding block_word
block_word_small w =
    ap₂ (λ (b : Bool) (x : Block). cond b (Some x) None)
    (ap₂ (λ (n : ℕ) (b : Bool). eqb n 32 && b) (length-map w small) (all_digits_small w))
    (block_small w)

-- ---- lists of blocks

texts_length : (d : ℕ → ℕ) (xs : List Block) → length (blocks_text d xs) ≡ 32 * length xs
texts_length d [] = refl
texts_length d (x ∷ xs) = length-append (block_text d x) (blocks_text d xs) ∙ omega (arith, text_length d x, texts_length d xs)

texts_digits : (xs : List Block) → all_digits (blocks_text small_digit xs) ≡ true
texts_digits [] = refl
texts_digits (x ∷ xs) = list_all-append (λ c. is_some (digit c)) (block_text small_digit x) (blocks_text small_digit xs) ∙ ap₂ ◌&&◌ (text_digits x) (texts_digits xs)

blocks_of_texts : (xs : List Block) → hex_blocks (length xs) (blocks_text small_digit xs) ≡ xs
blocks_of_texts [] = refl
blocks_of_texts (x ∷ xs) =
    let front : take 32 (blocks_text small_digit (x ∷ xs)) ≡ block_text small_digit x =
    take_at (block_text small_digit x) (blocks_text small_digit xs) 32 (text_length small_digit x) in
    let back : drop 32 (blocks_text small_digit (x ∷ xs)) ≡ blocks_text small_digit xs =
    drop_at (block_text small_digit x) (blocks_text small_digit xs) 32 (text_length small_digit x) in
    ap₂ (λ (a b : List ℕ). hex_block a ∷ hex_blocks (length xs) b) front back ∙ ap₂ ◌∷◌ (block_of_text x) (blocks_of_texts xs)

texts_of_blocks : (n : ℕ) (w : List ℕ) → length w ≡ 32 * n → all_digits w ≡ true → map small w ≡ blocks_text small_digit (hex_blocks n w)
texts_of_blocks zero w l h = ap (map small) (nil_from_length w (omega (arith, l)))
texts_of_blocks (suc n) w l h =
    let a : List ℕ = take 32 w in
    let b : List ℕ = drop 32 w in
    let p = and_parts (all_digits a) (all_digits b) (sym (list_all-append (λ c. is_some (digit c)) a b) ∙ ap all_digits (take-append-drop 32 w) ∙ h) in
    let la : length a ≡ 32 = length-take-le 32 w (omega (arith, l)) in
    let lb : length b ≡ 32 * n = length-drop 32 w ∙ omega (arith, l) in
    ap (map small) (sym (take-append-drop 32 w)) ∙ map-append small a b
    ∙ ap₂ ◌++◌ (text_of_block a la p.0) (texts_of_blocks n b lb p.1)

list_is_blocks : (d : ℕ → ℕ) (xs : List Block) → 0 < length xs → blocks_text d xs ≡ list_text d xs
list_is_blocks d [] h = absurd (omega arith)
list_is_blocks d (x ∷ xs) h = refl

blocks_small : (n : ℕ) (w : List ℕ) → hex_blocks n (map small w) ≡ hex_blocks n w
blocks_small zero w = refl
blocks_small (suc n) w =
    ap₂ ◌∷◌ (ap hex_block (take-map small 32 w) ∙ block_small (take 32 w))
    (ap (hex_blocks n) (drop-map small 32 w) ∙ blocks_small n (drop 32 w))

not_dash : (w : List ℕ) → (length w ≡ 1 → ⊥) → bytes_eq w (codes "-") ≡ false
not_dash w h = grind (arith, common_steps, bytes_eq-Decides w (codes "-"))

dash_small : (w : List ℕ) → map small w ≡ codes "-" → w ≡ codes "-"
dash_small [] e = absurd (cc)
dash_small (c ∷ []) e = let f : small c ≡ 45 = cc in ap (λ x. x ∷ []) (small_dash c f)
dash_small (c ∷ (d ∷ w)) e = absurd (cc)

list_read : (w : List ℕ) (xs : List Block) → 0 < length xs → length w ≡ 32 * length xs → all_digits w ≡ true → hex_blocks (length xs) w ≡ xs → list_word w ≡ Some xs
unfolding list_word
list_read w xs some l h b =
    let n : length w / 32 ≡ length xs = omega arith in
    grind (arith, nat_tests, not_dash w)

pub read_list_text : (xs : List Block) → list_word (list_text small_digit xs) ≡ Some xs
unfolding list_word
read_list_text [] = refl
read_list_text (x ∷ xs) =
    list_read (blocks_text small_digit (x ∷ xs)) (x ∷ xs) (omega arith) (texts_length small_digit (x ∷ xs)) (texts_digits (x ∷ xs)) (blocks_of_texts (x ∷ xs))

list_blocks_text : (w : List ℕ) → some_blocks w ≡ true → map small w ≡ list_text small_digit (hex_blocks_of w)
list_blocks_text w t = grind (arith, nat_tests, texts_of_blocks (length w / 32) w, list_is_blocks small_digit (hex_blocks_of w), blocks_length (length w / 32) w)

pub list_word_text : (w : List ℕ) (xs : List Block) → list_word w ≡ Some xs → map small w ≡ list_text small_digit xs
unfolding list_word
list_word_text w xs e = grind (arith, nat_tests, bytes_eq-Decides w (codes "-"), list_blocks_text w)

pub list_word_small : (w : List ℕ) → list_word (map small w) ≡ list_word w
unfolding list_word
list_word_small w =
    let dash : bytes_eq (map small w) (codes "-") ≡ bytes_eq w (codes "-") =
    same_from_decides {P = w ≡ codes "-"} (bytes_eq (map small w) (codes "-")) (bytes_eq w (codes "-"))
    ((λ t. dash_small w ((bytes_eq-Decides (map small w) (codes "-")).0 t)), (λ e. (bytes_eq-Decides (map small w) (codes "-")).1 (ap (map small) e)))
    (bytes_eq-Decides w (codes "-")) in
    let some : some_blocks (map small w) ≡ some_blocks w =
    ap₂ (λ (n : ℕ) (b : Bool). ltb 0 n && (eqb (n % 32) 0 && b)) (length-map w small) (all_digits_small w) in
    let list : hex_blocks_of (map small w) ≡ hex_blocks_of w =
    ap (λ (n : ℕ). hex_blocks (n / 32) (map small w)) (length-map w small) ∙ blocks_small (length w / 32) w in
    ap₂ (λ (a b : Bool). cond a (Some []) (cond b (Some (hex_blocks_of (map small w))) None)) dash some
    ∙ ap (λ (l : List Block). cond (bytes_eq w (codes "-")) (Some []) (cond (some_blocks w) (Some l) None)) list

small_texts : (d : ℕ → ℕ) → ((v : ℕ) → v < 16 → small (d v) ≡ small_digit v) → (xs : List Block) → map small (blocks_text d xs) ≡ blocks_text small_digit xs
small_texts d h [] = refl
small_texts d h (x ∷ xs) = map-append small (block_text d x) (blocks_text d xs) ∙ ap₂ ◌++◌ (small_block_text d h x) (small_texts d h xs)

pub small_list_text : (d : ℕ → ℕ) → ((v : ℕ) → v < 16 → small (d v) ≡ small_digit v) → (xs : List Block) → map small (list_text d xs) ≡ list_text small_digit xs
small_list_text d h [] = refl
small_list_text d h (x ∷ xs) = small_texts d h (x ∷ xs)

-- ---- no spaces

pub unspaced_block : (x : Block) → Unspaced (block_text small_digit x)
unfolding block_text
unspaced_block x = subst Unspaced (sym (text_halves small_digit (big_endian 16 x.value))) (unspaced_digits (halves (big_endian 16 x.value)))

unspaced_blocks : (xs : List Block) → Unspaced (blocks_text small_digit xs)
unspaced_blocks [] = tt
unspaced_blocks (x ∷ xs) = unspaced_append (block_text small_digit x) (blocks_text small_digit xs) (unspaced_block x) (unspaced_blocks xs)

pub unspaced_list : (xs : List Block) → Unspaced (list_text small_digit xs)
unspaced_list [] = unspaced_dash
unspaced_list (x ∷ xs) = unspaced_blocks (x ∷ xs)
