-- Digits as they are written and as they are read. Assumes nothing.
use Rattle.std.proofs.Common.{◌≡◌, ℕ, zero, suc, ◌+◌, ◌*◌, ◌/◌, ◌%◌, ◌^◌, ◌<◌, true, ◌&&◌, List, [], ◌∷◌, map, length, is_some, Some, unwrap_or, sym, refl, ap, ◌∙◌, ap₂, mod-lt, arith}
use Rattle.std.proofs.lemmas.Bool.{and_parts}
use Rattle.std.proofs.lemmas.Bool.Decides.{nat_tests}
use Rattle.std.specs.Int.Digits.{number_from_digits, number_from_digits_after, AllBelowBase}
use Rattle.elements.specs.Endian.{big_endian}
use Rattle.elements.proofs.Endians.{number_big_endian, big_endian_number}
use Rattle.text.specs.Hex.{digit, digit_value, all_digits}
use Rattle.text.specs.Writing.{small_digit, capital_digit, bytes_text, small}

-- ---- one digit

pub digit_small : (c : ℕ) → digit (small c) ≡ digit c
unfolding digit
digit_small c = grind (arith, nat_tests)

pub small_of_digit : (c : ℕ) → is_some (digit c) ≡ true → small c ≡ small_digit (digit_value c)
unfolding digit
small_of_digit c h = grind (arith, nat_tests)

pub digit_of_small : (v : ℕ) → v < 16 → digit (small_digit v) ≡ Some v
unfolding digit
digit_of_small v h = grind (arith, nat_tests)

pub small_small : (v : ℕ) → v < 16 → small (small_digit v) ≡ small_digit v
small_small v h = grind (arith, nat_tests)

pub small_capital : (v : ℕ) → v < 16 → small (capital_digit v) ≡ small_digit v
small_capital v h = grind (arith, nat_tests)

pub small_space : (c : ℕ) → c ≡ 32 → small c ≡ 32
small_space c h = grind (arith, nat_tests)

pub small_dash : (c : ℕ) → small c ≡ 45 → c ≡ 45
small_dash c h = grind (arith, nat_tests)

pub digit_no_space : (v : ℕ) → small_digit v ≡ 32 → ⊥
digit_no_space v h = grind (arith, nat_tests)

-- ---- two digits to a byte

-- the values of the digits
abbrev pub halves : List ℕ → List ℕ
halves [] = []
halves (b ∷ bs) = (b / 16) ∷ ((b % 16) ∷ halves bs)

pub text_halves : (d : ℕ → ℕ) (bs : List ℕ) → bytes_text d bs ≡ map d (halves bs)
text_halves d [] = refl
text_halves d (b ∷ bs) = ap (λ t. d (b / 16) ∷ (d (b % 16) ∷ t)) (text_halves d bs)

halves_under : (bs : List ℕ) → AllBelowBase 256 bs → AllBelowBase 16 (halves bs)
halves_under [] u = tt
halves_under (b ∷ bs) u =
    let h : b < 256 = u.0 in
    let high : b / 16 < 16 = omega arith in
    let low : b % 16 < 16 = omega arith in
    (high, (low, halves_under bs u.1))

halves_length : (bs : List ℕ) → length (halves bs) ≡ 2 * length bs
halves_length [] = refl
halves_length (b ∷ bs) = omega (arith, halves_length bs)

halves_number : (a : ℕ) (bs : List ℕ) → number_from_digits_after 16 a (halves bs) ≡ number_from_digits_after 256 a bs
halves_number a [] = refl
halves_number a (b ∷ bs) =
    let e : (a * 16 + b / 16) * 16 + b % 16 ≡ a * 256 + b = omega arith in
    ap (λ (n : ℕ). number_from_digits_after 16 n (halves bs)) e ∙ halves_number (a * 256 + b) bs

-- the bytes of digits, two by two; the first n
abbrev pairs : ℕ → List ℕ → List ℕ
pairs zero ds = []
pairs (suc n) [] = []
pairs (suc n) (h ∷ []) = []
pairs (suc n) (h ∷ (l ∷ ds)) = (h * 16 + l) ∷ pairs n ds

pairs_under : (n : ℕ) (ds : List ℕ) → AllBelowBase 16 ds → AllBelowBase 256 (pairs n ds)
pairs_under zero ds u = tt
pairs_under (suc n) [] u = tt
pairs_under (suc n) (h ∷ []) u = tt
pairs_under (suc n) (h ∷ (l ∷ ds)) u =
    let a : h < 16 = u.0 in
    let b : l < 16 = u.1.0 in
    let c : h * 16 + l < 256 = omega arith in
    (c, pairs_under n ds u.1.1)

pairs_length : (n : ℕ) (ds : List ℕ) → length ds ≡ 2 * n → length (pairs n ds) ≡ n
pairs_length zero ds e = refl
pairs_length (suc n) [] e = absurd (omega (arith, e))
pairs_length (suc n) (h ∷ []) e = absurd (omega (arith, e))
pairs_length (suc n) (h ∷ (l ∷ ds)) e = ap suc (pairs_length n ds (omega (arith, e)))

halves_pairs : (n : ℕ) (ds : List ℕ) → length ds ≡ 2 * n → AllBelowBase 16 ds → halves (pairs n ds) ≡ ds
halves_pairs zero [] e u = refl
halves_pairs zero (d ∷ ds) e u = absurd (omega (arith, e))
halves_pairs (suc n) [] e u = absurd (omega (arith, e))
halves_pairs (suc n) (h ∷ []) e u = absurd (omega (arith, e))
halves_pairs (suc n) (h ∷ (l ∷ ds)) e u =
    let b : l < 16 = u.1.0 in
    let high : (h * 16 + l) / 16 ≡ h = omega arith in
    let low : (h * 16 + l) % 16 ≡ l = omega arith in
    ap₂ ◌∷◌ high (ap₂ ◌∷◌ low (halves_pairs n ds (omega (arith, e)) u.1.1))

big_endian_under : (k n : ℕ) → AllBelowBase 256 (big_endian k n)
big_endian_under zero n = tt
big_endian_under (suc k) n = (mod-lt (n / 256 ^ k) (omega arith), big_endian_under k n)

big_endian_length : (k n : ℕ) → length (big_endian k n) ≡ k
big_endian_length zero n = refl
big_endian_length (suc k) n = ap suc (big_endian_length k n)

-- ---- the 32 digits of a block

pub block_under : (n : ℕ) → AllBelowBase 16 (halves (big_endian 16 n))
block_under n = halves_under (big_endian 16 n) (big_endian_under 16 n)

pub block_length : (n : ℕ) → length (halves (big_endian 16 n)) ≡ 32
block_length n = halves_length (big_endian 16 n) ∙ ap (λ (k : ℕ). 2 * k) (big_endian_length 16 n)

pub block_number : (n : ℕ) → number_from_digits 16 (halves (big_endian 16 n)) ≡ n % 256 ^ 16
block_number n = halves_number 0 (big_endian 16 n) ∙ number_big_endian 16 n

pub block_back : (ds : List ℕ) → length ds ≡ 32 → AllBelowBase 16 ds → halves (big_endian 16 (number_from_digits 16 ds)) ≡ ds
block_back ds l u =
    let bs : List ℕ = pairs 16 ds in
    let n : length bs ≡ 16 = pairs_length 16 ds l in
    let value : number_from_digits 16 ds ≡ number_from_digits 256 bs = ap (number_from_digits 16) (sym (halves_pairs 16 ds l u)) ∙ halves_number 0 bs in
    let bytes : big_endian 16 (number_from_digits 256 bs) ≡ bs =
    ap (λ (k : ℕ). big_endian k (number_from_digits 256 bs)) (sym n) ∙ big_endian_number 0 bs (pairs_under 16 ds u) in
    ap (λ (k : ℕ). halves (big_endian 16 k)) value ∙ ap halves bytes ∙ halves_pairs 16 ds l u

-- ---- many digits

pub digits_of_small : (ds : List ℕ) → AllBelowBase 16 ds → all_digits (map small_digit ds) ≡ true
digits_of_small [] u = refl
digits_of_small (d ∷ ds) u = ap₂ ◌&&◌ (ap is_some (digit_of_small d u.0)) (digits_of_small ds u.1)

pub values_of_small : (ds : List ℕ) → AllBelowBase 16 ds → map digit_value (map small_digit ds) ≡ ds
values_of_small [] u = refl
values_of_small (d ∷ ds) u = ap₂ ◌∷◌ (ap (λ o. unwrap_or o 0) (digit_of_small d u.0)) (values_of_small ds u.1)

pub small_of_values : (w : List ℕ) → all_digits w ≡ true → map small w ≡ map small_digit (map digit_value w)
small_of_values [] h = refl
small_of_values (c ∷ w) h =
    let p = and_parts (is_some (digit c)) (all_digits w) h in
    ap₂ ◌∷◌ (small_of_digit c p.0) (small_of_values w p.1)

pub all_digits_small : (w : List ℕ) → all_digits (map small w) ≡ all_digits w
all_digits_small [] = refl
all_digits_small (c ∷ w) = ap₂ (λ o b. is_some o && b) (digit_small c) (all_digits_small w)

pub values_small : (w : List ℕ) → map digit_value (map small w) ≡ map digit_value w
values_small [] = refl
values_small (c ∷ w) = ap₂ ◌∷◌ (ap (λ o. unwrap_or o 0) (digit_small c)) (values_small w)

-- digits of either case made small
pub small_written : (d : ℕ → ℕ) → ((v : ℕ) → v < 16 → small (d v) ≡ small_digit v) → (ds : List ℕ) → AllBelowBase 16 ds → map small (map d ds) ≡ map small_digit ds
small_written d h [] u = refl
small_written d h (v ∷ ds) u = ap₂ ◌∷◌ (h v u.0) (small_written d h ds u.1)
