-- Numbers as decimal words, written and read. Assumes nothing.
use Rattle.std.proofs.Common.{◌≡◌, ℕ, ◌+◌, ◌-◌, ◌*◌, ◌^◌, ◌<◌, ◌≤◌, true, not, ◌&&◌, ◌||◌, eqb, List, [], ◌∷◌, map, length, get_or, Some, decimal, sym, refl, ap, ◌∙◌, ap₂, arith}
use Rattle.std.proofs.lemmas.Fmt.{decimal_digit, decimal_nonempty, length-decimal-le, first_decimal, digits_decimal, digits_value-decimal, decimal-digits_value}
use Rattle.std.proofs.lemmas.Str.Parse.{FoldsDigits, IsNumeralModel, numerals_by_fold, tells_all_ascii_digits}
use Rattle.std.proofs.lemmas.Bool.{and_parts}
use Rattle.std.proofs.lemmas.Bool.Decides.{nat_tests}
use Rattle.std.proofs.lemmas.List.Recursion.{same_from_clauses}
use Rattle.std.specs.Char.{is_ascii_digit}
use Rattle.std.specs.List.{list_all}
use Rattle.std.specs.Int.Digits.{number_from_digits_after}
use Rattle.std.specs.Str.{all_ascii_digits}
use Rattle.text.specs.Hex.{digit, digit_value, digits_number}
use Rattle.text.specs.Numbers.{number_digits, number_word}
use Rattle.text.specs.Writing.{small, Unspaced}

-- ---- decimal digits

-- what `all` answers of them
pub digits_test : (t : List ℕ) → list_all is_ascii_digit t ≡ all_ascii_digits t
digits_test t = same_from_clauses (list_all is_ascii_digit) all_ascii_digits (λ c b. is_ascii_digit c && b) refl (λ c t. refl) (λ c t. refl) t

digit_decimal : (c : ℕ) → 48 ≤ c → c ≤ 57 → digit_value c ≡ c - 48
unfolding digit
digit_decimal c l h = grind (arith, nat_tests)

abbrev value_after : ℕ → List ℕ → ℕ
value_after n t = number_from_digits_after 10 n (map digit_value t)

folds : FoldsDigits value_after
folds = record {
  empty = λ n. refl;
  more = λ n c cs h. ap (λ (d : ℕ). number_from_digits_after 10 (n * 10 + d) (map digit_value cs)) (digit_decimal c h.0 h.1);
}

own : IsNumeralModel (λ ds. all_ascii_digits ds ≡ true) (digits_number 10)
own = numerals_by_fold (λ ds. all_ascii_digits ds ≡ true) tells_all_ascii_digits value_after folds

-- ---- words and numbers

no_zero_before : (n : ℕ) → n < 2 ^ 64 → (eqb (length (decimal n)) 1 || not (eqb (get_or (decimal n) 0 0) 48)) ≡ true
no_zero_before n h = grind (arith, nat_tests, decimal_digit n, first_decimal n)

pub decimal_digits : (n : ℕ) → n < 2 ^ 64 → all_ascii_digits (decimal n) ≡ true
decimal_digits n h = digits_decimal own n h

pub read_number_text : (n : ℕ) → n < 2 ^ 64 → number_word (decimal n) ≡ Some n
unfolding number_word
read_number_text n h =
    let e : digits_number 10 (decimal n) ≡ n = digits_value-decimal own n h in
    let short : length (decimal n) ≤ 20 = length-decimal-le 20 n (omega arith) (omega arith) h in
    let some = decimal_nonempty n h in
    let lead = no_zero_before n h in
    let all = decimal_digits n h in
    grind (arith, nat_tests)

-- a word of digits is the one that its number is written as
digits_text : (w : List ℕ) → number_digits w ≡ true → digits_number 10 w < 2 ^ 64 → decimal (digits_number 10 w) ≡ w
digits_text w t h = grind (arith, nat_tests, decimal-digits_value own w)

pub number_word_text : (w : List ℕ) (n : ℕ) → number_word w ≡ Some n → (w ≡ decimal n) × (n < 2 ^ 64)
unfolding number_word
number_word_text w n e = grind (arith, nat_tests, digits_text w)

-- ---- decimal digits have no case

small_decimal : (c : ℕ) → is_ascii_digit c ≡ true → small c ≡ c
small_decimal c h = grind (arith, nat_tests)

decimal_small : (c : ℕ) → is_ascii_digit (small c) ≡ true → small c ≡ c
decimal_small c h = grind (arith, nat_tests)

decimal_space : (c : ℕ) → is_ascii_digit c ≡ true → c ≡ 32 → ⊥
decimal_space c h e = grind (arith, nat_tests)

small_digits : (w : List ℕ) → all_ascii_digits w ≡ true → map small w ≡ w
small_digits [] h = refl
small_digits (c ∷ w) h =
    let p = and_parts (is_ascii_digit c) (all_ascii_digits w) h in
    ap₂ ◌∷◌ (small_decimal c p.0) (small_digits w p.1)

digits_small : (w : List ℕ) → all_ascii_digits (map small w) ≡ true → map small w ≡ w
digits_small [] h = refl
digits_small (c ∷ w) h =
    let p = and_parts (is_ascii_digit (small c)) (all_ascii_digits (map small w)) h in
    ap₂ ◌∷◌ (decimal_small c p.0) (digits_small w p.1)

unspaced_all : (w : List ℕ) → all_ascii_digits w ≡ true → Unspaced w
unspaced_all [] h = tt
unspaced_all (c ∷ w) h =
    let p = and_parts (is_ascii_digit c) (all_ascii_digits w) h in
    (decimal_space c p.0, unspaced_all w p.1)

pub small_number_text : (n : ℕ) → n < 2 ^ 64 → map small (decimal n) ≡ decimal n
small_number_text n h = small_digits (decimal n) (decimal_digits n h)

pub number_text_small : (w : List ℕ) (n : ℕ) → n < 2 ^ 64 → map small w ≡ decimal n → w ≡ decimal n
number_text_small w n h e = sym (digits_small w (ap all_ascii_digits e ∙ decimal_digits n h)) ∙ e

pub unspaced_number : (n : ℕ) → n < 2 ^ 64 → Unspaced (decimal n)
unspaced_number n h = unspaced_all (decimal n) (decimal_digits n h)
