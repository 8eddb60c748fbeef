-- Hex digits, and the blocks that they write. Assumes nothing.
use Rattle.std.proofs.Common.{◌≡◌, ℕ, zero, suc, ◌+◌, ◌*◌, ◌^◌, ◌<◌, ◌≤◌, List, [], ◌∷◌, map, length, get_or, take, drop, Some, refl, ap, ◌∙◌, mul-le-mul, mul-le-mul_left, arith}
use native.Mathlib.Nat.{pow-le-pow_right}
use Rattle.std.proofs.lemmas.Int.Digits.{number_lt, number_push}
use Rattle.std.proofs.lemmas.List.{length-map, take_more, map_push, drop-drop, length-take-le}
use Rattle.std.proofs.lemmas.Bool.Decides.{nat_tests}
use Rattle.std.specs.Int.Digits.{number_from_digits, number_from_digits_after, AllBelowBase}
use Rattle.std.specs.List.{slice_get}
use Rattle.text.specs.Hex.{digit, digit_value, digits_number, hex_block, hex_blocks}

pub digit_lt : (c : ℕ) → digit_value c < 16
unfolding digit
digit_lt c = grind (arith, nat_tests)

pub values_under : (t : List ℕ) → AllBelowBase 16 (map digit_value t)
values_under [] = tt
values_under (c ∷ t) = (digit_lt c, values_under t)

-- one digit more
pub number_digit : (b : ℕ) (t : List ℕ) (i : ℕ) → i < length t → digits_number b (take (i + 1) t) ≡ digits_number b (take i t) * b + digit_value (get_or t i 0)
number_digit b t i h =
    ap (digits_number b) (take_more t i 0 h)
    ∙ ap (number_from_digits b) (map_push digit_value (take i t) (get_or t i 0))
    ∙ number_push b (map digit_value (take i t)) (digit_value (get_or t i 0))

-- a smaller base makes no larger number
base_le : (b a m : ℕ) (ds : List ℕ) → b ≤ 16 → a ≤ m → number_from_digits_after b a ds ≤ number_from_digits_after 16 m ds
base_le b a m [] h l = l
base_le b a m (d ∷ ds) h l =
    let p : a * b ≤ m * 16 = mul-le-mul l h in
    base_le b (a * b + d) (m * 16 + d) ds h (omega arith)

number_short : (b : ℕ) (t : List ℕ) (i : ℕ) → b ≤ 16 → i < length t → length t ≤ 32 → digits_number b (take i t) < 2 ^ 124
number_short b t i s h l =
    let ds : List ℕ = map digit_value (take i t) in
    let m : length ds ≡ i = length-map (take i t) digit_value ∙ length-take-le i t (omega arith) in
    let p : 16 ^ length ds ≤ 16 ^ 31 = pow-le-pow_right {n = 16} (omega arith) {i = length ds} {j = 31} (omega arith) in
    omega (arith, number_lt 16 ds (values_under (take i t)), base_le b 0 0 ds s (omega arith))

-- fewer than 32 digits, of the number x in the base r, leave room for one more
pub number_room : (b : ℕ) (t : List ℕ) (i x r : ℕ) → b ≤ 16 → i < length t → length t ≤ 32 → x ≡ digits_number b (take i t) → r ≡ b → x * r + 15 < 2 ^ 128
number_room b t i x r s h l e f =
    let lt : x < 2 ^ 124 = omega (arith, number_short b t i s h l) in
    let le : r ≤ 16 = omega arith in
    let p : x * r ≤ x * 16 = mul-le-mul_left x le in
    omega arith

pub blocks_length : (n : ℕ) (t : List ℕ) → length (hex_blocks n t) ≡ n
blocks_length zero t = refl
blocks_length (suc n) t = ap suc (blocks_length n (drop 32 t))

-- one of the blocks, by its own digits
pub blocks_at : (n i : ℕ) (t : List ℕ) → i < n → slice_get (hex_blocks n t) i ≡ Some (hex_block (take 32 (drop (32 * i) t)))
blocks_at zero i t h = absurd (omega arith)
blocks_at (suc n) zero t h = refl
blocks_at (suc n) (suc i) t h =
    let e : 32 + 32 * i ≡ 32 * suc i = omega arith in
    blocks_at n i (drop 32 t) (omega arith) ∙ ap (λ (l : List ℕ). Some (hex_block (take 32 l))) (drop-drop (32 * i) 32 t ∙ ap (λ (k : ℕ). drop k t) e)
