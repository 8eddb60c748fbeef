-- Texts as bytes and as blocks. Assumes nothing.
use Rattle.std.proofs.Common.{◌≡◌, ℕ, zero, suc, ◌-◌, ◌*◌, ◌/◌, ◌%◌, ◌^◌, ◌<◌, ◌≤◌, List, [], ◌∷◌, ◌++◌, length, take, drop, sym, refl, ap, ◌∙◌, subst, ap₂, mod-eq_of_lt, arith}
use Rattle.std.specs.Int.Digits.{number_from_digits, AllBelowBase}
use Rattle.std.proofs.ByRecursion.{All-take, All-drop}
use Rattle.std.proofs.lemmas.Int.Digits.{number_lt}
use Rattle.std.proofs.lemmas.List.{take_at, drop_at, take_all, drop-drop, append_assoc, length-append, length-take-le, length-drop, take-append-drop, take-append-le, drop-append-le}
use Rattle.elements.specs.Endian.{big_endian}
use Rattle.elements.specs.Values.{block}
use Rattle.elements.specs.declared.values.Block.{Block}
use Rattle.elements.proofs.Endians.{number_big_endian, big_endian_number}
use Rattle.elements.specs.Instances.{block_whole}
use Rattle.polynomials.specs.Blocks.{blocks, blocks_of}
use Rattle.sector.specs.declared.text.Direction.{Direction}
use Rattle.sector.specs.declared.text.Direction.TheVariants.{Encipher, Decipher}
use Rattle.sector.specs.Inverse.{Inverse}
use Rattle.sector.specs.Steps.{finished, transformed}
use Rattle.sector.specs.Texts.{bytes, joined, text_of, bytes_of, enciphered_bytes, deciphered_bytes, reversed, transformed_bytes}
use Rattle.sector.specs.Transform.{Text, enciphered, deciphered}
use Rattle.sector.proofs.Restores.{text_restored}

pub length_bytes : (b : Block) → length (bytes b) ≡ 16
unfolding bytes
length_bytes b = refl

-- ---- a block and its bytes

pub block_bytes : (b : Block) → block (number_from_digits 256 (bytes b)) ≡ b
unfolding bytes
block_bytes b = ap block (number_big_endian 16 b.value ∙ mod-eq_of_lt b.fits) ∙ block_whole b

pub bytes_block : (bs : List ℕ) → length bs ≡ 16 → AllBelowBase 256 bs → bytes (block (number_from_digits 256 bs)) ≡ bs
unfolding bytes
bytes_block bs n u =
    let h : number_from_digits 256 bs < 2 ^ 128 = subst (λ (k : ℕ). number_from_digits 256 bs < 256 ^ k) n (number_lt 256 bs u) in
    ap (big_endian 16) (mod-eq_of_lt h) ∙ ap (λ (k : ℕ). big_endian k (number_from_digits 256 bs)) (sym n) ∙ big_endian_number 0 bs u

-- ---- blocks and their bytes

pub length_joined : (M : List Block) → length (joined M) ≡ 16 * length M
length_joined [] = refl
length_joined (b ∷ M) = length-append (bytes b) (joined M) ∙ omega (arith, length_bytes b, length_joined M)

blocks_joined : (M : List Block) → blocks (length M) (joined M) ≡ M
blocks_joined [] = refl
blocks_joined (b ∷ M) =
    ap₂ ◌∷◌ (ap (λ (l : List ℕ). block (number_from_digits 256 l)) (take_at (bytes b) (joined M) 16 (length_bytes b)) ∙ block_bytes b)
    (ap (blocks (length M)) (drop_at (bytes b) (joined M) 16 (length_bytes b)) ∙ blocks_joined M)

pub blocks_of_joined : (M : List Block) → blocks_of (joined M) ≡ M
blocks_of_joined M =
    let n : length (joined M) / 16 ≡ length M = omega (arith, length_joined M) in
    ap (λ (k : ℕ). blocks k (joined M)) n ∙ blocks_joined M

front_piece : (t : List ℕ) → 16 ≤ length t → AllBelowBase 256 t → bytes (block (number_from_digits 256 (take 16 t))) ≡ take 16 t
front_piece t h u = bytes_block (take 16 t) (length-take-le 16 t h) (All-take (λ x. x < 256) 16 t u)

joined_blocks : (n : ℕ) (t : List ℕ) → length t ≡ 16 * n → AllBelowBase 256 t → joined (blocks n t) ≡ t
joined_blocks zero [] e u = refl
joined_blocks zero (x ∷ t) e u = absurd (omega arith)
joined_blocks (suc n) t e u =
    let l : 16 ≤ length t = omega arith in
    let d : length (drop 16 t) ≡ 16 * n = length-drop 16 t ∙ omega arith in
    ap₂ ◌++◌ (front_piece t l u) (joined_blocks n (drop 16 t) d (All-drop (λ x. x < 256) 16 t u)) ∙ take-append-drop 16 t

-- one more block at the end
blocks_push : (n : ℕ) (t s : List ℕ) → length t ≡ 16 * n → length s ≡ 16 → blocks (suc n) (t ++ s) ≡ blocks n t ++ (block (number_from_digits 256 s) ∷ [])
blocks_push zero [] s e f = ap (λ (l : List ℕ). block (number_from_digits 256 l) ∷ []) (take_all 16 s (omega arith))
blocks_push zero (x ∷ t) s e f = absurd (omega arith)
blocks_push (suc n) t s e f =
    let l : 16 ≤ length t = omega arith in
    let d : length (drop 16 t) ≡ 16 * n = length-drop 16 t ∙ omega arith in
    ap₂ (λ (x : List ℕ) (y : List Block). block (number_from_digits 256 x) ∷ y) (take-append-le 16 t s l)
    (ap (blocks (suc n)) (drop-append-le 16 t s l) ∙ blocks_push n (drop 16 t) s d f)

-- a tail and then a block
pub blocks_of_push : (t : List ℕ) (b : Block) → length t % 16 ≡ 0 → blocks_of (t ++ bytes b) ≡ blocks_of t ++ (b ∷ [])
blocks_of_push t b h =
    let n : length (t ++ bytes b) / 16 ≡ suc (length t / 16) = omega (arith, length-append t (bytes b), length_bytes b) in
    ap (λ (k : ℕ). blocks k (t ++ bytes b)) n
    ∙ blocks_push (length t / 16) t (bytes b) (omega arith) (length_bytes b)
    ∙ ap (λ (x : Block). blocks_of t ++ (x ∷ [])) (block_bytes b)

-- ---- texts and their parts

text_bytes : (p : Text) → text_of (bytes_of p) ≡ p
unfolding text_of bytes_of
text_bytes p =
    let x : List ℕ = bytes p.front.first in
    let y : List ℕ = bytes p.front.second in
    let z : List ℕ = joined p.tail in
    let a : (x ++ y) ++ z ≡ x ++ (y ++ z) = append_assoc x y z in
    let nx : length x ≡ 16 = length_bytes p.front.first in
    let ny : length y ≡ 16 = length_bytes p.front.second in
    let nxy : length (x ++ y) ≡ 32 = length-append x y ∙ omega (arith, nx, ny) in
    let e1 : block (number_from_digits 256 (take 16 ((x ++ y) ++ z))) ≡ p.front.first =
    ap (λ (l : List ℕ). block (number_from_digits 256 l)) (ap (take 16) a ∙ take_at x (y ++ z) 16 nx) ∙ block_bytes p.front.first in
    let e2 : block (number_from_digits 256 (take 16 (drop 16 ((x ++ y) ++ z)))) ≡ p.front.second =
    ap (λ (l : List ℕ). block (number_from_digits 256 l)) (ap (λ (l : List ℕ). take 16 (drop 16 l)) a ∙ ap (take 16) (drop_at x (y ++ z) 16 nx) ∙ take_at y z 16 ny) ∙ block_bytes p.front.second in
    let e3 : blocks_of (drop 32 ((x ++ y) ++ z)) ≡ p.tail = ap blocks_of (drop_at (x ++ y) z 32 nxy) ∙ blocks_of_joined p.tail in
    λ i. record { front = record { first = e1 i; second = e2 i }; tail = e3 i }

bytes_text : (t : List ℕ) → 32 ≤ length t → length t % 16 ≡ 0 → AllBelowBase 256 t → bytes_of (text_of t) ≡ t
unfolding text_of bytes_of
bytes_text t h m u =
    let d : length (drop 16 t) ≡ length t - 16 = length-drop 16 t in
    let d' : length (drop 32 t) ≡ 16 * (length (drop 32 t) / 16) = omega (arith, length-drop 32 t) in
    let last : joined (blocks_of (drop 32 t)) ≡ drop 32 t = joined_blocks (length (drop 32 t) / 16) (drop 32 t) d' (All-drop (λ x. x < 256) 32 t u) in
    ap₂ ◌++◌ (ap₂ ◌++◌ (front_piece t (omega arith) u) (front_piece (drop 16 t) (omega arith) (All-drop (λ x. x < 256) 16 t u))) last
    ∙ append_assoc (take 16 t) (take 16 (drop 16 t)) (drop 32 t)
    ∙ ap (λ (l : List ℕ). take 16 t ++ (take 16 (drop 16 t) ++ l)) (sym (drop-drop 16 16 t))
    ∙ ap (λ (l : List ℕ). take 16 t ++ l) (take-append-drop 16 (drop 16 t))
    ∙ take-append-drop 16 t

-- ---- both directions

-- the two definitions are the steps that the code shares
pub transformed_is : (d : Direction) (F : Block → Block) (g : Block → List Block → Block) (T : Block) (t : List ℕ)
    → transformed_bytes d F g T t ≡ bytes_of (transformed d F g T (text_of t))
unfolding enciphered_bytes deciphered_bytes enciphered deciphered transformed finished
transformed_is Encipher F g T t = refl
transformed_is Decipher F g T t = refl

-- a direction and then the other gives the text again
pub restored : (d : Direction) (F : Block → Block) (g : Block → List Block → Block) (T : Block) (t : List ℕ)
    → 32 ≤ length t → length t % 16 ≡ 0 → AllBelowBase 256 t → transformed_bytes (reversed d) F g T (transformed_bytes d F g T t) ≡ t
restored d F g T t h m u =
    transformed_is (reversed d) F g T (transformed_bytes d F g T t)
    ∙ ap (λ (l : List ℕ). bytes_of (transformed (reversed d) F g T (text_of l))) (transformed_is d F g T t)
    ∙ ap (λ (p : Text). bytes_of (transformed (reversed d) F g T p)) (text_bytes (transformed d F g T (text_of t)))
    ∙ ap bytes_of (text_restored d F g T (text_of t))
    ∙ bytes_text t h m u

pub inverse : Inverse
inverse = record { deciphers = restored Encipher; enciphers = restored Decipher }
