-- Enciphering keeps a sector a sector. Assumes nothing.
use Rattle.std.proofs.Common.{◌≡◌, ℕ, zero, suc, ◌+◌, ◌*◌, ◌/◌, ◌%◌, ◌<◌, ◌≤◌, List, [], ◌∷◌, ◌++◌, length, drop, refl, ap, ◌∙◌, arith, length-append, length-drop}
use Rattle.std.specs.Int.Digits.{AllBelowBase}
use Rattle.std.proofs.ByRecursion.{All-append}
use Rattle.elements.specs.Endian.{big_endian}
use Rattle.elements.specs.declared.values.Block.{Block}
use Rattle.polynomials.specs.Blocks.{blocks}
use Rattle.sector.specs.Texts.{bytes, joined, text_of, bytes_of, enciphered_bytes}
use Rattle.sector.specs.Transform.{◌⊕◌, ◌⊗◌, Text, counter_mode, hash_key, tail_hash, enciphered}
use Rattle.sector.proofs.Bytes.{length_bytes}

-- as many bytes as a sector has, each below 256
abbrev pub Sector : ℕ → List ℕ → Type 0
Sector size xs = (length xs ≡ size) × AllBelowBase 256 xs

length_mode : (F : Block → Block) (Z : Block) (i : ℕ) (M : List Block) → length (counter_mode F Z i M) ≡ length M
length_mode F Z i [] = refl
length_mode F Z i (b ∷ M) = ap suc (length_mode F Z (suc i) M)

length_blocks : (n : ℕ) (t : List ℕ) → length (blocks n t) ≡ n
length_blocks zero t = refl
length_blocks (suc n) t = ap suc (length_blocks n (drop 16 t))

length_joined : (M : List Block) → length (joined M) ≡ 16 * length M
length_joined [] = refl
length_joined (b ∷ M) = length-append (bytes b) (joined M) ∙ omega (arith, length_bytes b, length_joined M)

under_big_endian : (k n : ℕ) → AllBelowBase 256 (big_endian k n)
under_big_endian zero n = tt
under_big_endian (suc k) n = (omega arith, under_big_endian k n)

under_bytes : (b : Block) → AllBelowBase 256 (bytes b)
unfolding bytes
under_bytes b = under_big_endian 16 b.value

under_joined : (M : List Block) → AllBelowBase 256 (joined M)
under_joined [] = tt
under_joined (b ∷ M) = All-append (λ d. d < 256) (bytes b) (joined M) (under_bytes b) (under_joined M)

length_text : (p : Text) → length (bytes_of p) ≡ 32 + 16 * length p.tail
unfolding bytes_of
length_text p =
    let x : List ℕ = bytes p.front.first in
    let y : List ℕ = bytes p.front.second in
    let z : List ℕ = joined p.tail in
    let nx : length x ≡ 16 = length_bytes p.front.first in
    let ny : length y ≡ 16 = length_bytes p.front.second in
    let nz : length z ≡ 16 * length p.tail = length_joined p.tail in
    let a : length (x ++ y) ≡ length x + length y = length-append x y in
    length-append (x ++ y) z ∙ omega (arith, a, nx, ny, nz)

under_text : (p : Text) → AllBelowBase 256 (bytes_of p)
unfolding bytes_of
under_text p =
    let x : List ℕ = bytes p.front.first in
    let y : List ℕ = bytes p.front.second in
    All-append (λ d. d < 256) (x ++ y) (joined p.tail) (All-append (λ d. d < 256) x y (under_bytes p.front.first) (under_bytes p.front.second)) (under_joined p.tail)

length_tail : (F : Block → Block) (g : Block → List Block → Block) (T : Block) (p : Text) → length (enciphered F g T p).tail ≡ length p.tail
unfolding enciphered
length_tail F g T p =
    let τ : Block = hash_key F in
    let A1 : Block = ◌⊕◌ p.front.first (tail_hash g τ T p.tail) in
    let A2 : Block = ◌⊕◌ p.front.second (◌⊗◌ τ A1) in
    let B1 : Block = ◌⊕◌ A1 (F A2) in
    length_mode F (◌⊕◌ B1 (◌⊕◌ A2 (F B1))) 1 p.tail

tail_of : (t : List ℕ) → length (text_of t).tail ≡ length (drop 32 t) / 16
unfolding text_of
tail_of t = length_blocks (length (drop 32 t) / 16) (drop 32 t)

pub enciphered_sector : (F : Block → Block) (g : Block → List Block → Block) (T : Block) (size : ℕ) (t : List ℕ)
    → 64 ≤ size → size % 16 ≡ 0 → Sector size t → Sector size (enciphered_bytes F g T t)
unfolding enciphered_bytes
enciphered_sector F g T size t long even s =
    let p : Text = enciphered F g T (text_of t) in
    let n : length p.tail ≡ length (drop 32 t) / 16 = length_tail F g T (text_of t) ∙ tail_of t in
    let d : length (drop 32 t) + 32 ≡ length t = omega (arith, length-drop 32 t, s.0) in
    (length_text p ∙ omega (arith, n, d, s.0), under_text p)
