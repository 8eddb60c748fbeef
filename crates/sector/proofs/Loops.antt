-- One block more in counter mode, and parts that were written. Assumes nothing.
use Rattle.std.proofs.Common.{◌≡◌, ℕ, zero, suc, ◌+◌, ◌-◌, ◌*◌, ◌<◌, ◌≤◌, List, [], ◌++◌, length, get_or, take, drop, sym, refl, ap, ◌∙◌, ap₂, add-one, arith}
use borrow.Rule.Slice.PartMut.{put_mid}
use Rattle.std.specs.Int.Digits.{number_from_digits}
use Rattle.std.specs.Simd.{first_chunks}
use Rattle.std.proofs.lemmas.List.{take-take, drop-take, drop-drop, take_at, drop_at, append_assoc, append-nil, take_all, drop_all, length-take-le, length-append, length-drop}
use Rattle.elements.specs.Values.{block}
use Rattle.elements.specs.declared.values.Block.{Block}
use Rattle.polynomials.specs.Blocks.{blocks, blocks_of}
use Rattle.sector.specs.declared.text.Direction.{Direction}
use Rattle.sector.specs.declared.text.Front.{Front}
use Rattle.sector.specs.Steps.{to_middle, from_middle, finished, transformed}
use Rattle.sector.specs.Texts.{bytes, joined, front_of, text_of, bytes_of, transformed_bytes}
use Rattle.sector.specs.Transform.{◌⊕◌, counter_block, counter_mode, hash_key, tail_hash}
use Rattle.sector.proofs.Bytes.{length_bytes, blocks_of_joined, transformed_is}

chunks_long : (n : ℕ) (t : List ℕ) → length (first_chunks 16 n t) ≡ n
chunks_long zero t = refl
chunks_long (suc n) t = ap suc (chunks_long n (drop 16 t))

-- as many pieces as there are, are all of them
pub all_chunks : (n : ℕ) (t : List ℕ) → take n (first_chunks 16 n t) ≡ first_chunks 16 n t
all_chunks n t = take_all n (first_chunks 16 n t) (omega (arith, chunks_long n t))

-- one of the pieces of 16 bytes, as the checker reads it
pub chunk_at : (n k : ℕ) (t : List ℕ) → k < n → get_or (first_chunks 16 n t) k [] ≡ take 16 (drop (16 * k) t)
chunk_at zero k t h = absurd (omega arith)
chunk_at (suc n) zero t h = refl
chunk_at (suc n) (suc k) t h =
    let e : 16 + 16 * k ≡ 16 * suc k = omega arith in
    chunk_at n k (drop 16 t) (omega arith) ∙ ap (take 16) (drop-drop (16 * k) 16 t ∙ ap (λ (i : ℕ). drop i t) e)

-- a block written at a place, as the checker has it
pub put_is : (out x : List ℕ) (at : ℕ) (b : Block) → x ≡ bytes b → put_mid at (at + 16 - at) out x ≡ take at out ++ (bytes b ++ drop (at + 16) out)
put_is out x at b e =
    let a : at + 16 - at ≡ 16 = omega arith in
    rw (e, a, drop-drop 16 at out)

pub front : (out : List ℕ) (at : ℕ) (b : Block) → at + 16 ≤ length out → take (at + 16) (take at out ++ (bytes b ++ drop (at + 16) out)) ≡ take at out ++ bytes b
front out at b h =
    let l : at ≤ length out = omega arith in
    let n : length (take at out ++ bytes b) ≡ at + 16 = length-append (take at out) (bytes b) ∙ omega (arith, length-take-le at out l, length_bytes b) in
    rw (← append_assoc (take at out) (bytes b) (drop (at + 16) out), take_at (take at out ++ bytes b) (drop (at + 16) out) (at + 16) n)

pub count_more :
    (F : Block → Block) (z : Block) (k n : ℕ) (x b : Block) (text out piece : List ℕ)
    → k < n
    → 16 * k + 16 ≤ length out
    → x ≡ block (number_from_digits 256 (get_or (first_chunks 16 n text) k []))
    → b ≡ ◌⊕◌ x (F (◌⊕◌ z (counter_block (k + 1))))
    → piece ≡ bytes b
    → take (16 * (k + 1)) (put_mid (16 * k) (16 * k + 16 - 16 * k) out piece) ++ joined (counter_mode F z (k + 1 + 1) (blocks (n - (k + 1)) (drop (16 * (k + 1)) text)))
    ≡ take (16 * k) out ++ joined (counter_mode F z (k + 1) (blocks (n - k) (drop (16 * k) text)))
count_more F z k n x b text out piece h l ex eb p =
    let m : n - k ≡ suc (n - (k + 1)) = omega arith in
    let a : 16 * (k + 1) ≡ 16 * k + 16 = omega arith in
    let q : take (16 * (k + 1)) (put_mid (16 * k) (16 * k + 16 - 16 * k) out piece) ≡ take (16 * k) out ++ bytes b = rw (a, put_is out piece (16 * k) b p, front out (16 * k) b l) in
    let e : b ≡ ◌⊕◌ (block (number_from_digits 256 (take 16 (drop (16 * k) text)))) (F (◌⊕◌ z (counter_block (k + 1)))) =
    eb ∙ ap (λ (y : Block). ◌⊕◌ y (F (◌⊕◌ z (counter_block (k + 1))))) (ex ∙ ap (λ (t : List ℕ). block (number_from_digits 256 t)) (chunk_at n k text h)) in
    let rest : List ℕ = joined (counter_mode F z (k + 1 + 1) (blocks (n - (k + 1)) (drop (16 * (k + 1)) text))) in
    let s : joined (counter_mode F z (suc (k + 1)) (blocks (n - (k + 1)) (drop 16 (drop (16 * k) text)))) ≡ rest =
    ap₂ (λ (i : ℕ) (t : List ℕ). joined (counter_mode F z i (blocks (n - (k + 1)) t))) (sym (add-one (k + 1))) (drop-drop 16 (16 * k) text ∙ ap (λ (i : ℕ). drop i text) (sym a)) in
    ap (λ (l : List ℕ). l ++ rest) q ∙ append_assoc (take (16 * k) out) (bytes b) rest
    ∙ ap (λ (l : List ℕ). take (16 * k) out ++ l)
    (ap₂ (λ (x : Block) (l : List ℕ). bytes x ++ l) e (sym s) ∙ ap (λ (i : ℕ). joined (counter_mode F z (k + 1) (blocks i (drop (16 * k) text)))) (sym m))

pub count_all :
    (F : Block → Block) (z : Block) (k n : ℕ) (text out r : List ℕ)
    → n ≤ k
    → length out ≤ 16 * k
    → take (16 * k) out ++ joined (counter_mode F z (k + 1) (blocks (n - k) (drop (16 * k) text))) ≡ r
    → out ≡ r
count_all F z k n text out r h l e =
    let m : n - k ≡ 0 = omega arith in
    sym (rw (m, take_all (16 * k) out l, append-nil out)) ∙ e

-- a slice of which the first n elements and then all others were written
pub halves :
    {X : Type 0} (front rest back : List X) (n : ℕ)
    → length front ≡ n
    → put_mid n (length (front ++ rest) - n) (front ++ rest) back ≡ front ++ back
halves front rest back n e =
    let h : length rest ≤ length (front ++ rest) - n = omega (arith, length-append front rest) in
    rw (take_at front rest n e, drop_at front rest n e, drop_all (length (front ++ rest) - n) rest h, append-nil back)

-- what lies from 32 on, once that part was written
pub written : (out back : List ℕ) → 32 ≤ length out → length back ≡ length out - 32 → drop 32 (put_mid 32 (length out - 32) out back) ≡ back
written out back h n =
    let l : length (drop 32 out) ≤ length out - 32 = omega (arith, length-drop 32 out) in
    ap (drop 32) (ap (λ (r : List ℕ). take 32 out ++ (back ++ r)) (drop_all (length out - 32) (drop 32 out) l) ∙ ap (λ (r : List ℕ). take 32 out ++ r) (append-nil back))
    ∙ drop_at (take 32 out) back 32 (length-take-le 32 out h)

pub front_take : (t : List ℕ) → front_of (take 32 t) ≡ front_of t
front_take t =
    let e : take 16 (drop 16 (take 32 t)) ≡ take 16 (drop 16 t) = ap (take 16) (drop-take 16 16 t) ∙ take-take 16 16 (drop 16 t) (omega arith) in
    rw (take-take 16 32 t (omega arith), e)

-- an accepted call, from what its parts promise
pub accepted_is :
    (d : Direction) (F : Block → Block) (g : Block → List Block → Block) (T : Block) (text tail back fr : List ℕ) (key h k z : Block) (p b q : Front)
    → tail ≡ drop 32 text
    → key ≡ hash_key F
    → h ≡ tail_hash g key T (blocks_of tail)
    → p ≡ front_of (take 32 text)
    → b ≡ to_middle d F key h p
    → z ≡ ◌⊕◌ b.first b.second
    → back ≡ joined (counter_mode F z 1 (blocks_of tail))
    → k ≡ tail_hash g key T (blocks_of back)
    → q ≡ from_middle d F key k b
    → fr ≡ bytes q.first ++ bytes q.second
    → fr ++ back ≡ transformed_bytes d F g T text
unfolding bytes_of text_of transformed finished
accepted_is d F g T text tail back fr key h k z p b q etail ekey eh ep eb ez eback ek eq efr =
    let H : List Block → Block = tail_hash g (hash_key F) T in
    let M : List Block = blocks_of (drop 32 text) in
    let h' : h ≡ H M = eh ∙ ap₂ (λ (x : Block) (t : List ℕ). tail_hash g x T (blocks_of t)) ekey etail in
    let B : Front = to_middle d F (hash_key F) (H M) (front_of text) in
    let b' : b ≡ B = eb ∙ ap₂ (λ (x y : Block). to_middle d F x y p) ekey h' ∙ ap (to_middle d F (hash_key F) (H M)) (ep ∙ front_take text) in
    let z' : z ≡ ◌⊕◌ B.first B.second = ez ∙ ap (λ (d : Front). ◌⊕◌ d.first d.second) b' in
    let N : List Block = counter_mode F (◌⊕◌ B.first B.second) 1 M in
    let back' : back ≡ joined N = eback ∙ ap₂ (λ (x : Block) (t : List ℕ). joined (counter_mode F x 1 (blocks_of t))) z' etail in
    let k' : k ≡ H N = ek ∙ ap₂ (λ (x : Block) (t : List ℕ). tail_hash g x T (blocks_of t)) ekey back' ∙ ap H (blocks_of_joined N) in
    let q' : q ≡ from_middle d F (hash_key F) (H N) B = eq ∙ ap₂ (λ (x y : Block). from_middle d F x y b) ekey k' ∙ ap (from_middle d F (hash_key F) (H N)) b' in
    ap₂ ◌++◌ (efr ∙ ap (λ (d : Front). bytes d.first ++ bytes d.second) q') back'
    ∙ sym (transformed_is d F g T text)
