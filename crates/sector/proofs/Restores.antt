-- The transform on blocks and its reverse. Assumes nothing.
use Rattle.std.proofs.Common.{◌≡◌, ℕ, suc, List, [], ◌∷◌, refl, ap, ◌∙◌, ap₂}
use lib.Bits.{xor_self}
use Rattle.elements.specs.Values.{block}
use Rattle.elements.specs.declared.values.Block.{Block}
use Rattle.elements.specs.Instances.{block_laws}
use Rattle.sector.specs.declared.text.Direction.{Direction}
use Rattle.sector.specs.declared.text.Direction.TheVariants.{Encipher, Decipher}
use Rattle.sector.specs.declared.text.Front.{Front}
use Rattle.sector.specs.Steps.{masked, unmasked, feistel, feistel_back, blended, unblended, to_middle, from_middle, finished, transformed}
use Rattle.sector.specs.Texts.{reversed}
use Rattle.sector.specs.Transform.{◌⊕◌, ◌⊗◌, Text, counter_block, counter_mode, hash_key, tail_hash}

cancel : (x y : Block) → ◌⊕◌ (◌⊕◌ x y) y ≡ x
cancel x y = block_laws.sum_assoc x y y ∙ ap (◌⊕◌ x) (ap block (xor_self y.value)) ∙ (block_laws.sum_comm x (block 0) ∙ block_laws.sum_zero x)

-- what is added twice is gone
gone : (x y z : Block) → z ≡ y → ◌⊕◌ (◌⊕◌ x y) z ≡ x
gone x y z e = ap (◌⊕◌ (◌⊕◌ x y)) e ∙ cancel x y

front_path : (p q : Front) → p.first ≡ q.first → p.second ≡ q.second → p ≡ q
front_path p q e f = λ i. record { first = e i; second = f i }

unmasked_masked : (τ h : Block) (p : Front) → unmasked τ h (masked τ h p) ≡ p
unmasked_masked τ h p = front_path (unmasked τ h (masked τ h p)) p (cancel p.first h) (cancel p.second (◌⊗◌ τ (◌⊕◌ p.first h)))

masked_unmasked : (τ h : Block) (a : Front) → masked τ h (unmasked τ h a) ≡ a
masked_unmasked τ h a =
    front_path (masked τ h (unmasked τ h a)) a (cancel a.first h)
    (gone a.second (◌⊗◌ τ a.first) (◌⊗◌ τ (◌⊕◌ (◌⊕◌ a.first h) h)) (ap (◌⊗◌ τ) (cancel a.first h)))

feistel_there : (F : Block → Block) (a : Front) → feistel_back F (feistel F a) ≡ a
feistel_there F a =
    let b1 : Block = ◌⊕◌ a.first (F a.second) in
    let second : ◌⊕◌ (◌⊕◌ a.second (F b1)) (F b1) ≡ a.second = cancel a.second (F b1) in
    front_path (feistel_back F (feistel F a)) a
    (gone a.first (F a.second) (F (◌⊕◌ (◌⊕◌ a.second (F b1)) (F b1))) (ap F second))
    second

feistel_again : (F : Block → Block) (b : Front) → feistel F (feistel_back F b) ≡ b
feistel_again F b =
    let a2 : Block = ◌⊕◌ b.second (F b.first) in
    let first : ◌⊕◌ (◌⊕◌ b.first (F a2)) (F a2) ≡ b.first = cancel b.first (F a2) in
    front_path (feistel F (feistel_back F b)) b first
    (gone b.second (F b.first) (F (◌⊕◌ (◌⊕◌ b.first (F a2)) (F a2))) (ap F first))

blended_unblended : (τ h : Block) (c : Front) → blended τ h (unblended τ h c) ≡ c
blended_unblended τ h c =
    front_path (blended τ h (unblended τ h c)) c
    (cancel c.first (◌⊗◌ τ (◌⊕◌ c.second (◌⊗◌ τ h)))) (cancel c.second (◌⊗◌ τ h))

unblended_blended : (τ h : Block) (b : Front) → unblended τ h (blended τ h b) ≡ b
unblended_blended τ h b =
    let second : ◌⊕◌ (◌⊕◌ b.second (◌⊗◌ τ h)) (◌⊗◌ τ h) ≡ b.second = cancel b.second (◌⊗◌ τ h) in
    front_path (unblended τ h (blended τ h b)) b
    (gone b.first (◌⊗◌ τ b.second) (◌⊗◌ τ (◌⊕◌ (◌⊕◌ b.second (◌⊗◌ τ h)) (◌⊗◌ τ h))) (ap (◌⊗◌ τ) second))
    second

counter_mode_twice : (F : Block → Block) (z : Block) (i : ℕ) (M : List Block) → counter_mode F z i (counter_mode F z i M) ≡ M
counter_mode_twice F z i [] = refl
counter_mode_twice F z i (b ∷ M) = ap₂ ◌∷◌ (cancel b (F (◌⊕◌ z (counter_block i)))) (counter_mode_twice F z (suc i) M)

in_out : (d : Direction) (F : Block → Block) (τ h : Block) (b : Front) → to_middle (reversed d) F τ h (from_middle d F τ h b) ≡ b
in_out Encipher F τ h b = unblended_blended τ h b
in_out Decipher F τ h b = ap (feistel F) (masked_unmasked τ h (feistel_back F b)) ∙ feistel_again F b

out_in : (d : Direction) (F : Block → Block) (τ h : Block) (p : Front) → from_middle (reversed d) F τ h (to_middle d F τ h p) ≡ p
out_in Encipher F τ h p = ap (unmasked τ h) (feistel_there F (masked τ h p)) ∙ unmasked_masked τ h p
out_in Decipher F τ h c = blended_unblended τ h c

pub text_restored : (d : Direction) (F : Block → Block) (g : Block → List Block → Block) (T : Block) (p : Text)
    → transformed (reversed d) F g T (transformed d F g T p) ≡ p
unfolding transformed finished
text_restored d F g T p =
    let τ : Block = hash_key F in
    let M : List Block = p.tail in
    let b : Front = to_middle d F τ (tail_hash g τ T M) p.front in
    let z : Block = ◌⊕◌ b.first b.second in
    let N : List Block = counter_mode F z 1 M in
    let P : List Block → Text = λ L. record { front = from_middle (reversed d) F τ (tail_hash g τ T L) b; tail = L } in
    ap (λ (e : Front). finished (reversed d) F g T e N) (in_out d F τ (tail_hash g τ T N) b)
    ∙ ap P (counter_mode_twice F z 1 M)
    ∙ ap (λ (e : Front). record { front = e; tail = M }) (out_in d F τ (tail_hash g τ T M) p.front)
