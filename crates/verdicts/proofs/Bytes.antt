-- Blocks written as bytes, and the texts of a sector. Assumes nothing.
use Rattle.std.proofs.Common.{◌≡◌, ℕ, ◌+◌, ◌-◌, ◌*◌, ◌<◌, ◌≤◌, Bool, true, List, ◌++◌, length, get_or, take, drop, Decides, sym, ap, ◌∙◌, arith}
use borrow.Rule.Slice.PartMut.{put_mid}
use Rattle.std.specs.Int.Digits.{number_from_digits}
use Rattle.std.proofs.ByRecursion.{All-from_get_or}
use Rattle.std.proofs.lemmas.List.{append_assoc, append-nil, drop_all, drop_more, take_all, take_at}
use Rattle.std.proofs.lemmas.Slice.{take-put_mid}
use Rattle.elements.specs.Values.{block}
use Rattle.elements.specs.declared.values.Block.{Block}
use Rattle.ciphers.specs.Choice.{keyed_of}
use Rattle.hashing.specs.Choice.{hash_of}
use Rattle.sector.proofs.Bytes.{length_bytes, bytes_block, length_joined}
use Rattle.sector.specs.Texts.{bytes, joined, enciphered_bytes, deciphered_bytes}
use Rattle.sector.specs.Transform.{tweak}
use Rattle.answers.specs.Reading.{sector_texts}
use Rattle.verdicts.specs.Agreement.{key_bytes}
use Rattle.verdicts.specs.Settings.{BothWays, InSetting}
use Rattle.verdicts.specs.declared.sectors.Setting.{Setting}

-- sixteen bytes are those of the block that they make
pub key_whole : (k : List ℕ) → length k ≡ 16 → ((i : ℕ) → get_or k i 0 < 256) → key_bytes (block (number_from_digits 256 k)) ≡ k
unfolding key_bytes bytes
key_whole k l h = bytes_block k l (All-from_get_or (λ d. d < 256) k 0 (λ i _. h i))

-- one block more
pub bytes_more :
    (xs : List Block) (k : ℕ) (b : Block) (out piece : List ℕ)
    → k < length xs
    → 16 * k + 16 ≤ length out
    → b ≡ get_or xs k b
    → piece ≡ bytes b
    → take (16 * (k + 1)) (put_mid (16 * k) (16 * k + 16 - 16 * k) out piece) ++ joined (drop (k + 1) xs) ≡ take (16 * k) out ++ joined (drop k xs)
bytes_more xs k b out piece h l e p =
    let rest : List ℕ = joined (drop (k + 1) xs) in
    let q = take-put_mid (16 * k) (16 * k + 16 - 16 * k) out piece (16 * (k + 1)) (omega (arith, ap length p, length_bytes b)) (omega arith) in
    ap (λ (t : List ℕ). t ++ rest) q ∙ append_assoc (take (16 * k) out) piece rest
    ∙ ap (λ (t : List ℕ). take (16 * k) out ++ t) (ap (λ (t : List ℕ). t ++ rest) p ∙ ap (λ (x : Block). bytes x ++ rest) e ∙ sym (ap joined (drop_more xs k b h)))

-- all of them
pub bytes_all : (xs : List Block) (k : ℕ) (out r : List ℕ) → length xs ≤ k → length out ≤ 16 * k → take (16 * k) out ++ joined (drop k xs) ≡ r → out ≡ r
bytes_all xs k out r h l e = sym (rw (drop_all k xs h, take_all (16 * k) out l, append-nil out)) ∙ e

-- the front of a buffer, once the bytes of n blocks were written there
pub front_written : (new rest : List ℕ) (n : ℕ) (p : List Block) → new ≡ joined p → n ≡ length p → take (16 * n - 0) (new ++ rest) ≡ joined p
front_written new rest n p e m =
    let l : length new ≡ 16 * n - 0 = ap length e ∙ length_joined p ∙ omega arith in
    take_at new rest (16 * n - 0) l ∙ e

-- a test of the bytes is one of the blocks
pub in_setting :
    (s : Setting) (r : Bool) (p e : List Block) (x y : List ℕ)
    → sector_texts p e ≡ true
    → x ≡ joined p
    → y ≡ joined e
    → Decides r (BothWays s x y)
    → Decides r (InSetting s p e)
in_setting s r p e x y t f g d =
    let E : List ℕ → List ℕ = enciphered_bytes (keyed_of s.cipher.function) (hash_of s.cipher.hash) (tweak s.number) in
    let D : List ℕ → List ℕ = deciphered_bytes (keyed_of s.cipher.function) (hash_of s.cipher.hash) (tweak s.number) in (
      (λ h. record { texts = t; enciphers = ap E (sym f) ∙ (d.0 h).enciphers ∙ g; deciphers = ap D (sym g) ∙ (d.0 h).deciphers ∙ f }),
      (λ w. d.1 (record { enciphers = ap E f ∙ w.enciphers ∙ sym g; deciphers = ap D g ∙ w.deciphers ∙ sym f })),
    )
