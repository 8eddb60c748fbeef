use Rattle.std.proofs.Common.{◌≡◌, ℕ, List, ap, ◌∙◌, ap₂, arith}
use Rattle.aes_rules.specs.Aes.{Word, key_expansion, aes, aes_with}
use Rattle.aes_cipher.proofs.cipher.Aes128.new.Goals as goal

pub returns : goal.returns
unfolding aes
returns c x =
    let of = c.of.ensures in
    let four : c.of.result.words ≡ 4 = omega arith in
    ap (λ (w : List Word). aes_with 10 w x) (c.expand.ensures ∙ ap₂ (λ (n : ℕ) (key : List ℕ). key_expansion n key 44) four (ap (λ (b : _). b.now) of.bytes))
