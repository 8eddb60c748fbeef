use Rattle.std.proofs.Common.{ℕ, ◌+◌, ◌*◌, ◌^◌, ◌∙◌, ap₂}
use Rattle.elements.specs.Values.{block}
use Rattle.ciphers.specs.Speck.{joined}
use Rattle.ciphers.proofs.speck.BlockFromWords.from.Goals as goal

pub returns : goal.returns
unfolding joined
returns c = c.new.ensures ∙ ap₂ (λ (u v : ℕ). block (u * 2 ^ 64 + v)) c.from.ensures c.from-2.ensures
