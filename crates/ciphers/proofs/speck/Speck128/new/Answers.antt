use Rattle.std.proofs.Common.{ap, ◌∙◌}
use Rattle.ciphers.specs.Speck.{Pair, halves, speck, speck_with}
use Rattle.ciphers.proofs.speck.Speck128.new.Goals as goal

pub returns : goal.returns
unfolding speck
returns c x = ap (λ (w : Pair). speck_with w x) (c.from.ensures ∙ ap halves c.from_bytes.ensures)
