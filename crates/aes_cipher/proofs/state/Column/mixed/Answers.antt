use Rattle.std.proofs.Common.{ap, ◌∙◌}
use Rattle.elements.specs.Values.{byte_operations}
use Rattle.polynomials.specs.Sums.{dot}
use Rattle.aes_rules.specs.Aes.{Word}
use Rattle.aes_cipher.proofs.Words.{mixed_at}
use Rattle.aes_cipher.proofs.state.Column.mixed.Goals as goal

pub returns : goal.returns
returns c =
    let w = c.args.self.now.bytes in
    c.sum_of_products.ensures ∙ ap (λ (row : Word). dot byte_operations row w) c.from.ensures ∙ mixed_at w c.args.r c.requires
