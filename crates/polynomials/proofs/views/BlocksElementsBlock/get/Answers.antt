use Rattle.std.proofs.Common.{◌≡◌, ℕ, ◌/◌, List, length, ap, ◌∙◌, slice_get, rules}
use Rattle.std.specs.Int.Digits.{number_from_digits}
use Rattle.std.specs.Option.{option_map}
use Rattle.std.proofs.lemmas.Option.{gets}
use Rattle.elements.specs.Values.{block}
use Rattle.elements.specs.declared.values.Block.{Block}
use Rattle.polynomials.proofs.Parts.{blocks_get, mapped}
use Rattle.polynomials.proofs.views.BlocksElementsBlock.get.Goals as goal

pub returns : goal.returns
returns c =
    let t = c.args.self.now.bytes.now in
    let i = c.args.i in
    let of : List ℕ → Block = λ bs. block (number_from_digits 256 bs) in
    let found : c.copied.result ≡ slice_get c.as_chunks.result.0.now i = search (rules, gets) in
    mapped of c.copied.result c.map.result c.map.ensures.cases
    ∙ ap (option_map of) (found ∙ ap (λ (l : List (List ℕ)). slice_get l i) c.as_chunks.ensures.front) ∙ blocks_get (length t / 16) i t
