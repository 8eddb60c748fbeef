use Rattle.std.proofs.Common.{◌≡◌, ℕ, ◌%◌, List, ◌++◌, length, ap, ◌∙◌, arith}
use Rattle.elements.specs.declared.values.Block.{Block}
use Rattle.polynomials.specs.Blocks.{blocks_of}
use Rattle.sector.specs.Texts.{bytes}
use Rattle.sector.specs.Transform.{◌⊗◌, tail_hash}
use Rattle.sector.proofs.Bytes.{blocks_of_push}
use Rattle.sector.proofs.tails.tail_hash.Goals as goal

pub returns : goal.returns
unfolding tail_hash bytes
returns g c =
    let tail : List ℕ = c.args.tail.now in
    let T : Block = c.args.tweak in
    let G : List Block → Block = g.H.BlockHash.hash c.args.g.now c.args.key in
    let whole : length tail % 16 ≡ 0 = omega arith in
    let list = c.put_list.ensures ∙ ap (λ (l : List ℕ). tail ++ l) c.to_bytes.ensures.value in
    c.mul.ensures
    ∙ ap (◌⊗◌ c.args.key) (c.call.ensures ∙ ap (λ (l : List ℕ). G (blocks_of l)) list ∙ ap G (blocks_of_push tail T whole))
