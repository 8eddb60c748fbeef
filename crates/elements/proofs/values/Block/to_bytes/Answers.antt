use Rattle.std.proofs.Common.{◌≡◌, ap, ◌∙◌, mod-eq_of_lt, rules}
use Rattle.std.specs.Int.Digits.{number_from_digits}
use Rattle.elements.specs.Endian.{big_endian}
use Rattle.elements.specs.Values.{block}
use Rattle.elements.proofs.Endians.{number_big_endian}
use Rattle.elements.specs.Instances.{block_whole}
use Rattle.elements.proofs.values.Block.to_bytes.Goals as goal

pub returns-clause-back : goal.returns-clause-back
returns-clause-back c =
    let x = c.args.self in
    let value : c.to_be_bytes.result ≡ big_endian 16 x.value = search rules in
    ap (λ bs. block (number_from_digits 256 bs)) value ∙ ap block (number_big_endian 16 x.value ∙ mod-eq_of_lt x.fits) ∙ block_whole x
