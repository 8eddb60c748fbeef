use Rattle.std.proofs.Common.{sym, ap, ◌∙◌}
use Rattle.elements.specs.Values.{block}
use Rattle.elements.specs.Instances.{block_whole}
use Rattle.elements.specs.Powers.{times_two}
use Rattle.elements.proofs.values.Block.double.Goals as goal

pub returns-clause-product : goal.returns-clause-product
returns-clause-product c = sym (block_whole _) ∙ ap block (c.double.ensures ∙ sym (times_two 128 135 126 c.args.self.value))
