use Rattle.std.proofs.Common.{mod-eq_of_lt, lit<}
use Rattle.elements.specs.Values.{byte_operations, block_operations}
use Rattle.elements.specs.declared.values.Block.{Block}
use Rattle.elements.specs.declared.values.Byte.{Byte}
use Rattle.elements.specs.Powers.{times_lt}
use Rattle.elements.proofs.Reduction.{product_reduced}
use Rattle.elements.proofs.theorems.products_are_reduced.Goals as goal

pub returns : goal.returns
returns c = record {
  bytes = product_reduced 8 27 (lit< tt) (λ (x : Byte). x.value) byte_operations.product (λ x. x.fits) (λ x y. mod-eq_of_lt (times_lt 8 27 (lit< tt) 8 x.value y.value y.fits));
  blocks = product_reduced 128 135 (lit< tt) (λ (x : Block). x.value) block_operations.product (λ x. x.fits) (λ x y. mod-eq_of_lt (times_lt 128 135 (lit< tt) 128 x.value y.value y.fits));
}
