-- The marked cases hold, by computation. Assumes nothing.
use Rattle.std.proofs.Common.{refl}
use Rattle.elements.specs.Field.{double, times}
use Rattle.polynomials.specs.Sums.{log2_to, log2, brw_to, brw}
use Rattle.sector.specs.Marked.{Marked}
use Rattle.sector.specs.Transform.{tail_hash, enciphered}

pub marked : Marked
unfolding double times log2_to log2 brw_to brw tail_hash enciphered
marked = record {
  double_of_top = refl;
  three_times_three = refl;
  byte_product = refl;
  absent_plus_five = refl;
  absent_times_five = refl;
  three_times_five = refl;
  horner_of_three = refl;
  brw_of_two = refl;
  brw_of_three = refl;
  brw_of_four_zeros = refl;
  brw_of_seven_zeros = refl;
  sector_zero_brw = refl;
  sector_zero_horner = refl;
  sector_one_brw = refl;
  zero_function = refl;
}
