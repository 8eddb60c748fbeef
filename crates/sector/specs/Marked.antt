-- The marked cases, all of them: values that the published description gives. Assumes nothing.
use Rattle.std.specs.Prelude.{◌≡◌, ℕ, List, [], ◌∷◌, replicate, Some, None}
use Rattle.elements.specs.Values.{byte, byte_operations, block, block_double, block_operations, degree, degree_operations}
use Rattle.elements.specs.declared.values.Block.{Block}
use Rattle.polynomials.specs.Sums.{horner, brw}
use Rattle.hashing.specs.Hashes.{horner_hash, brw_hash}
use Rattle.sector.specs.Transform.{Text, tweak, enciphered}

-- Horner and BRW of blocks at the key 02
abbrev pub horner_at_two : List Block → Block
horner_at_two = horner block_operations (block 0x02)

abbrev pub brw_at_two : List Block → Block
brw_at_two = brw block_operations (block 0x02)

-- a text of four blocks
abbrev pub four : ℕ → ℕ → ℕ → ℕ → Text
four a b c d = record { front = record { first = block a; second = block b }; tail = block c ∷ (block d ∷ []) }

-- the block function whose value is always this block
abbrev pub always : ℕ → Block → Block
always n x = block n

pub record Marked : Type 0 where
  pub double_of_top : block_double (block 0x80000000000000000000000000000000) ≡ block 0x87
  pub three_times_three : block_operations.product (block 0x03) (block 0x03) ≡ block 0x05
  pub byte_product : byte_operations.product (byte 0x57) (byte 0x83) ≡ byte 0xc1
  pub absent_plus_five : degree_operations.sum (degree None) (degree (Some 5)) ≡ degree (Some 5)
  pub absent_times_five : degree_operations.product (degree None) (degree (Some 5)) ≡ degree None
  pub three_times_five : degree_operations.product (degree (Some 3)) (degree (Some 5)) ≡ degree (Some 8)
  pub horner_of_three : horner_at_two (block 0x01 ∷ (block 0x00 ∷ (block 0x05 ∷ []))) ≡ block 0x01
  pub brw_of_two : brw_at_two (block 0x03 ∷ (block 0x01 ∷ [])) ≡ block 0x07
  pub brw_of_three : brw_at_two (block 0x01 ∷ (block 0x02 ∷ (block 0x03 ∷ []))) ≡ block 0x09
  pub brw_of_four_zeros : brw_at_two (replicate 4 (block 0x00)) ≡ block 0x80
  pub brw_of_seven_zeros : brw_at_two (replicate 7 (block 0x00)) ≡ block 0x88
  pub sector_zero_brw : enciphered (always 0x02) brw_hash (tweak 0) (four 0 0 0 0) ≡ four 0x56 0x22 0x02 0x02
  pub sector_zero_horner : enciphered (always 0x02) horner_hash (tweak 0) (four 0 0 0 0) ≡ four 0x56 0x32 0x02 0x02
  pub sector_one_brw : enciphered (always 0x02) brw_hash (tweak 1) (four 0 0 0 0) ≡ four 0x5c 0x22 0x02 0x02
  pub zero_function : enciphered (always 0x00) brw_hash (tweak 0) (four 0x01 0x02 0x03 0x04) ≡ four 0x01 0x02 0x03 0x04
