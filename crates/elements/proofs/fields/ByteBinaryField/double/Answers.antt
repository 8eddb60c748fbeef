use Rattle.std.proofs.Common.{ℕ, ◌/◌, ◌%◌, ◌^◌, sym, refl, ◌∙◌, ap₂, arith, lit<}
use lib.Bits.{bit_xor}
use Rattle.elements.specs.Field.{pick}
use Rattle.elements.specs.Powers.{double_by}
use Rattle.elements.proofs.Made.{byte_of}
use Rattle.elements.proofs.fields.ByteBinaryField.double.Goals as goal

pub returns : goal.returns
returns c =
    let x = c.args.self.value in
    let shifted = byte_of c.new.ensures refl (omega arith) in
    let first = byte_of c.new-first.ensures refl (omega arith) in
    let feedback = byte_of c.new-2.ensures refl (lit< tt) in
    c.xor.ensures ∙ ap₂ bit_xor shifted (c.last_picks.ensures ∙ ap₂ (λ (n m : ℕ). pick (n % 2) m) first feedback)
    ∙ sym (double_by 8 27 x (x / 2 ^ 7 % 2) (omega arith))
