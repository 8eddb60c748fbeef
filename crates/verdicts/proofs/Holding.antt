-- What an answer says, by its cipher or polynomial. Assumes nothing.
use Rattle.std.proofs.Common.{◌≡◌, Bool, eqb, List, Decides, sym, ap, ◌∙◌}
use Rattle.std.proofs.lemmas.Bool.{eqb-true, eq-eqb}
use Rattle.elements.specs.Instances.{block_whole}
use Rattle.elements.specs.Values.{block}
use Rattle.elements.specs.declared.values.Block.{Block}
use Rattle.ciphers.specs.Choice.{cipher_of}
use Rattle.ciphers.specs.declared.choice.Cipher.{Cipher}
use Rattle.ciphers.specs.declared.choice.Cipher.TheVariants.{Aes, Speck}
use Rattle.answers.specs.Views.{of_cipher, of_polynomial}
use Rattle.answers.specs.declared.answer.Polynomial.{Polynomial}
use Rattle.answers.specs.declared.answer.Polynomial.TheVariants.{Horner, Brw}
use Rattle.verdicts.specs.Agreement.{key_bytes, polynomial_of, Holds}

-- blocks are the same where their numbers are
same_block : (x y : Block) → x.value ≡ y.value → x ≡ y
same_block x y e = sym (block_whole x) ∙ ap block e ∙ block_whole y

-- a test of what came out is one of what it is
pub told : (r : Bool) (out x y : Block) → r ≡ eqb out.value y.value → out ≡ x → Decides r (x ≡ y)
told r out x y p e = (
  (λ t. sym e ∙ same_block out y (eqb-true out.value y.value (sym p ∙ t))),
  (λ q. p ∙ eq-eqb out.value y.value (ap (λ (b : Block). b.value) (e ∙ q))),
)

pub by_cipher : (c : Cipher) (key plain enciphered : Block) (r : Bool) → Decides r (cipher_of c (key_bytes key) plain ≡ enciphered) → Decides r (Holds (of_cipher c key plain enciphered))
by_cipher Aes key plain enciphered r d = d
by_cipher Speck key plain enciphered r d = d

pub by_polynomial : (p : Polynomial) (key : Block) (list : List Block) (value : Block) (r : Bool) → Decides r (polynomial_of p key list ≡ value) → Decides r (Holds (of_polynomial p key list value))
by_polynomial Horner key list value r d = d
by_polynomial Brw key list value r d = d
