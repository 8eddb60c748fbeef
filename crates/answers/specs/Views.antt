-- The code's values as the definitions'. Assumes nothing.
use Rattle.std.specs.Prelude.{List, Some, None, Option, Ok, Err, Result}
use Rattle.elements.specs.declared.values.Block.{Block as BlockValue}
use Rattle.ciphers.specs.declared.choice.Cipher.{Cipher}
use Rattle.ciphers.specs.declared.choice.Cipher.TheVariants.{Aes, Speck}
use Rattle.text.specs.Views.{blocks_in}
use Rattle.answers.specs.Reading.{Known, of_aes, of_speck, of_product, of_horner, of_brw, of_sector, Reading, passed, understood, not_understood, Three, Six}
use Rattle.answers.specs.declared.answer.Answer.{Answer}
use Rattle.answers.specs.declared.answer.Answer.TheVariants.{Block, Product, Polynomial as Value, Sector}
use Rattle.answers.specs.declared.answer.NotUnderstood.{NotUnderstood}
use Rattle.answers.specs.declared.answer.Polynomial.{Polynomial}
use Rattle.answers.specs.declared.answer.Polynomial.TheVariants.{Horner, Brw}
use Rattle.answers.specs.declared.reading.Six.{Six as SixTexts}
use Rattle.answers.specs.declared.reading.Three.{Three as Texts}

-- three texts as words
abbrev pub three_of : Texts → Three
three_of t = record { first = t.first.now; second = t.second.now; third = t.third.now }

-- six texts as words
abbrev pub six_of : SixTexts → Six
six_of t = record { cipher = t.cipher.now; hash = t.hash.now; key = t.key.now; fields = three_of t.fields }

-- the answer of a cipher, by its key and its blocks
abbrev pub of_cipher : Cipher → BlockValue → BlockValue → BlockValue → Known
of_cipher Aes = of_aes
of_cipher Speck = of_speck

-- the answer of a polynomial, by its key, its list and its value
abbrev pub of_polynomial : Polynomial → BlockValue → List BlockValue → BlockValue → Known
of_polynomial Horner = of_horner
of_polynomial Brw = of_brw

-- the answer that the code holds
abbrev pub known_of : Answer → Known
known_of (Block cipher key plain enciphered) = of_cipher cipher key plain enciphered
known_of (Product a b result) = of_product a b result
known_of (Value polynomial key list result) = of_polynomial polynomial key (blocks_in list) result
known_of (Sector cipher hash key n plain enciphered) = of_sector cipher hash key n (blocks_in plain) (blocks_in enciphered)

-- the reading that the code gives
abbrev pub said : Result (Option Answer) NotUnderstood → Reading
said (Ok None) = passed
said (Ok (Some a)) = understood (known_of a)
said (Err e) = not_understood
