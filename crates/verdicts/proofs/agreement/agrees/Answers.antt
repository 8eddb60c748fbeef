use Rattle.std.proofs.Common.{Decides, sym, subst, ◌∙◌}
use mathlib.Core.Path.{fun_ext}
use Rattle.elements.specs.declared.values.Block.{Block}
use Rattle.hashing.specs.Choice.{hash_of}
use Rattle.sector.specs.Transform.{tweak}
use Rattle.answers.specs.Views.{known_of}
use Rattle.answers.specs.declared.answer.Answer.{Answer}
use Rattle.text.specs.Views.{blocks_in}
use Rattle.verdicts.specs.Agreement.{Holds, OneSector}
use Rattle.verdicts.proofs.Holding.{told, by_cipher, by_polynomial}
use Rattle.verdicts.proofs.agreement.agrees.Goals as goal

pub returns-in-Block : goal.returns-in-Block
returns-in-Block c =
    let a = c.in-Block in
    subst (λ (x : Answer). Decides c.eq.result (Holds (known_of x))) (sym a.is)
    (by_cipher a.cipher a.key a.plain a.enciphered _ (told _ c.call.result _ a.enciphered c.eq.ensures (c.call.ensures ∙ c.keyed.ensures a.plain)))

pub returns-in-Product : goal.returns-in-Product
returns-in-Product c =
    let a = c.in-Product in
    subst (λ (x : Answer). Decides c.eq-in-Product.result (Holds (known_of x))) (sym a.is)
    (told _ c.mul.result _ a.result c.eq-in-Product.ensures c.mul.ensures)

pub returns-in-Polynomial : goal.returns-in-Polynomial
returns-in-Polynomial c =
    let a = c.in-Polynomial in
    subst (λ (x : Answer). Decides c.eq-in-Polynomial.result (Holds (known_of x))) (sym a.is)
    (by_polynomial a.polynomial a.key (blocks_in a.list) a.result _ (told _ c.value_of.result _ a.result c.eq-in-Polynomial.ensures c.value_of.ensures))

pub returns-in-Sector : goal.returns-in-Sector
returns-in-Sector c =
    let a = c.in-Sector in
    subst (λ (x : Answer). Decides c.agrees.result (Holds (known_of x))) (sym a.is)
    (subst (λ (F : Block → Block). Decides c.agrees.result (OneSector F (hash_of a.hash) (tweak a.number) (blocks_in a.plain) (blocks_in a.enciphered)))
    (fun_ext (λ x. c.keyed-in-Sector.ensures x)) c.agrees.ensures)
