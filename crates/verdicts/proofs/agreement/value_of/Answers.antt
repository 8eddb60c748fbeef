use Rattle.std.proofs.Common.{sym, ap, ◌∙◌, arith}
use Rattle.std.proofs.lemmas.Option.{same_Some}
use Rattle.text.specs.Views.{blocks_in}
use Rattle.answers.specs.declared.answer.Polynomial.{Polynomial}
use Rattle.verdicts.specs.Agreement.{polynomial_of}
use Rattle.verdicts.proofs.agreement.value_of.Goals as goal

pub returns-in-Brw : goal.returns-in-Brw
returns-in-Brw c =
    same_Some _ _ (sym c.unwrap.ensures ∙ c.brw.ensures.enough (omega arith))
    ∙ ap (λ (p : Polynomial). polynomial_of p c.args.key (blocks_in c.args.list.now)) (sym c.in-Brw.is)
