use Rattle.std.proofs.Common.{◌<◌, refl, ap, ◌∙◌}
use Rattle.std.proofs.ByRecursion.{All-from_get_or}
use Rattle.stacks.specs.declared.call.Answer.TheVariants.{Transfer}
use Rattle.stacks.proofs.run.put_write.Goals as goal

pub returns : goal.returns
returns g c = record {
  step = (c.told.ensures ∙ ap Transfer c.write.ensures.answer, refl, c.write.ensures.after);
  octets = All-from_get_or (λ b. b < 256) c.args.buffer.now 0 (λ i h. (c.type_inv.buffer i).fits);
}
