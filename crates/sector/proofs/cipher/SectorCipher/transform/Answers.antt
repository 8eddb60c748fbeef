use Rattle.std.proofs.Common.{cond, length, is_ok, ap, ◌∙◌}
use Rattle.elements.specs.declared.values.Block.{Block}
use Rattle.sector.specs.Texts.{reversed, transformed_bytes}
use Rattle.sector.specs.Transform.{tweak}
use Rattle.sector.proofs.Bytes.{restored}
use Rattle.sector.proofs.Lengths.{comes_back}
use Rattle.sector.proofs.cipher.SectorCipher.transform.Goals as goal

pub returns-then-cover_stack-eq0-clause-inverse : goal.returns-then-cover_stack-eq0-clause-inverse
returns-then-cover_stack-eq0-clause-inverse g c =
    let F = g.F.BlockFunction.function c.args.self.now.function in
    let G = g.H.BlockHash.hash c.args.self.now.hash in
    let d = c.args.direction in
    let T : Block = tweak c.args.sector in
    let text = c.args.text.now in
    let before = c.args.output.now in
    let call = c.uncovered-answer in
    comes_back (transformed_bytes d F G T) (transformed_bytes (reversed d) F G T) text call.new.output before call.result (length before) (length c.args.working.now)
    (restored d F G T) c.type_inv.text call.ensures.answer
    (call.ensures.output ∙ ap (λ (x : Block). cond (is_ok call.result) (transformed_bytes d F G x text) before) c.tweak_block.ensures)
