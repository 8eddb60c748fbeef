use Rattle.std.proofs.Common.{◌/◌, ℕ, List, [], length, get_or, ap, ◌∙◌, arith}
use Rattle.std.specs.Int.Digits.{number_from_digits}
use Rattle.elements.specs.Values.{block}
use Rattle.sector.specs.Texts.{bytes}
use Rattle.sector.specs.Transform.{◌⊕◌}
use Rattle.sector.proofs.Loops.{count_more, count_all}
use Rattle.sector.proofs.counter.count.Goals as goal

pub loop-k-preserved : goal.loop-k-preserved
unfolding bytes
loop-k-preserved g c =
    let F = g.F.BlockFunction.function c.args.f.now in
    let text = c.args.text.now in
    let x = c.from_bytes.ensures ∙ ap (λ (l : List (List ℕ)). block (number_from_digits 256 (get_or l c.loop-k.k []))) c.blocks_in-blocks.ensures.blocks in
    count_more F c.args.z c.loop-k.k (length text / 16) c.from_bytes.result c.add-in-loop-k.result text c.loop-k.output c.copy_from_slice.new.self (omega arith) (omega arith)
    x
    (c.add-in-loop-k.ensures ∙ ap (◌⊕◌ c.from_bytes.result) (c.call-mask.ensures ∙ ap F (c.add.ensures ∙ ap (◌⊕◌ c.args.z) c.new.ensures)))
    (c.copy_from_slice.ensures.after ∙ c.to_bytes-y.ensures.value)
    ∙ c.loop-k.invariant

pub returns : goal.returns
returns g c =
    let text = c.args.text.now in
    count_all (g.F.BlockFunction.function c.args.f.now) c.args.z c.loop-k.k (length text / 16) text c.loop-k.output _ (omega arith) (omega arith) c.loop-k.invariant
