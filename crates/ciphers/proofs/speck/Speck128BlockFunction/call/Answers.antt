use Rattle.std.proofs.Common.{sym, ap, ◌∙◌}
use Rattle.ciphers.specs.Speck.{Pair, rounds, round_keys}
use Rattle.ciphers.specs.SpeckViews.{pair}
use Rattle.ciphers.proofs.SpeckRounds.{more, all, whole}
use Rattle.ciphers.proofs.speck.Speck128BlockFunction.call.Goals as goal

pub loop-i-preserved : goal.loop-i-preserved
loop-i-preserved c =
    more c.loop-i.i (pair c.loop-i.key) (pair c.loop-i.text) (pair c.round-in-loop-i.new.self) (pair c.round.new.self)
    c.loop-i-test.true c.round-in-loop-i.ensures c.round.ensures
    ∙ c.loop-i.invariant

pub returns : goal.returns
returns c =
    let key = pair c.args.self.now.key in
    let text = pair c.loop-i.text in
    c.from.ensures
    ∙ whole key text c.args.x
    (sym (all c.loop-i.i (pair c.loop-i.key) text c.loop-i-test.false)
    ∙ c.loop-i.invariant ∙ ap (λ (w : Pair). rounds (round_keys 32 0 key) w) c.from-text.ensures)
