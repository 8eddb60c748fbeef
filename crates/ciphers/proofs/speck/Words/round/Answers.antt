use Rattle.ciphers.specs.Speck.{rotated_left, rotated_right}
use Rattle.ciphers.specs.SpeckViews.{pair}
use Rattle.ciphers.proofs.SpeckRounds.{round_is}
use Rattle.ciphers.proofs.speck.Words.round.Goals as goal

pub returns : goal.returns
unfolding rotated_left rotated_right
returns c =
    round_is (pair c.args.self.now) c.args.key c.rotate_right.result c.rotate_left.result c.rotate_right.ensures c.rotate_left.ensures
