use Rattle.std.proofs.Common.{is_some, sym, ap, ◌∙◌}
use Rattle.aes_rules.specs.Aes.{rcon}
use Rattle.aes_rules.proofs.Rules.{constant_some, constant_is}
use Rattle.aes_cipher.proofs.Words.{each}
use Rattle.aes_cipher.proofs.state.Column.of_round.Goals as goal

pub unwrap-requires : goal.unwrap-requires
unwrap-requires c = ap is_some (c.round_constant.ensures ∙ constant_some c.args.j c.requires.from c.requires.to)

pub returns : goal.returns
unfolding rcon
returns c =
    each (constant_is c.args.j c.unwrap.result c.requires.from c.requires.to (sym c.round_constant.ensures ∙ c.unwrap.ensures))
    c.new-zero.ensures c.new-zero.ensures c.new-zero.ensures
