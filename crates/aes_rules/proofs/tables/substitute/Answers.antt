use Rattle.std.proofs.Common.{arith}
use Rattle.aes_rules.proofs.Rules.{substituted, inverted}
use Rattle.aes_rules.proofs.tables.substitute.Goals as goal

pub returns : goal.returns
returns c = record {
  value = substituted c.args.table.now c.args.x c.new.result c.new.ensures (omega arith) c.requires;
  inverts = inverted c.args.table.now c.args.x c.new.result c.new.ensures (omega arith) c.requires;
}
