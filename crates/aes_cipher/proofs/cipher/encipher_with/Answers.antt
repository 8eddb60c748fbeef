use Rattle.std.proofs.Common.{◌≡◌, ◌-◌, length, ◌∙◌, arith}
use Rattle.aes_cipher.specs.Views.{columns_of}
use Rattle.aes_cipher.proofs.Rounds.{no_round, round_more, all_rounds}
use Rattle.aes_cipher.proofs.cipher.encipher_with.Goals as goal

pub loop-row-init : goal.loop-row-init
loop-row-init c = no_round c.args.rows.now (columns_of c.add.new.self)

pub loop-row-preserved : goal.loop-row-preserved
loop-row-preserved c =
    let rows = c.args.rows.now in
    round_more rows (length rows - 1 - 1) c.loop-row.row-index _ (columns_of c.add.new.self) (columns_of c.loop-row.state) (columns_of c.round.new.self)
    (omega arith) (omega arith) c.loop-row.invariant c.round.ensures

pub returns : goal.returns
returns c =
    let rows = c.args.rows.now in
    let n = length rows - 1 in
    let end : c.loop-row.row-index ≡ n - 1 = omega arith in
    c.block.ensures
    ∙ all_rounds rows n c.loop-row.row-index _ _ c.args.x
    (columns_of c.of-state.result) (columns_of c.add.new.self) (columns_of c.loop-row.state) (columns_of c.last_round.new.self)
    (omega arith) end c.of-state.ensures c.add.ensures c.loop-row.invariant c.last_round.ensures
