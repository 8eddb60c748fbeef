use Rattle.std.proofs.Common.{List, ap, ◌∙◌}
use Rattle.aes_rules.specs.Aes.{Word, shift_rows, add_round_key, last_round}
use Rattle.aes_cipher.specs.Views.{row_words}
use Rattle.aes_cipher.proofs.state.State.last_round.Goals as goal

pub returns : goal.returns
unfolding last_round
returns c =
    let shifted = c.shift.ensures ∙ ap shift_rows c.sub.ensures in
    c.add.ensures ∙ ap (λ (s : List Word). add_round_key s (row_words c.args.key.now)) shifted
