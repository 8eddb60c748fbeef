use Rattle.std.proofs.Common.{List, ap, ◌∙◌}
use Rattle.aes_rules.specs.Aes.{Word, shift_rows, mix_columns, add_round_key, round}
use Rattle.aes_cipher.specs.Views.{row_words}
use Rattle.aes_cipher.proofs.state.State.round.Goals as goal

pub returns : goal.returns
unfolding round
returns c =
    let shifted = c.shift.ensures ∙ ap shift_rows c.sub.ensures in
    let mixed = c.mix.ensures ∙ ap mix_columns shifted in
    c.add.ensures ∙ ap (λ (s : List Word). add_round_key s (row_words c.args.key.now)) mixed
