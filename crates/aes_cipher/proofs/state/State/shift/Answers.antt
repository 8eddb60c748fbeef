use Rattle.std.proofs.Common.{◌+◌, ◌%◌, rules}
use Rattle.aes_rules.specs.Aes.{four, at, word, shift_rows}
use Rattle.aes_cipher.specs.Views.{columns_of}
use Rattle.aes_cipher.proofs.Words.{columns_are}
use Rattle.aes_cipher.proofs.state.State.shift.Goals as goal

pub returns : goal.returns
unfolding shift_rows
returns c =
    let s = columns_of c.args.self.now in
    columns_are c.from_fn-self.result (λ i. four (λ r. at (word s ((i + r) % 4)) r))
    (λ i d h. let called = c.from_fn-self.ensures.items.at i d h in search rules)
