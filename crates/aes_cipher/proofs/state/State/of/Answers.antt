use Rattle.std.proofs.Common.{ℕ, List, ap, ◌∙◌, rules}
use Rattle.aes_rules.specs.Aes.{four, word_at, input}
use Rattle.aes_cipher.proofs.Words.{columns_are}
use Rattle.aes_cipher.proofs.state.State.of.Goals as goal

pub returns : goal.returns
unfolding input
returns c =
    columns_are c.from_fn.result (word_at c.to_bytes-bytes.result) (λ i d h. let called = c.from_fn.ensures.items.at i d h in search rules)
    ∙ ap (λ (b : List ℕ). four (word_at b)) c.to_bytes-bytes.ensures.value
