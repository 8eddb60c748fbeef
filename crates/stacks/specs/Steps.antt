-- What one call does to a stack, for the step of a run. Assumes nothing.
use Rattle.std.specs.Prelude.{◌≡◌, length}
use Rattle.std.specs.Int.Digits.{AllBelowBase}
use Rattle.stores.specs.Stores.{refusal, outcome, state, filled}
use Rattle.stores.specs.Layers.{Stack, store, after_write}
use Rattle.stacks.specs.declared.call.Answer.{Answer}
use Rattle.stacks.specs.declared.call.Answer.TheVariants.{Transfer, Number, State}
use Rattle.stacks.specs.Calls.{Ask, ask_count, ask_length, ask_layer, ask_state, ask_read, ask_write}

-- the stack p becomes p' and the call q becomes q', by what its buffer holds, with the answer a
abbrev pub Step : Stack → Stack → Ask → Ask → Answer → Type 0
Step p p' ask_count q' a = (a ≡ Number (store p).count) × (q' ≡ ask_count) × (p' ≡ p)
Step p p' ask_length q' a = (a ≡ Number (store p).size) × (q' ≡ ask_length) × (p' ≡ p)
Step p p' ask_layer q' a = (a ≡ Number (store p).layer) × (q' ≡ ask_layer) × (p' ≡ p)
Step p p' (ask_state n) q' a = (a ≡ State (state (store p) n)) × (q' ≡ ask_state n) × (p' ≡ p)
Step p p' (ask_read n xs) q' a =
    let v = refusal (store p) n (length xs) in (a ≡ Transfer (outcome v)) × (q' ≡ ask_read n (filled v xs ((store p).bytes n))) × (p' ≡ p)
Step p p' (ask_write n xs) q' a =
    let v = refusal (store p) n (length xs) in (a ≡ Transfer (outcome v)) × (q' ≡ ask_write n xs) × (p' ≡ after_write v p n xs)

-- what a write's buffer holds are bytes
abbrev pub Octets : Ask → Type 0
Octets ask_count = Unit {0}
Octets ask_length = Unit {0}
Octets ask_layer = Unit {0}
Octets (ask_state n) = Unit {0}
Octets (ask_read n xs) = Unit {0}
Octets (ask_write n xs) = AllBelowBase 256 xs
