-- The code's state and schedule as the definition's. Assumes nothing.
use Rattle.std.specs.Prelude.{ℕ, List, [], ◌∷◌, ◌++◌, slice_index, slice_index_or}
use Rattle.elements.specs.Values.{byte}
use Rattle.elements.specs.declared.values.Block.{Block}
use Rattle.aes_rules.specs.Aes.{Word, four, aes_with}
use Rattle.aes_cipher.specs.declared.cipher.Aes128.{Aes128}
use Rattle.aes_cipher.specs.declared.state.Column.{Column}
use Rattle.aes_cipher.specs.declared.state.State.{State}
use Rattle.aes_cipher.specs.declared.schedule.RoundKey.{RoundKey}

-- the word of four bytes
abbrev pub word_of_bytes : List ℕ → Word
word_of_bytes bs = four (λ r. byte (slice_index bs r))

-- what stands past the columns of a state, of which there are always four
abbrev pub blank : Column
blank = record { bytes = [] }

-- the words of four columns
abbrev pub words_in : List Column → List Word
words_in cs = four (λ c. (slice_index_or cs c blank).bytes)

-- the columns of a state
abbrev pub columns_of : State → List Word
columns_of s = words_in s.columns

-- the words of a row
abbrev pub row_words : RoundKey → List Word
row_words k = four (λ c. word_of_bytes (slice_index_or k.columns c []))

-- the words of all rows, one row after the other
abbrev pub words_of : List RoundKey → List Word
words_of [] = []
words_of (k ∷ ks) = row_words k ++ words_of ks

-- the function that a keyed cipher is
abbrev pub aes_of : Aes128 → Block → Block
aes_of a x = aes_with 10 (words_of a.rows) x
