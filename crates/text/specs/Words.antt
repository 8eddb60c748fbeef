-- The words of a line, parted by single spaces. Assumes nothing.
use Rattle.std.specs.Prelude.{ℕ, List, ◌==◌}
use Rattle.std.specs.List.{slice_split, join_with_byte}

-- the words of a text: each space ends one, and between two spaces in a row there is an empty one
abbrev pub words : List ℕ → List (List ℕ)
words t = slice_split (λ c. c == 32) t

-- the text of words, with one space between two
abbrev pub spaced : List (List ℕ) → List ℕ
spaced ws = join_with_byte 32 ws
