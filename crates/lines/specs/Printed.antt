-- What is printed for the records of a sheet. Assumes nothing.
use Rattle.std.specs.Prelude.{◌≡◌, ℕ, ◌^◌, ◌<◌, List, [], ◌∷◌, ◌++◌, Some, None, codes, decimal, Option}
use Rattle.std.specs.Int.Digits.{AllBelowBase}
use Rattle.text.specs.Writing.{capital_digit, bytes_text}
use Rattle.text.specs.Words.{spaced}
use Rattle.sector.specs.Refusals.{answer_number}
use Rattle.lines.specs.declared.line.Line.{Line}
use Rattle.lines.specs.declared.line.LineKind.{LineKind}
use Rattle.lines.specs.declared.line.LineKind.TheVariants.{Setting, Write, Read, Broken}

-- the word for a kind
abbrev pub kind_word : LineKind → List ℕ
kind_word Setting = codes "setting"
kind_word Write = codes "write"
kind_word Read = codes "read"
kind_word Broken = codes "broken"

-- the text of a value, or a dash for none
abbrev pub or_dash : {A : Type 0} → (A → List ℕ) → Option A → List ℕ
or_dash text None = codes "-"
or_dash text (Some x) = text x

-- the same where a value need not tell its text
abbrev pub shown_or_dash : {A : Type 0} → (A → Option (List ℕ)) → Option A → Option (List ℕ)
shown_or_dash shown None = Some (codes "-")
shown_or_dash shown (Some x) = shown x

-- the words of a line: index, kind, sector, answer, and the first bytes of an accepted read in capital hex digits
abbrev pub line_words : Line → List (List ℕ)
line_words l =
    decimal l.index ∷ (kind_word l.kind ∷ (or_dash decimal l.sector ∷ (decimal (answer_number l.answer) ∷ (or_dash (bytes_text capital_digit) l.first ∷ []))))

-- the line: its words with one space between two
abbrev pub line_text : Line → List ℕ
line_text l = spaced (line_words l)

-- the first line, which names the columns
abbrev pub header_text : List ℕ
header_text = codes "record kind sector answer first"

-- lines one after the other, each with its end
abbrev pub lines_text : List Line → List ℕ
lines_text [] = []
lines_text (l ∷ ls) = (line_text l ++ (10 ∷ [])) ++ lines_text ls

-- all that is printed
abbrev pub report_text : List Line → List ℕ
report_text ls = (header_text ++ (10 ∷ [])) ++ lines_text ls

-- ---- a line tells its record

-- numbers that fit the types that the code has for them
abbrev pub sector_fits : Option ℕ → Type 0
sector_fits None = Unit {0}
sector_fits (Some n) = n < 2 ^ 16

abbrev pub first_fits : Option (List ℕ) → Type 0
first_fits None = Unit {0}
first_fits (Some bytes) = AllBelowBase 256 bytes

pub record Fitting (l : Line) : Type 0 where
  pub index : l.index < 2 ^ 64
  pub sector : sector_fits l.sector
  pub first : first_fits l.first

-- two lines with the same text are the same in all: record, kind, sector, answer and bytes
abbrev pub LinesTell : Type 0
LinesTell = (a b : Line) → Fitting a → Fitting b → line_text a ≡ line_text b → a ≡ b

abbrev pub AllFitting : List Line → Type 0
AllFitting [] = Unit {0}
AllFitting (l ∷ ls) = Fitting l × AllFitting ls

-- two reports with the same text are of the same lines
abbrev pub ReportsTell : Type 0
ReportsTell = (ls ms : List Line) → AllFitting ls → AllFitting ms → report_text ls ≡ report_text ms → ls ≡ ms
