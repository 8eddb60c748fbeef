-- Texts that are written piece by piece. Assumes nothing.
use Rattle.std.proofs.Common.{◌≡◌, ℕ, ◌+◌, ◌/◌, ◌%◌, ◌<◌, ◌≤◌, List, [], ◌∷◌, ◌++◌, length, get_or, take, sym, refl, ap, ◌∙◌, ap₂}
use Rattle.std.specs.Fmt.{HasWritten}
use Rattle.std.specs.List.{flat_map}
use Rattle.std.specs.declared.fmt.Formatter.{Formatter}
use Rattle.std.proofs.Output.{has_written_of_eq, has_written_append}
use Rattle.std.proofs.lemmas.List.{flat_map_more, take_more, take_all}
use Rattle.text.specs.Writing.{bytes_text}
use Rattle.lines.specs.Printed.{line_text, header_text, lines_text, report_text}
use Rattle.lines.specs.declared.line.Line.{Line}

-- bytes and lines are texts of pieces
pub bytes_flat : (d : ℕ → ℕ) (s : List ℕ) → bytes_text d s ≡ flat_map (λ x. d (x / 16) ∷ d (x % 16) ∷ []) s
bytes_flat d [] = refl
bytes_flat d (x ∷ s) = ap (λ t. d (x / 16) ∷ d (x % 16) ∷ t) (bytes_flat d s)

pub lines_flat : (ls : List Line) → lines_text ls ≡ flat_map (λ l. line_text l ++ (10 ∷ [])) ls
lines_flat [] = refl
lines_flat (l ∷ ls) = ap (λ t. (line_text l ++ (10 ∷ [])) ++ t) (lines_flat ls)

-- one piece more
pub piece_put : {W X : Type 0} (took : W → List ℕ → W → Type 0) (text : List X → List ℕ) (piece : X → List ℕ) → ((xs : List X) → text xs ≡ flat_map piece xs)
    → (f g h : Formatter W) (xs : List X) (i : ℕ) (x : X) → i < length xs → HasWritten took f (text (take i xs)) g → HasWritten took g (piece (get_or xs i x)) h
    → HasWritten took f (text (take (i + 1) xs)) h
piece_put took text piece flat f g h xs i x b p q =
    has_written_of_eq took f _ _ h
    (ap (λ t. t ++ piece (get_or xs i x)) (flat (take i xs)) ∙ flat_map_more piece [] (take i xs) (get_or xs i x) ∙ ap (flat_map piece) (sym (take_more xs i x b)) ∙ sym (flat (take (i + 1) xs)))
    (has_written_append took f (text (take i xs)) g (piece (get_or xs i x)) h p q)

module _ {W : Type 0} (took : W → List ℕ → W → Type 0) where
  -- all bytes
  pub bytes_put : (f g : Formatter W) (d : ℕ → ℕ) (t : List ℕ) (i : ℕ) → length t ≤ i → HasWritten took f (bytes_text d (take i t)) g → HasWritten took f (bytes_text d t) g
  bytes_put f g d t i b p = has_written_of_eq took f _ _ g (ap (bytes_text d) (take_all i t b)) p

  -- the header, and all lines
  pub report_put : (f g h : Formatter W) (names : List ℕ) (ls : List Line) (i : ℕ) → names ≡ header_text → length ls ≤ i → HasWritten took f (names ++ (10 ∷ [])) g → HasWritten took g (lines_text (take i ls)) h → HasWritten took f (report_text ls) h
  report_put f g h names ls i e b p q =
      has_written_of_eq took f _ _ h
      (ap₂ (λ (a : List ℕ) (l : List Line). (a ++ (10 ∷ [])) ++ lines_text l) e (take_all i ls b))
      (has_written_append took f (names ++ (10 ∷ [])) g (lines_text (take i ls)) h p q)
