-- A report tells its lines. Assumes nothing.
use Rattle.std.proofs.Common.{◌≡◌, ℕ, List, [], ◌∷◌, ◌++◌, drop, sym, refl, ap, ◌∙◌, ap₂, subst, arith}
use Rattle.std.proofs.lemmas.List.{append_assoc, append-nil}
use Rattle.std.specs.List.{AllByRecursion}
use Rattle.text.specs.Words.{spaced}
use Rattle.lines.specs.Printed.{line_words, line_text, lines_text, report_text, Fitting, AllFitting}
use Rattle.lines.specs.declared.line.Line.{Line}
use Rattle.lines.proofs.Telling.{Graphic, AllGraphic, graphic_line, lines_tell}

-- ---- no end of a line in a line

abbrev Unended : List ℕ → Type 0
Unended w = AllByRecursion (λ c. c ≡ 10 → ⊥) w

-- a word, and what follows it
unended_word : (w t : List ℕ) → Graphic w → Unended t → Unended (w ++ t)
unended_word [] t g u = u
unended_word (c ∷ w) t g u = (λ e. omega (arith, g.0), unended_word w t g.1 u)

unended_spaced : (ws : List (List ℕ)) → AllGraphic ws → Unended (spaced ws)
unended_spaced [] g = tt
unended_spaced (w ∷ []) g = subst Unended (append-nil w) (unended_word w [] g.0 tt)
unended_spaced (w ∷ (v ∷ ws)) g = unended_word w (32 ∷ spaced (v ∷ ws)) g.0 (λ e. omega (arith, e), unended_spaced (v ∷ ws) g.1)

unended_line : (l : Line) → Fitting l → Unended (line_text l)
unended_line l f = unended_spaced (line_words l) (graphic_line l f)

-- ---- a text cut at its first end of a line

cut_same : (a b s t : List ℕ) → Unended a → Unended b → a ++ (10 ∷ s) ≡ b ++ (10 ∷ t) → (a ≡ b) × (s ≡ t)
cut_same [] [] s t u v e = (refl, cc)
cut_same [] (y ∷ b) s t u v e = absurd (v.0 (sym (cc)))
cut_same (x ∷ a) [] s t u v e = absurd (u.0 (cc))
cut_same (x ∷ a) (y ∷ b) s t u v e =
    let here : x ≡ y = cc in
    let rest : a ++ (10 ∷ s) ≡ b ++ (10 ∷ t) = cc in
    let p = cut_same a b s t u.1 v.1 rest in
    (ap₂ ◌∷◌ here p.0, p.1)

never_empty : (a s : List ℕ) → [] ≡ a ++ (10 ∷ s) → ⊥
never_empty [] s e = cc
never_empty (x ∷ a) s e = cc

front : (l : Line) (ls : List Line) → lines_text (l ∷ ls) ≡ line_text l ++ (10 ∷ lines_text ls)
front l ls = append_assoc (line_text l) (10 ∷ []) (lines_text ls)

lines_same : (ls ms : List Line) → AllFitting ls → AllFitting ms → lines_text ls ≡ lines_text ms → ls ≡ ms
lines_same [] [] f g e = refl
lines_same [] (m ∷ ms) f g e = absurd (never_empty (line_text m) (lines_text ms) (e ∙ front m ms))
lines_same (l ∷ ls) [] f g e = absurd (never_empty (line_text l) (lines_text ls) (sym e ∙ front l ls))
lines_same (l ∷ ls) (m ∷ ms) f g e =
    let p = cut_same (line_text l) (line_text m) (lines_text ls) (lines_text ms) (unended_line l f.0) (unended_line m g.0) (sym (front l ls) ∙ e ∙ front m ms) in
    ap₂ ◌∷◌ (lines_tell l m f.0 g.0 p.0) (lines_same ls ms f.1 g.1 p.1)

pub reports_tell : (ls ms : List Line) → AllFitting ls → AllFitting ms → report_text ls ≡ report_text ms → ls ≡ ms
reports_tell ls ms f g e = lines_same ls ms f g (ap (drop 32) e)
