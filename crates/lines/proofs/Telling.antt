-- A line tells its record. Assumes nothing.
use Rattle.std.proofs.Common.{◌≡◌, ℕ, ◌/◌, ◌%◌, ◌^◌, ◌<◌, Bool, true, false, cond, eqb, ltb, List, [], ◌∷◌, get_or, Some, None, Ok, Err, codes, decimal, Option, Result, sym, refl, ap, ◌∙◌, ap₂, arith, lit<}
use Rattle.std.proofs.lemmas.Fmt.{decimal_injective}
use Rattle.std.proofs.lemmas.Bool.Decides.{nat_tests}
use Rattle.std.specs.Int.Digits.{AllBelowBase}
use Rattle.std.specs.Char.{is_ascii_digit}
use Rattle.std.specs.List.{AllByRecursion, list_all}
use Rattle.std.specs.Str.{all_ascii_digits}
use Rattle.std.proofs.lemmas.Bool.{and_parts, ltb-true}
use Rattle.text.specs.Writing.{capital_digit, bytes_text, Unspaced, AllUnspaced}
use Rattle.text.specs.Words.{words}
use Rattle.text.proofs.Decimals.{decimal_digits}
use Rattle.text.proofs.Spaces.{words_spaced}
use Rattle.sector.specs.Refusals.{answer_number}
use Rattle.sector.specs.declared.refusal.Refusal.{Refusal}
use Rattle.sector.specs.declared.refusal.Refusal.TheVariants.{TextLength, BufferLength, WorkingLength, SectorNumber, SectorFailed, Figures, SheetBroken, OutOfTurn}
use Rattle.lines.specs.Printed.{kind_word, or_dash, line_words, line_text, sector_fits, first_fits, Fitting}
use Rattle.lines.specs.declared.line.Line.{Line}
use Rattle.lines.specs.declared.line.LineKind.{LineKind}
use Rattle.lines.specs.declared.line.LineKind.TheVariants.{Setting, Write, Read, Broken}

-- ---- from a word back to what it says

-- the kinds' words differ in their first letters
abbrev kind_back : List ℕ → LineKind
kind_back w = cond (eqb (get_or w 0 0) 115) Setting (cond (eqb (get_or w 0 0) 119) Write (cond (eqb (get_or w 0 0) 114) Read Broken))

kind_there : (k : LineKind) → kind_back (kind_word k) ≡ k
kind_there Setting = refl
kind_there Write = refl
kind_there Read = refl
kind_there Broken = refl

abbrev answer_back : ℕ → Result (Unit {0}) Refusal
answer_back n =
    cond (eqb n 0) (Ok tt) (cond (eqb n 1) (Err TextLength) (cond (eqb n 2) (Err BufferLength) (cond (eqb n 3) (Err WorkingLength)
    (cond (eqb n 4) (Err SectorNumber) (cond (eqb n 5) (Err SectorFailed) (cond (eqb n 6) (Err Figures) (cond (eqb n 7) (Err SheetBroken) (Err OutOfTurn))))))))

refusal_there : (r : Refusal) → answer_back (answer_number (Err r)) ≡ Err r
refusal_there TextLength = refl
refusal_there BufferLength = refl
refusal_there WorkingLength = refl
refusal_there SectorNumber = refl
refusal_there SectorFailed = refl
refusal_there Figures = refl
refusal_there SheetBroken = refl
refusal_there OutOfTurn = refl

answer_there : (a : Result (Unit {0}) Refusal) → answer_back (answer_number a) ≡ a
answer_there (Ok u) = refl
answer_there (Err r) = refusal_there r

refusal_small : (r : Refusal) → answer_number (Err r) < 9
refusal_small TextLength = lit< tt
refusal_small BufferLength = lit< tt
refusal_small WorkingLength = lit< tt
refusal_small SectorNumber = lit< tt
refusal_small SectorFailed = lit< tt
refusal_small Figures = lit< tt
refusal_small SheetBroken = lit< tt
refusal_small OutOfTurn = lit< tt

pub answer_small : (a : Result (Unit {0}) Refusal) → answer_number a < 9
answer_small (Ok u) = lit< tt
answer_small (Err r) = refusal_small r

answer_same : (a b : Result (Unit {0}) Refusal) → decimal (answer_number a) ≡ decimal (answer_number b) → a ≡ b
answer_same a b e =
    sym (answer_there a)
    ∙ ap answer_back (decimal_injective (answer_number a) (answer_number b) (omega (arith, answer_small a)) (omega (arith, answer_small b)) e)
    ∙ answer_there b

no_dash : (n : ℕ) → n < 2 ^ 64 → codes "-" ≡ decimal n → ⊥
no_dash n h e = let f : false ≡ true = ap all_ascii_digits e ∙ decimal_digits n h in cc

sector_same : (s t : Option ℕ) → sector_fits s → sector_fits t → or_dash decimal s ≡ or_dash decimal t → s ≡ t
sector_same None None f g e = refl
sector_same None (Some n) f g e = absurd (no_dash n (omega arith) e)
sector_same (Some m) None f g e = absurd (no_dash m (omega arith) (sym e))
sector_same (Some m) (Some n) f g e = ap Some (decimal_injective m n (omega arith) (omega arith) e)

digit_same : (v w : ℕ) → v < 16 → w < 16 → capital_digit v ≡ capital_digit w → v ≡ w
digit_same v w f g e = grind (arith, nat_tests)

bytes_same : (s t : List ℕ) → AllBelowBase 256 s → AllBelowBase 256 t → bytes_text capital_digit s ≡ bytes_text capital_digit t → s ≡ t
bytes_same [] [] f g e = refl
bytes_same [] (y ∷ t) f g e = cc
bytes_same (x ∷ s) [] f g e = cc
bytes_same (x ∷ s) (y ∷ t) f g e =
    let fx : x < 256 = f.0 in
    let gy : y < 256 = g.0 in
    let high : capital_digit (x / 16) ≡ capital_digit (y / 16) = cc in
    let low : capital_digit (x % 16) ≡ capital_digit (y % 16) = cc in
    let rest : bytes_text capital_digit s ≡ bytes_text capital_digit t = cc in
    let p : x / 16 ≡ y / 16 = digit_same (x / 16) (y / 16) (omega arith) (omega arith) high in
    let q : x % 16 ≡ y % 16 = digit_same (x % 16) (y % 16) (omega arith) (omega arith) low in
    let same : x ≡ y = omega arith in
    ap₂ ◌∷◌ same (bytes_same s t f.1 g.1 rest)

two_digits : (s : List ℕ) → codes "-" ≡ bytes_text capital_digit s → ⊥
two_digits [] e = cc
two_digits (x ∷ s) e = cc

first_same : (s t : Option (List ℕ)) → first_fits s → first_fits t → or_dash (bytes_text capital_digit) s ≡ or_dash (bytes_text capital_digit) t → s ≡ t
first_same None None f g e = refl
first_same None (Some y) f g e = absurd (two_digits y e)
first_same (Some x) None f g e = absurd (two_digits x (sym e))
first_same (Some x) (Some y) f g e = ap Some (bytes_same x y f g e)

-- ---- neither a space nor an end of a line in a word

abbrev pub Graphic : List ℕ → Type 0
Graphic w = AllByRecursion (λ c. 32 < c) w

abbrev pub AllGraphic : List (List ℕ) → Type 0
AllGraphic ws = AllByRecursion Graphic ws

-- by a test: of words that are written out, and of digits
graphic_by : (p : ℕ → Bool) → ((c : ℕ) → p c ≡ true → 32 < c) → (w : List ℕ) → list_all p w ≡ true → Graphic w
graphic_by p f [] h = tt
graphic_by p f (c ∷ w) h = let q = and_parts (p c) (list_all p w) h in (f c q.0, graphic_by p f w q.1)

graphic_from : (w : List ℕ) → list_all (ltb 32) w ≡ true → Graphic w
graphic_from = graphic_by (ltb 32) (ltb-true 32)

graphic_digits : (w : List ℕ) → all_ascii_digits w ≡ true → Graphic w
graphic_digits [] h = tt
graphic_digits (c ∷ w) h = let q = and_parts (is_ascii_digit c) (all_ascii_digits w) h in (grind (arith, nat_tests), graphic_digits w q.1)

graphic_kind : (k : LineKind) → Graphic (kind_word k)
graphic_kind Setting = graphic_from (codes "setting") refl
graphic_kind Write = graphic_from (codes "write") refl
graphic_kind Read = graphic_from (codes "read") refl
graphic_kind Broken = graphic_from (codes "broken") refl

graphic_number : (n : ℕ) → n < 2 ^ 64 → Graphic (decimal n)
graphic_number n h = graphic_digits (decimal n) (decimal_digits n h)

graphic_digit : (v : ℕ) → 32 < capital_digit v
graphic_digit v = grind (arith, nat_tests)

graphic_bytes : (s : List ℕ) → Graphic (bytes_text capital_digit s)
graphic_bytes [] = tt
graphic_bytes (x ∷ s) = (graphic_digit (x / 16), (graphic_digit (x % 16), graphic_bytes s))

graphic_sector : (s : Option ℕ) → sector_fits s → Graphic (or_dash decimal s)
graphic_sector None f = graphic_from (codes "-") refl
graphic_sector (Some n) f = graphic_number n (omega arith)

graphic_first : (s : Option (List ℕ)) → Graphic (or_dash (bytes_text capital_digit) s)
graphic_first None = graphic_from (codes "-") refl
graphic_first (Some x) = graphic_bytes x

pub graphic_line : (l : Line) → Fitting l → AllGraphic (line_words l)
graphic_line l f = (
  graphic_number l.index f.index,
  (
    graphic_kind l.kind,
    (
      graphic_sector l.sector f.sector,
      (graphic_number (answer_number l.answer) (omega (arith, answer_small l.answer)), (graphic_first l.first, tt)),
    ),
  ),
)

unspaced_word : (w : List ℕ) → Graphic w → Unspaced w
unspaced_word [] g = tt
unspaced_word (c ∷ w) g = (λ e. omega (arith, g.0), unspaced_word w g.1)

unspaced_words : (ws : List (List ℕ)) → AllGraphic ws → AllUnspaced ws
unspaced_words [] g = tt
unspaced_words (w ∷ ws) g = (unspaced_word w g.0, unspaced_words ws g.1)

back : (l : Line) → Fitting l → words (line_text l) ≡ line_words l
back l f = words_spaced _ _ (unspaced_words (line_words l) (graphic_line l f))

pub lines_tell : (a b : Line) → Fitting a → Fitting b → line_text a ≡ line_text b → a ≡ b
lines_tell a b f g e =
    let ws : line_words a ≡ line_words b = sym (back a f) ∙ ap words e ∙ back b g in
    let i : a.index ≡ b.index = decimal_injective a.index b.index f.index g.index (cc) in
    let w : kind_word a.kind ≡ kind_word b.kind = cc in
    let k : a.kind ≡ b.kind = sym (kind_there a.kind) ∙ ap kind_back w ∙ kind_there b.kind in
    let s : a.sector ≡ b.sector = sector_same a.sector b.sector f.sector g.sector (cc) in
    let r : a.answer ≡ b.answer = answer_same a.answer b.answer (cc) in
    let x : a.first ≡ b.first = first_same a.first b.first f.first g.first (cc) in
    λ j. record { index = i j; kind = k j; sector = s j; answer = r j; first = x j }
