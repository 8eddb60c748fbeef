-- A body and the record that it says. Assumes nothing.
use Rattle.std.proofs.Common.{◌≡◌, ℕ, ◌+◌, ◌*◌, ◌/◌, ◌%◌, ◌<◌, ◌≤◌, true, false, eqb, leb, List, [], ◌∷◌, ◌++◌, length, get_or, drop, Some, None, Option, sym, refl, ap, ◌∙◌, arith, length-drop}
use Rattle.std.proofs.lemmas.List.{drop_all}
use Rattle.std.proofs.lemmas.Bool.{cond_both, eqb-true, leb-true, le-leb, eq-eqb, ne_eqb}
use Rattle.sheets.specs.Records.{Said, setting, write, read, both, body, Formed, Placed}
use Rattle.sheets.specs.Reading.{word, body_said}

high : (x y : ℕ) → y < 256 → (x * 256 + y) / 256 ≡ x
high x y h = omega arith

low : (x y : ℕ) → y < 256 → (x * 256 + y) % 256 ≡ y
low x y h = omega arith

pub both_word : (x y : ℕ) → y < 256 → (zs : List ℕ) → both (x * 256 + y) ++ zs ≡ x ∷ y ∷ zs
both_word x y h zs = let p = high x y h in let q = low x y h in cc

pub word_both : (n : ℕ) → n / 256 * 256 + n % 256 ≡ n
word_both n = omega arith

front3 : (b : List ℕ) → 3 ≤ length b → get_or b 0 0 ∷ get_or b 1 0 ∷ get_or b 2 0 ∷ drop 3 b ≡ b
front3 [] h = absurd (omega arith)
front3 (x ∷ []) h = absurd (omega arith)
front3 (x ∷ y ∷ []) h = absurd (omega arith)
front3 (x ∷ y ∷ z ∷ b) h = refl

front4 : (b : List ℕ) → 4 ≤ length b → get_or b 0 0 ∷ get_or b 1 0 ∷ get_or b 2 0 ∷ get_or b 3 0 ∷ drop 4 b ≡ b
front4 [] h = absurd (omega arith)
front4 (x ∷ []) h = absurd (omega arith)
front4 (x ∷ y ∷ []) h = absurd (omega arith)
front4 (x ∷ y ∷ z ∷ []) h = absurd (omega arith)
front4 (x ∷ y ∷ z ∷ w ∷ b) h = refl

front7 : (b : List ℕ) → 7 ≤ length b
    → get_or b 0 0 ∷ get_or b 1 0 ∷ get_or b 2 0 ∷ get_or b 3 0 ∷ get_or b 4 0 ∷ get_or b 5 0 ∷ get_or b 6 0 ∷ drop 7 b ≡ b
front7 [] h = absurd (omega arith)
front7 (x ∷ []) h = absurd (omega arith)
front7 (x ∷ y ∷ []) h = absurd (omega arith)
front7 (x ∷ y ∷ z ∷ b) h = ap (λ v. x ∷ y ∷ z ∷ v) (front4 b (omega arith))

-- the record of a body: its bytes are the body
abbrev pub Good : ℕ → List ℕ → Option Said → Type 0
Good at b None = Unit {0}
Good at b (Some r) = (body r ≡ b) × Formed r × Placed at r

module _ (at : ℕ) (b : List ℕ) (small : (i : ℕ) → get_or b i 0 < 256) (short : length b < 65536) where
  good_setting : get_or b 0 0 ≡ 1 → length b ≡ 23 → Good at b (Some (setting (get_or b 1 0) (get_or b 2 0) (word b 3) (word b 5) (drop 7 b)))
  good_setting k l =
      let e5 = both_word (get_or b 5 0) (get_or b 6 0) (small 6) (drop 7 b) in
      let e3 = both_word (get_or b 3 0) (get_or b 4 0) (small 4) (both (word b 5) ++ drop 7 b) in (
        ap (λ v. 1 ∷ get_or b 1 0 ∷ get_or b 2 0 ∷ v) (e3 ∙ ap (λ v. get_or b 3 0 ∷ get_or b 4 0 ∷ v) e5)
            ∙ ap (λ v. v ∷ get_or b 1 0 ∷ get_or b 2 0 ∷ get_or b 3 0 ∷ get_or b 4 0 ∷ get_or b 5 0 ∷ get_or b 6 0 ∷ drop 7 b) (sym k)
            ∙ front7 b (omega arith),
        (small 1, small 2, omega (arith, small 3, small 4), omega (arith, small 5, small 6), omega (arith, length-drop 7 b)),
        tt,
      )

  good_write : get_or b 0 0 ≡ 2 → 3 ≤ length b → Good at b (Some (write (word b 1) (at + 2 + 3) (drop 3 b)))
  good_write k l = (
    ap (λ v. 2 ∷ v) (both_word (get_or b 1 0) (get_or b 2 0) (small 2) (drop 3 b)) ∙ ap (λ v. v ∷ get_or b 1 0 ∷ get_or b 2 0 ∷ drop 3 b) (sym k) ∙ front3 b l,
    (omega (arith, small 1, small 2), omega (arith, ap length (front3 b l))),
    omega arith,
  )

  good_read : get_or b 0 0 ≡ 3 → length b ≡ 3 → Good at b (Some (read (word b 1)))
  good_read k l = (
    ap (λ v. 3 ∷ v) (both_word (get_or b 1 0) (get_or b 2 0) (small 2) []) ∙ ap (λ v. v ∷ get_or b 1 0 ∷ get_or b 2 0 ∷ []) (sym k)
        ∙ ap (λ v. get_or b 0 0 ∷ get_or b 1 0 ∷ get_or b 2 0 ∷ v) (sym (drop_all 3 b (omega arith))) ∙ front3 b (omega arith),
    omega (arith, small 1, small 2),
    tt,
  )

  pub good_body : Good at b (body_said (at + 2) b)
  good_body =
      cond_both (eqb (length b) 0) _ _ (Good at b) (λ e. tt)
      (λ z. cond_both (eqb (get_or b 0 0) 1) _ _ (Good at b)
      (λ k. cond_both (eqb (length b) 23) _ _ (Good at b) (λ l. good_setting (eqb-true _ _ k) (eqb-true _ _ l)) (λ l. tt))
      (λ n1. cond_both (eqb (get_or b 0 0) 2) _ _ (Good at b)
      (λ k. cond_both (leb 3 (length b)) _ _ (Good at b) (λ l. good_write (eqb-true _ _ k) (leb-true _ _ l)) (λ l. tt))
      (λ n2. cond_both (eqb (get_or b 0 0) 3) _ _ (Good at b)
      (λ k. cond_both (eqb (length b) 3) _ _ (Good at b) (λ l. good_read (eqb-true _ _ k) (eqb-true _ _ l)) (λ l. tt))
      (λ n3. tt))))

-- the body of a record is read as that record
pub said_body : (at : ℕ) (r : Said) → Formed r → Placed at r → body_said (at + 2) (body r) ≡ Some r
said_body at (setting c h l n k) f p =
    let b = body (setting c h l n k) in
    let f0 : eqb (length b) 0 ≡ false = ne_eqb (length b) 0 (λ e. omega arith) in
    let f1 : eqb (length b) 23 ≡ true = eq-eqb (length b) 23 (omega (arith, f.4)) in
    let e1 = word_both l in
    let e2 = word_both n in
    rw (f0, f1) (ap Some (cc))
said_body at (write s a t) f p =
    let b = body (write s a t) in
    let f0 : eqb (length b) 0 ≡ false = ne_eqb (length b) 0 (λ e. omega arith) in
    let f1 : leb 3 (length b) ≡ true = le-leb 3 (length b) (omega arith) in
    let e1 = word_both s in
    let e2 : at + 2 + 3 ≡ a = omega arith in
    rw (f0, f1) (ap Some (cc))
said_body at (read s) f p =
    let e1 = word_both s in
    ap Some (cc)
