-- A record that stands at a place of a sheet, and what is read there. Assumes nothing.
use Rattle.std.proofs.Common.{◌≡◌, ℕ, ◌+◌, ◌-◌, ◌*◌, ◌/◌, ◌%◌, ◌<◌, ◌≤◌, List, ◌∷◌, ◌++◌, length, get_or, take, drop, Some, None, sym, ap, ◌∙◌, subst, ⊎_elim, add-zero, arith, lit<, length-append, length-drop, take-append-drop, length-take, take_at}
use Rattle.std.proofs.lemmas.List.{take_rest, get_or-take, get_or-drop, get_or_past, drop-drop, drop_more, length-take-le}
use Rattle.std.proofs.lemmas.Bool.{cases_lt}
use Rattle.sheets.specs.Records.{Said, both, body, written, Stands}
use Rattle.sheets.specs.Reading.{word, body_said}
use Rattle.sheets.proofs.Bodies.{Good, good_body, said_body, both_word, word_both}

-- bytes of a part of a sheet are bytes
small_part : (s : List ℕ) → ((i : ℕ) → get_or s i 0 < 256) → (n a i : ℕ) → get_or (take n (drop a s)) i 0 < 256
small_part s small n a i = ⊎_elim
    (λ h. let e = get_or-take n (drop a s) i 0 h in let f = get_or-drop a s i 0 in omega (arith, small (a + i)))
    (λ h. let e = get_or_past (take n (drop a s)) i 0 (omega (arith, length-take n (drop a s))) in omega arith)
    (cases_lt i n)

-- what stands at a place, and then the rest
pub goes_on : (s : List ℕ) (at : ℕ) (r : Said) → Stands s at r → drop at s ≡ written r ++ drop (length (written r)) (drop at s)
goes_on s at r h = sym (take-append-drop (length (written r)) (drop at s)) ∙ ap (λ z. z ++ drop (length (written r)) (drop at s)) h.lies

module _ (s : List ℕ) (at : ℕ) (r : Said) (rest : List ℕ) (e : drop at s ≡ written r ++ rest) where
  first_byte : get_or s at 0 ≡ length (body r) / 256
  first_byte = ap (λ i. get_or s i 0) (sym (add-zero at)) ∙ sym (get_or-drop at s 0 0) ∙ ap (λ z. get_or z 0 0) e

  second_byte : get_or s (at + 1) 0 ≡ length (body r) % 256
  second_byte = sym (get_or-drop at s 1 0) ∙ ap (λ z. get_or z 1 0) e

  word_at : word s at ≡ length (body r)
  word_at = let p = first_byte in let q = second_byte in ap (λ x. x * 256 + get_or s (at + 1) 0) p ∙ ap (λ x. length (body r) / 256 * 256 + x) q ∙ word_both (length (body r))

  body_at : drop (at + 2) s ≡ body r ++ rest
  body_at = sym (drop-drop 2 at s) ∙ ap (drop 2) e

  room : 2 + length (body r) ≤ length s - at
  room = omega (arith, length-drop at s, ap length e, length-append (body r) rest)

pub ends_within : (s : List ℕ) (at : ℕ) (r : Said) → Stands s at r → (at < length s) × (at + length (written r) ≤ length s) × (at < at + length (written r))
ends_within s at r h = let k = room s at r _ (goes_on s at r h) in (omega arith, omega arith, omega arith)

-- what is read at the place of a record is that record
pub said_at : (s : List ℕ) (at : ℕ) (r : Said) → Stands s at r → body_said (at + 2) (take (word s at) (drop (at + 2) s)) ≡ Some r
said_at s at r h =
    let e = goes_on s at r h in
    ap (λ z. body_said (at + 2) (take (word s at) z)) (body_at s at r _ e)
    ∙ ap (body_said (at + 2)) (take_at (body r) _ (word s at) (sym (word_at s at r _ e)))
    ∙ said_body at r h.formed h.placed

pub none_stands : (s : List ℕ) (at n : ℕ) → n ≡ word s at → None ≡ body_said (at + 2) (take n (drop (at + 2) s)) → (r : Said) → Stands s at r → ⊥
none_stands s at n w e r h = let p : None ≡ Some r = e ∙ ap (λ z. body_said (at + 2) (take z (drop (at + 2) s))) w ∙ said_at s at r h in cc

found_good : (s : List ℕ) (at n : ℕ) (r : Said) → ((i : ℕ) → get_or s i 0 < 256) → n ≡ word s at → n ≤ length s - (at + 2)
    → Some r ≡ body_said (at + 2) (take n (drop (at + 2) s)) → Good at (take n (drop (at + 2) s)) (Some r)
found_good s at n r small w l e =
    subst (Good at (take n (drop (at + 2) s))) (sym e)
    (good_body at (take n (drop (at + 2) s)) (small_part s small n (at + 2)) (omega (arith, length-take n (drop (at + 2) s), small at, small (at + 1))))

pub found_stands : (s : List ℕ) (at n : ℕ) (r : Said) → ((i : ℕ) → get_or s i 0 < 256) → 2 ≤ length s - at → n ≡ word s at → n ≤ length s - (at + 2)
    → Some r ≡ body_said (at + 2) (take n (drop (at + 2) s)) → Stands s at r × (at + 2 + n ≡ at + length (written r))
found_stands s at n r small two w l e =
    let g = found_good s at n r small w l e in
    let b = take n (drop (at + 2) s) in
    let len : length (body r) ≡ n = ap length g.0 ∙ length-take-le n (drop (at + 2) s) (omega (arith, length-drop (at + 2) s)) in
    let two_bytes : both n ++ b ≡ get_or s at 0 ∷ get_or s (at + 1) 0 ∷ b = ap (λ z. both z ++ b) w ∙ both_word (get_or s at 0) (get_or s (at + 1) 0) (small (at + 1)) b in
    let whole : drop at s ≡ get_or s at 0 ∷ get_or s (at + 1) 0 ∷ drop (at + 1 + 1) s = drop_more s at 0 (omega arith) ∙ ap (λ z. get_or s at 0 ∷ z) (drop_more s (at + 1) 0 (omega arith)) in
    let on : at + 1 + 1 ≡ at + 2 = omega arith in (
      record {
        formed = g.1;
        placed = g.2;
        lies = ap (take (length (written r))) (whole ∙ ap (λ z. get_or s at 0 ∷ get_or s (at + 1) 0 ∷ drop z s) on)
            ∙ ap (λ z. get_or s at 0 ∷ get_or s (at + 1) 0 ∷ take z (drop (at + 2) s)) len
            ∙ sym two_bytes ∙ ap (λ z. both z ++ b) (sym len) ∙ ap (λ z. both (length (body r)) ++ z) (sym g.0);
      },
      omega (arith, len),
    )

-- the body that the code reads: as many bytes as the two before it say
module _ (s l t b : List ℕ) (at n : ℕ) (el : l ≡ take 2 (take (length s - at) (drop at s))) (et : t ≡ drop 2 (take (length s - at) (drop at s)))
    (en : n ≡ get_or l 0 0 * 256 + get_or l 1 0) (eb : b ≡ take (n - 0) t) where
  word_read : n ≡ word s at
  word_read =
      let e0 : get_or l 0 0 ≡ get_or s at 0 = rw (el, take_rest s at, get_or-take 2 (drop at s) 0 0 (lit< tt), get_or-drop at s 0 0, add-zero at) in
      let e1 : get_or l 1 0 ≡ get_or s (at + 1) 0 = rw (el, take_rest s at, get_or-take 2 (drop at s) 1 0 (lit< tt), get_or-drop at s 1 0) in
      cc

  body_read : b ≡ take n (drop (at + 2) s)
  body_read = eb ∙ rw (et, take_rest s at, drop-drop 2 at s) (ap (λ z. take z (drop (at + 2) s)) (omega arith))

  pub none_read : None ≡ body_said (at + 2) b → (r : Said) → Stands s at r → ⊥
  none_read e = none_stands s at n word_read (e ∙ ap (body_said (at + 2)) body_read)

  pub found_read : (r : Said) → ((i : ℕ) → get_or s i 0 < 256) → at < length s → length t + 2 ≡ length (take (length s - at) (drop at s)) → n ≤ length t
      → Some r ≡ body_said (at + 2) b → Stands s at r × (at + 2 + length b ≡ at + length (written r))
  found_read r small h two k e =
      let room : 2 + n ≤ length s - at = omega (arith, length-take-le (length s - at) (drop at s), length-drop at s) in
      let f = found_stands s at n r small (omega arith) word_read (omega arith) (e ∙ ap (body_said (at + 2)) body_read) in
      let same : length b ≡ n = ap length body_read ∙ length-take-le n (drop (at + 2) s) (omega (arith, length-drop (at + 2) s)) in
      (f.0, ap (λ z. at + 2 + z) same ∙ f.1)
