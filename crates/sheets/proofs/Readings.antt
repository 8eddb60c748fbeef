-- The records of a whole sheet. Assumes nothing.
use Rattle.std.proofs.Common.{◌≡◌, ℕ, ◌+◌, Bool, true, false, ◌&&◌, eqb, leb, List, [], ◌∷◌, ◌++◌, length, get_or, take, drop, sym, refl, ap, ◌∙◌, subst, ⊎_elim, append_assoc, arith, take-append-drop, take_at}
use Rattle.std.specs.List.{flat_map}
use Rattle.std.proofs.lemmas.List.{drop-drop, drop_more, drop_all}
use Rattle.std.proofs.lemmas.Bool.{cases_Bool, and_parts, leb-true, eqb-true, false≢true}
use Rattle.sheets.specs.Records.{Said, write, written, Stands}
use Rattle.sheets.specs.Sheets.{opened, Lie, Ends, OneStands, TextIsPart, OneReading, ReadsBack}
use Rattle.sheets.proofs.Standing.{goes_on, said_at, ends_within}

pub one_stands : OneStands
one_stands s at r r' h h' = let p = sym (said_at s at r h) ∙ said_at s at r' h' in cc

pub text_is_part : TextIsPart
text_is_part s at n place text h =
    let r = write n place text in
    let e : drop at s ≡ written r ++ drop (length (written r)) (drop at s) = goes_on s at r h in
    ap (λ z. take (length text) (drop z s)) h.placed
    ∙ ap (take (length text)) (sym (drop-drop 5 at s) ∙ ap (drop 5) e)
    ∙ take_at text (drop (length (written r)) (drop at s)) (length text) refl

pub lie_push : (s : List ℕ) (at : ℕ) (rs : List Said) (mid : ℕ) (r : Said) → Lie s at rs mid → Stands s mid r → Lie s at (rs ++ r ∷ []) (mid + length (written r))
lie_push s at [] mid r l h = (subst (λ z. Stands s z r) l h, ap (λ z. z + length (written r)) l)
lie_push s at (x ∷ rs) mid r l h = (l.0, lie_push s (at + length (written x)) rs mid r l.1 h)

-- a record that stands where records end
not_at_end : (s : List ℕ) (to : ℕ) (b : Bool) (r : Said) → Ends s to b → Stands s to r → ⊥
not_at_end s to false r e h = let k = ends_within s to r h in omega (arith, k.0)
not_at_end s to true r e h = e.1 r h

same_ends : (s : List ℕ) (to : ℕ) (b b' : Bool) → Ends s to b → Ends s to b' → b ≡ b'
same_ends s to false false e e' = refl
same_ends s to false true e e' = absurd (omega (arith, e'.0))
same_ends s to true false e e' = absurd (omega (arith, e.0))
same_ends s to true true e e' = refl

same_lie : (s : List ℕ) (at : ℕ) (rs rs' : List Said) (to to' : ℕ) (b b' : Bool) → Lie s at rs to → Ends s to b → Lie s at rs' to' → Ends s to' b' → (rs ≡ rs') × (b ≡ b')
same_lie s at [] [] to to' b b' l e l' e' = (refl, same_ends s at b b' (subst (λ z. Ends s z b) l e) (subst (λ z. Ends s z b') l' e'))
same_lie s at [] (r ∷ rs') to to' b b' l e l' e' = absurd (not_at_end s at b r (subst (λ z. Ends s z b) l e) l'.0)
same_lie s at (r ∷ rs) [] to to' b b' l e l' e' = absurd (not_at_end s at b' r (subst (λ z. Ends s z b') l' e') l.0)
same_lie s at (r ∷ rs) (r' ∷ rs') to to' b b' l e l' e' =
    let q = one_stands s at r r' l.0 l'.0 in
    let t = same_lie s (at + length (written r)) rs rs' to to' b b' l.1 e (subst (λ z. Lie s (at + length (written z)) rs' to') (sym q) l'.1) e' in
    ((let t0 = t.0 in cc), t.1)

pub one_reading : OneReading
one_reading s rs rs' b b' h h' = ⊎_elim
    (λ o. let p = h.in_order o in let p' = h'.in_order o in same_lie s 1 rs rs' p.0 p'.0 b b' p.1 p.2 p'.1 p'.2)
    (λ o. let p = h.unopened o in let p' = h'.unopened o in (p.0 ∙ sym p'.0, p.1 ∙ sym p'.1))
    (cases_Bool (opened s))

-- the bytes from a place on are those of the records that lie there, and then those after them
lie_bytes : (s : List ℕ) (at : ℕ) (rs : List Said) (to : ℕ) → Lie s at rs to → drop at s ≡ flat_map written rs ++ drop to s
lie_bytes s at [] to l = ap (λ z. drop z s) (sym l)
lie_bytes s at (r ∷ rs) to l =
    sym (take-append-drop (length (written r)) (drop at s))
    ∙ ap (λ z. z ++ drop (length (written r)) (drop at s)) l.0.lies
    ∙ ap (λ z. written r ++ z) (drop-drop (length (written r)) at s ∙ lie_bytes s (at + length (written r)) rs to l.1)
    ∙ sym (append_assoc (written r) (flat_map written rs) (drop to s))

rest_none : (s : List ℕ) (to : ℕ) (b : Bool) → Ends s to b → b ≡ false → drop to s ≡ []
rest_none s to false e f = drop_all to s (omega arith)
rest_none s to true e f = absurd (false≢true (sym f))

pub reads_back : ReadsBack
reads_back s rs b o h =
    let p = h.in_order o in
    let q = and_parts (leb 1 (length s)) (leb (length s) 61440 && eqb (get_or s 0 0) 1) o in
    let v = and_parts (leb (length s) 61440) (eqb (get_or s 0 0) 1) q.1 in (
      drop p.0 s,
      drop_more s 0 0 (omega (arith, leb-true 1 (length s) q.0)) ∙ ap (λ z. z ∷ drop 1 s) (eqb-true (get_or s 0 0) 1 v.1) ∙ ap (λ z. 1 ∷ z) (lie_bytes s 1 rs p.0 p.1),
      rest_none s p.0 b p.2,
    )
