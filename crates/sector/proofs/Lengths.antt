-- What an accepted call tells of its lengths, and bytes as numbers below 256. Assumes nothing.
use Rattle.std.proofs.Common.{◌≡◌, ℕ, ◌-◌, ◌%◌, ◌<◌, ◌≤◌, Bool, true, false, cond, eqb, leb, List, length, get_or, is_ok, Ok, Err, Result, sym, refl, ap, ◌∙◌, arith, w8, Fits}
use Rattle.std.specs.Int.Digits.{AllBelowBase}
use Rattle.std.proofs.ByRecursion.{All-from_get_or}
use Rattle.std.proofs.lemmas.Bool.{eqb-true, leb-true, false≢true, cond-true}
use Rattle.sector.specs.declared.refusal.Refusal.{Refusal}
use Rattle.sector.specs.declared.refusal.Refusal.TheVariants.{TextLength, BufferLength, WorkingLength}
use Rattle.sector.specs.Refusals.{answer, both}

tests : (a b d : Bool) (r : Result (Unit {0}) Refusal) → is_ok (cond (both a (both b d)) r (Err TextLength)) ≡ true → (a ≡ true) × (b ≡ true)
tests true true d r e = (refl, refl)
tests true false d r e = absurd (false≢true e)
tests false b d r e = absurd (false≢true e)

pub ok_lengths : (t o w : ℕ) → is_ok (answer t o w) ≡ true → (64 ≤ t) × (t % 16 ≡ 0)
ok_lengths t o w e =
    let p = tests (eqb (t % 16) 0) (leb 64 t) (leb t 4096) (cond (eqb o t) (cond (leb (t - 16) w) (Ok tt) (Err WorkingLength)) (Err BufferLength)) e in
    (leb-true 64 t p.1, eqb-true (t % 16) 0 p.0)

-- from what the checker knows of the bytes of a slice, `c.typed.text`
pub under_typed : (t : List ℕ) → ((i : ℕ) → Fits w8 (get_or t i 0)) → AllBelowBase 256 t
under_typed t h = All-from_get_or (λ d. d < 256) t 0 (λ i l. omega (arith, h i))

-- what an accepted call leaves comes back, where `back` undoes `there` on texts of whole blocks
pub comes_back :
    (there back : List ℕ → List ℕ) (t out before : List ℕ) (r : Result (Unit {0}) Refusal) (lo lw : ℕ)
    → ((l : List ℕ) → 32 ≤ length l → length l % 16 ≡ 0 → AllBelowBase 256 l → back (there l) ≡ l)
    → ((i : ℕ) → Fits w8 (get_or t i 0))
    → r ≡ answer (length t) lo lw
    → out ≡ cond (is_ok r) (there t) before
    → is_ok r ≡ true
    → back out ≡ t
comes_back there back t out before r lo lw undoes typed er eo ok =
    let l = ok_lengths (length t) lo lw (sym (ap is_ok er) ∙ ok) in
    ap back (eo ∙ cond-true (is_ok r) (there t) before ok) ∙ undoes t (omega (arith, l.0)) l.1 (under_typed t typed)
