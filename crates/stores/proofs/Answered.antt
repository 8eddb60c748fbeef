-- What a store's calls answer, case by case. Assumes nothing.
use Rattle.std.proofs.Common.{◌≡◌, ℕ, ◌<◌, ◌≤◌, Bool, true, false, cond, eqb, ltb, List, Some, None, Ok, Err, Option, Result, sym, ap, ◌∙◌, arith}
use Rattle.std.proofs.lemmas.Bool.{ne_eqb, cond-false}
use Rattle.std.proofs.lemmas.Bool.Decides.{nat_tests}
use Rattle.std.specs.Result.{IsErrAnd}
use Rattle.std.proofs.lemmas.Result.{err_from_is_err_and}
use Rattle.sector.specs.declared.refusal.Refusal.TheVariants.{BufferLength}
use Rattle.stores.specs.declared.dimensions.Dimensions.{Dimensions}
use Rattle.stores.specs.declared.fault.Fault.{Fault}
use Rattle.stores.specs.declared.state.SectorState.TheVariants.{Missing}
use Rattle.stores.specs.Stores.{Store, refusal, dimensions, misfit, state, state_of, failure, fault, outcome, filled}
use Rattle.stores.specs.Layers.{Stack, after_write}
use Rattle.stores.proofs.Options.{was_refused, was_accepted}

-- what the two tests let through
fits_by : (len size n count : ℕ) (x y : Fault) → cond (eqb len size) (cond (ltb n count) None (Some x)) (Some y) ≡ None → (len ≡ size) × (n < count)
fits_by len size n count x y e = (grind (arith, nat_tests), grind (arith, nat_tests))

-- a fault that the two tests draw is drawn whatever comes after them
misfit_first : (b d : Bool) (v : Option Fault) (x y f : Fault) → cond b (cond d None (Some x)) (Some y) ≡ Some f → cond b (cond d v (Some x)) (Some y) ≡ Some f
misfit_first true true v x y f e = cc
misfit_first true false v x y f e = e
misfit_first false d v x y f e = e

module _ (s : Store) (n : ℕ) where
  pub refusal_length : (len : ℕ) → (len ≡ s.size → ⊥) → refusal s n len ≡ Some (fault BufferLength n s.layer)
  unfolding refusal
  refusal_length len h = cond-false (eqb len s.size) _ _ (ne_eqb len s.size h)

  pub refusal_in : (len : ℕ) → len ≡ s.size → n < s.count → refusal s n len ≡ failure (s.failed n)
  unfolding refusal
  refusal_in len e h = grind (arith, nat_tests)

  pub state_out : s.count ≤ n → state s n ≡ Missing
  unfolding state
  state_out h = grind (arith, nat_tests)

  pub state_in : n < s.count → state s n ≡ state_of (s.failed n)
  unfolding state
  state_in h = grind (arith, nat_tests)

pub kept : (old new : List ℕ) (f : Fault) (v : Option Fault) → v ≡ Some f → old ≡ filled v old new
kept old new f v e = ap (λ x. filled x old new) (sym e)

-- what an accepted read leaves in its buffer
pub was_filled : (old new : List ℕ) (v : Option Fault) → v ≡ None → filled v old new ≡ new
was_filled old new v e = ap (λ x. filled x old new) e

pub read_refused : (s : Store) (n : ℕ) (old : List ℕ) (f : Fault) (v : Option Fault) → v ≡ Some f → old ≡ filled v old (s.bytes n)
read_refused s n old f v e = kept old (s.bytes n) f v e

pub write_refused : (p : Stack) (n : ℕ) (xs : List ℕ) (f : Fault) (v : Option Fault) → v ≡ Some f → p ≡ after_write v p n xs
write_refused p n xs f v e = ap (λ x. after_write x p n xs) (sym e)

-- a `?` that hands a fault on
pub handed_on : (r : Result (Unit {0}) Fault) (f : Fault) (v : Option Fault) → v ≡ Some f → IsErrAnd r (λ x. x ≡ f) → r ≡ outcome v
handed_on r f v e h = let p = err_from_is_err_and r h in p.1 ∙ ap Err p.2 ∙ ap outcome (sym e)

-- what the tests by the dimensions of a store say of a read or a write
module _ (s : Store) (n len : ℕ) (d : Dimensions) (is : d ≡ dimensions s) where
  pub turned_away : (f : Fault) → Err f ≡ outcome (misfit d n len) → refusal s n len ≡ Some f
  unfolding refusal
  turned_away f e =
      misfit_first (eqb len s.size) (ltb n s.count) (failure (s.failed n)) _ _ f (ap (λ z. misfit z n len) (sym is) ∙ was_refused f (misfit d n len) e)

  pub admitted : (u : Unit {0}) → Ok u ≡ outcome (misfit d n len) → (len ≡ s.size) × (n < s.count)
  admitted u e = fits_by len s.size n s.count _ _ (ap (λ z. misfit z n len) (sym is) ∙ was_accepted u (misfit d n len) e)
