-- What the calls of a store with no sectors answer. Assumes nothing.
use Rattle.std.proofs.Common.{◌≡◌, ℕ, Bool, true, false, cond, eqb, List, length, Some, Err, Option, sym, refl, ap, ◌∙◌, arith}
use Rattle.std.proofs.lemmas.Bool.{le-ltb}
use Rattle.sector.specs.declared.refusal.Refusal.{Refusal}
use Rattle.stores.specs.declared.fault.Fault.{Fault}
use Rattle.stores.specs.declared.state.SectorState.TheVariants.{Missing}
use Rattle.stores.specs.Stores.{refusal, state, dimensions, misfit, filled, fault, outcome}
use Rattle.stores.specs.Layers.{Stack, alone, after_write}
use Rattle.store_tests.specs.Empty.{empty_store}

pub no_state : (l n : ℕ) → Missing ≡ state (empty_store l) n
unfolding state
no_state l n = rw (le-ltb n 0 (omega arith)) refl

-- the two tests are all, as no sector has failed
pub tested : (l n len : ℕ) → misfit (dimensions (empty_store l)) n len ≡ refusal (empty_store l) n len
unfolding refusal
tested l n len = refl

unread : (b : Bool) (x y : Fault) (old new : List ℕ) → old ≡ filled (cond b (Some x) (Some y)) old new
unread true x y old new = refl
unread false x y old new = refl

unwritten : (b : Bool) (x y : Fault) (p : Stack) (n : ℕ) (xs : List ℕ) → p ≡ after_write (cond b (Some x) (Some y)) p n xs
unwritten true x y p n xs = refl
unwritten false x y p n xs = refl

pub read_none : (l n : ℕ) (old new : List ℕ) → old ≡ filled (refusal (empty_store l) n (length old)) old new
unfolding refusal
read_none l n old new = rw (le-ltb n 0 (omega arith)) (unread (eqb (length old) 64) _ _ old new)

pub write_none : (l n : ℕ) (xs : List ℕ) → alone (empty_store l) ≡ after_write (refusal (empty_store l) n (length xs)) (alone (empty_store l)) n xs
unfolding refusal
write_none l n xs = rw (le-ltb n 0 (omega arith)) (unwritten (eqb (length xs) 64) _ _ (alone (empty_store l)) n xs)

-- the refusal with the layer as the code has it
pub told : (k : Refusal) (n l m : ℕ) (v : Option Fault) → v ≡ Some (fault k n m) → l ≡ m → Err (fault k n l) ≡ outcome v
told k n l m v e h = ap (λ x. Err (fault k n x)) h ∙ ap outcome (sym e)
