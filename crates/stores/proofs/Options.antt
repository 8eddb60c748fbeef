-- Outcomes that are known. Assumes nothing.
use Rattle.std.proofs.Common.{◌≡◌, Some, None, Ok, Err, Option, refl}
use Rattle.stores.specs.declared.fault.Fault.{Fault}
use Rattle.stores.specs.Stores.{outcome}

pub was_refused : (f : Fault) (v : Option Fault) → Err f ≡ outcome v → v ≡ Some f
was_refused f None e = cc
was_refused f (Some g) e = cc

pub was_accepted : (u : Unit {0}) (v : Option Fault) → Ok u ≡ outcome v → v ≡ None
was_accepted u None e = refl
was_accepted u (Some g) e = cc
