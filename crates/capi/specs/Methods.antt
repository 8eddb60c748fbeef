-- The methods that a caller names by numbers. Assumes nothing.
use Rattle.std.specs.Prelude.{ℕ, cond, List, Option, Some, None, Ok, Err, Result}
use Rattle.ciphers.specs.declared.choice.Cipher.{Cipher}
use Rattle.hashing.specs.declared.choice.AnyHash.{AnyHash}
use Rattle.sector.specs.declared.refusal.Refusal.{Refusal}
use Rattle.sector.specs.declared.refusal.Refusal.TheVariants.{Figures}
use Rattle.capi.specs.Blocks.{whole}
use Rattle.capi.specs.declared.method.Method.{Method}

-- the method of a cipher, a hash and a key, or the refusal where one of the three is none
abbrev pub method_of : Option Cipher → Option AnyHash → List ℕ → Result Method Refusal
method_of (Some c) (Some h) key = cond (whole key) (Ok (record { cipher = c; hash = h; key = key })) (Err Figures)
method_of (Some c) None key = Err Figures
method_of None h key = Err Figures
