-- A store with no sectors. Assumes nothing.
use Rattle.std.specs.Prelude.{ℕ, min, [], None, refl}
use Rattle.std.proofs.Common.{arith}
use Rattle.stores.specs.Stores.{Store}
use Rattle.stores.specs.Layers.{Sound}

-- no sectors, of 64 bytes each, and this layer number
abbrev pub empty_store : ℕ → Store
empty_store l = record { count = 0; size = 64; layer = min l 65535; bytes = λ k. []; failed = λ k. None }

pub empty_sound : (l : ℕ) → Sound (empty_store l)
empty_sound l = record { few = omega arith; long = omega arith; short = omega arith; even = refl; low = omega arith }
