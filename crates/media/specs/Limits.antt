-- The figures of a medium are within the limits of a sector store. Assumes nothing.
use Rattle.std.specs.Prelude.{◌≡◌, ℕ, ◌+◌, ◌*◌, ◌&&◌, ◌==◌, nat_le, true, List, [], length, Option, Some, refl}
use Rattle.std.proofs.Common.{arith}
use Rattle.std.proofs.lemmas.Bool.{and_parts, cond_both}
use Rattle.std.proofs.lemmas.Bool.Decides.{nat_tests}
use Rattle.stores.specs.Layers.{Sound}
use Rattle.media.specs.Media.{within_limits, flat_figures, flat_store, flat_medium}
use Rattle.media.specs.Spared.{laid_out, lies, listed, position, spare_place, spared_figures, spared_store, spared_medium}

-- sectors within the limits are a sector store, wherever each of them lies
pub medium_sound : (n size : ℕ) (bytes : ℕ → List ℕ) (lies : ℕ → Option ℕ) → within_limits n size ≡ true → Sound (laid_out n size bytes lies)
medium_sound n size bytes lies e = record {
  few = grind (arith, nat_tests);
  long = grind (arith, nat_tests);
  short = grind (arith, nat_tests);
  even = grind (arith, nat_tests);
  low = omega arith;
}

-- a medium is a sector store, whatever its figures are
pub flat_sound : (all : List ℕ) (n size : ℕ) → Sound (flat_medium all n size)
flat_sound all n size = cond_both (flat_figures (length all) n size) (flat_store all n size) (flat_store all 0 64) Sound
    (λ e. medium_sound n size _ (λ k. Some k) (and_parts (within_limits n size) (n * size == length all) e).0)
    (λ e. medium_sound 0 64 _ (λ k. Some k) refl)

pub spared_sound : (all : List ℕ) (n size spares : ℕ) (bad : List ℕ) → Sound (spared_medium all n size spares bad)
spared_sound all n size spares bad = cond_both (spared_figures (length all) n size spares bad) (spared_store all n size spares bad) (spared_store all 0 64 0 []) Sound
    (λ e. medium_sound n size _ _ (and_parts (within_limits n size) (nat_le spares 16 && (nat_le (length bad) 16 && ((n + spares) * size == length all && listed n bad))) e).0)
    (λ e. medium_sound 0 64 _ (λ k. lies (0 + 0) k (spare_place 0 (position [] k))) refl)
