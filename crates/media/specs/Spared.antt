-- A medium with spare places and a list of bad sectors. Assumes nothing.
use Rattle.std.specs.Prelude.{◌≡◌, ℕ, ◌+◌, ◌*◌, ◌<◌, Bool, true, cond, not, ◌&&◌, List, [], ◌∷◌, length, is_some, Some, None, Option, Ok, Err, Result, ◌==◌, ◌≢◌, nat_le, nat_lt, slice_index}
use Rattle.std.specs.List.{position as position_by}
use Rattle.sector.specs.declared.refusal.Refusal.TheVariants.{SectorFailed}
use Rattle.stores.specs.declared.fault.Fault.{Fault}
use Rattle.stores.specs.Stores.{Store, Place, fault}
use Rattle.media.specs.Media.{place, within_limits}

-- the position of a sector in the list of bad sectors
abbrev pub position : List ℕ → ℕ → Option ℕ
position bad k = position_by (λ x. x == k) bad

-- the spare place of the bad sector at a position, over n sectors: the spares follow the sectors' own places
abbrev pub spare_place : ℕ → Option ℕ → Option ℕ
spare_place n None = None
spare_place n (Some i) = Some (n + i)

-- where sector k lies among so many places, by its spare place: with none, in its own; None where it has a spare place
-- that does not exist, so that it has failed
abbrev pub lies : ℕ → ℕ → Option ℕ → Option ℕ
lies places k None = Some k
lies places k (Some p) = cond (nat_lt p places) (Some p) None

-- a failed sector stays in its own place
abbrev pub own_or : ℕ → Option ℕ → ℕ
own_or k None = k
own_or k (Some p) = p

-- where the failure of sector k arose
abbrev pub lost : ℕ → Option ℕ → Option Place
lost k None = Some (record { sector = k; layer = 0 })
lost k (Some p) = None

-- the place in which sector k lies, failed or not
abbrev pub home : ℕ → ℕ → List ℕ → ℕ → ℕ
home n spares bad k = own_or k (lies (n + spares) k (spare_place n (position bad k)))

-- the bytes of sector k
abbrev pub sector_bytes : List ℕ → ℕ → ℕ → ℕ → List ℕ → ℕ → List ℕ
sector_bytes all n size spares bad k = cond (nat_lt k n) (place all size (home n spares bad k)) []

-- n sectors with spares, by the list of bad sectors
abbrev pub spared_store : List ℕ → ℕ → ℕ → ℕ → List ℕ → Store
spared_store all n size spares bad = record {
  count = n;
  size = size;
  layer = 0;
  bytes = sector_bytes all n size spares bad;
  failed = λ k. lost k (lies (n + spares) k (spare_place n (position bad k)));
}

-- bad sectors: each below n, and listed once
abbrev pub listed : ℕ → List ℕ → Bool
listed n [] = true
listed n (x ∷ xs) = nat_lt x n && (not (is_some (position xs x)) && listed n xs)

-- figures that a spared medium over so many bytes may have
abbrev pub spared_figures : ℕ → ℕ → ℕ → ℕ → List ℕ → Bool
spared_figures all n size spares bad =
    within_limits n size && (nat_le spares 16 && (nat_le (length bad) 16 && ((n + spares) * size == all && listed n bad)))

-- a spared medium; with figures that break a rule it is empty, with the length 64
abbrev pub spared_medium : List ℕ → ℕ → ℕ → ℕ → List ℕ → Store
spared_medium all n size spares bad = cond (spared_figures (length all) n size spares bad) (spared_store all n size spares bad) (spared_store all 0 64 0 [])

-- fs are the failed sectors of a store, each exactly once, in any order
pub record Failures (s : Store) (fs : List ℕ) : Type 0 where
  pub each : (i : ℕ) → i < length fs → is_some (s.failed (slice_index fs i)) ≡ true
  pub all : (n : ℕ) → is_some (s.failed n) ≡ true → (i : ℕ) × (i < length fs) × (slice_index fs i ≡ n)
  pub apart : (i j : ℕ) → i < j → j < length fs → slice_index fs i ≢ slice_index fs j

-- n sectors of this length, by the bytes of each and by the place in which each lies
abbrev pub laid_out : ℕ → ℕ → (ℕ → List ℕ) → (ℕ → Option ℕ) → Store
laid_out n size bytes lies = record { count = n; size = size; layer = 0; bytes = bytes; failed = λ k. lost k (lies k) }

-- where sector k lies, by its place, or the fault of a failed sector
abbrev pub placed : ℕ → Option ℕ → Result ℕ Fault
placed k None = Err (fault SectorFailed k 0)
placed k (Some p) = Ok p
