-- What a sector store means, and what its calls answer. Assumes nothing.
use Rattle.std.specs.Prelude.{ℕ, Bool, cond, List, Some, None, Ok, Err, Option, Result, ◌==◌, nat_lt}
use Rattle.sector.specs.Refusals.{refusal_number}
use Rattle.sector.specs.declared.refusal.Refusal.{Refusal}
use Rattle.sector.specs.declared.refusal.Refusal.TheVariants.{BufferLength, SectorNumber, SectorFailed, Figures}
use Rattle.stores.specs.declared.dimensions.Dimensions.{Dimensions}
use Rattle.stores.specs.declared.fault.Fault.{Fault}
use Rattle.stores.specs.declared.state.SectorState.{SectorState}
use Rattle.stores.specs.declared.state.SectorState.TheVariants.{Ready, Missing, Failed}

-- where a failure arose: the sector, and the number of the layer
pub record Place : Type 0 where
  pub sector : ℕ
  pub layer : ℕ

-- a sector store: how many sectors, how many bytes each has, the store's layer number, the bytes of each sector, and
-- of each sector that has failed where the failure arose
pub record Store : Type 0 where
  pub count : ℕ
  pub size : ℕ
  pub layer : ℕ
  pub bytes : ℕ → List ℕ
  pub failed : ℕ → Option Place

-- the number of each state of a sector: 0, or that of the refusal which a read or a write would draw
abbrev pub state_number : SectorState → ℕ
state_number Ready = 0
state_number Missing = refusal_number SectorNumber
state_number Failed = refusal_number SectorFailed

-- a fault by its refusal, sector and layer
abbrev pub fault : Refusal → ℕ → ℕ → Fault
fault r n l = record { refusal = r; sector = n; layer = l }

-- the fault of a failed sector names the place where the failure arose, as it is
abbrev pub failure : Option Place → Option Fault
failure None = None
failure (Some p) = Some (fault SectorFailed p.sector p.layer)

-- the numbers of a store
abbrev pub dimensions : Store → Dimensions
dimensions s = record { count = s.count; length = s.size; layer = s.layer }

-- the fault that a buffer of this length, and then sector n by its number, draws from a store of these dimensions
abbrev pub misfit : Dimensions → ℕ → ℕ → Option Fault
misfit d n len =
    cond (len == d.length)
    (cond (nat_lt n d.count) None (Some (fault SectorNumber n d.layer)))
    (Some (fault BufferLength n d.layer))

-- the fault that a read or a write of sector n with a buffer of this length draws, in the order of the tests; None: the
-- call is accepted
unfoldable pub refusal : Store → ℕ → ℕ → Option Fault
refusal s n len =
    cond (len == s.size)
    (cond (nat_lt n s.count) (failure (s.failed n)) (Some (fault SectorNumber n s.layer)))
    (Some (fault BufferLength n s.layer))

-- what the call answers
abbrev pub outcome : Option Fault → Result (Unit {0}) Fault
outcome None = Ok tt
outcome (Some f) = Err f

-- what a read leaves in its buffer: the sector's bytes, or what the buffer held where the read is refused
abbrev pub filled : Option Fault → List ℕ → List ℕ → List ℕ
filled None old new = new
filled (Some f) old new = old

-- a sector below the count is ready unless it has failed
abbrev pub state_of : Option Place → SectorState
state_of None = Ready
state_of (Some p) = Failed

-- the state of sector n
unfoldable pub state : Store → ℕ → SectorState
state s n = cond (nat_lt n s.count) (state_of (s.failed n)) Missing

-- the store with these bytes in sector n, and all else as it was
unfoldable pub put : Store → ℕ → List ℕ → Store
put s n xs = record {
  count = s.count;
  size = s.size;
  layer = s.layer;
  bytes = λ k. cond (k == n) xs (s.bytes k);
  failed = s.failed;
}

-- what a check of figures answers
abbrev pub checked : Bool → Result (Unit {0}) Refusal
checked ok = cond ok (Ok tt) (Err Figures)
