-- The records of a whole sheet. Assumes nothing.
use Rattle.std.specs.Prelude.{◌≡◌, ℕ, ◌+◌, ◌<◌, Bool, true, false, cond, ◌&&◌, Ok, Err, Result, List, [], ◌∷◌, ◌++◌, length, take, drop, ◌==◌, nat_le, slice_index}
use Rattle.std.specs.List.{flat_map}
use Rattle.sector.specs.declared.refusal.Refusal.{Refusal}
use Rattle.sector.specs.declared.refusal.Refusal.TheVariants.{SheetBroken}
use Rattle.sheets.specs.Reading.{NoneStands}
use Rattle.sheets.specs.Records.{Said, write, written, Stands}

-- a sheet that can be read: not empty, of at most 61,440 bytes, and of version 1
abbrev pub opened : List ℕ → Bool
opened s = nat_le 1 (length s) && (nat_le (length s) 61440 && slice_index s 0 == 1)

-- records that stand one after the other from a place to another
abbrev pub Lie : List ℕ → ℕ → List Said → ℕ → Type 0
Lie s at [] to = to ≡ at
Lie s at (r ∷ rs) to = Stands s at r × Lie s (at + length (written r)) rs to

-- the records end at a place: there the sheet ends, or it is broken since no record stands there
abbrev pub Ends : List ℕ → ℕ → Bool → Type 0
Ends s to false = to ≡ length s
Ends s to true = (to < length s) × NoneStands s to

-- rs are the records of the sheet s, and `broken` says whether it is broken after them; one that cannot be read is broken
-- at once
pub record RecordsOf (s : List ℕ) (rs : List Said) (broken : Bool) : Type 0 where
  pub unopened : opened s ≡ false → (rs ≡ []) × (broken ≡ true)
  pub in_order : opened s ≡ true → (to : ℕ) × Lie s 1 rs to × Ends s to broken

-- what is said of a sheet's end: whether it is broken there
abbrev pub end_of : Bool → Result (Unit {0}) Refusal
end_of broken = cond broken (Err SheetBroken) (Ok tt)

-- at most one record stands at a place
abbrev pub OneStands : Type 0
OneStands = (s : List ℕ) (at : ℕ) (r r' : Said) → Stands s at r → Stands s at r' → r ≡ r'

-- the text of a write is the part of the sheet at its place
abbrev pub TextIsPart : Type 0
TextIsPart = (s : List ℕ) (at n place : ℕ) (text : List ℕ) → Stands s at (write n place text) → take (length text) (drop place s) ≡ text

-- a sheet has one list of records, and is broken after them or not
abbrev pub OneReading : Type 0
OneReading = (s : List ℕ) (rs rs' : List Said) (b b' : Bool) → RecordsOf s rs b → RecordsOf s rs' b' → (rs ≡ rs') × (b ≡ b')

-- a sheet is its version, then the bytes of its records, then what is broken: nothing if the sheet is not broken
abbrev pub ReadsBack : Type 0
ReadsBack = (s : List ℕ) (rs : List Said) (b : Bool) → opened s ≡ true → RecordsOf s rs b
    → (rest : List ℕ) × (s ≡ 1 ∷ (flat_map written rs ++ rest)) × (b ≡ false → rest ≡ [])
