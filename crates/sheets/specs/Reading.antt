-- Which record is read at a place of a sheet. Assumes nothing.
use Rattle.std.specs.Prelude.{◌≡◌, ℕ, ◌+◌, ◌*◌, ◌<◌, ◌≤◌, cond, List, length, drop, Some, None, Ok, Err, Option, Result, ◌==◌, nat_le, slice_index}
use Rattle.sector.specs.declared.refusal.Refusal.{Refusal}
use Rattle.sector.specs.declared.refusal.Refusal.TheVariants.{SheetBroken}
use Rattle.sheets.specs.declared.records.Found.{Found}
use Rattle.sheets.specs.Records.{Said, setting, write, read, said, written, key_length, Stands}

-- no record stands at a place
abbrev pub NoneStands : List ℕ → ℕ → Type 0
NoneStands s at = (r : Said) → Stands s at r → ⊥

-- a record stands at a place, and the next place is after it
abbrev pub FoundAt : List ℕ → ℕ → Found → Type 0
FoundAt s at f = Stands s at (said f.«record») × (f.next ≡ at + length (written (said f.«record»)))

-- what is read at a place: the record that stands there and the place after it, none exactly at the end, and a broken
-- sheet exactly where, before the end, no record stands
abbrev pub NextIs : List ℕ → ℕ → Result (Option Found) Refusal → Type 0
NextIs s at (Ok None) = length s ≤ at
NextIs s at (Ok (Some f)) = (at < length s) × FoundAt s at f
NextIs s at (Err e) = (e ≡ SheetBroken) × (at < length s) × NoneStands s at

-- the number in two bytes
abbrev pub word : List ℕ → ℕ → ℕ
word b i = slice_index b i * 256 + slice_index b (i + 1)

-- the record of a body that begins at a place, by its kind and its length
abbrev pub body_said : ℕ → List ℕ → Option Said
body_said at b =
    cond (length b == 0) None
    (cond (slice_index b 0 == 1) (cond (length b == 7 + key_length) (Some (setting (slice_index b 1) (slice_index b 2) (word b 3) (word b 5) (drop 7 b))) None)
    (cond (slice_index b 0 == 2) (cond (nat_le 3 (length b)) (Some (write (word b 1) (at + 3) (drop 3 b))) None)
    (cond (slice_index b 0 == 3) (cond (length b == 3) (Some (read (word b 1))) None) None)))
