-- The lines of a sheet: what each record came to. Assumes nothing.
use Rattle.std.specs.Prelude.{◌≡◌, ℕ, ◌+◌, Bool, true, cond, List, [], ◌∷◌, length, take, replicate, Some, None, Ok, Err, Option, Result, ◌==◌, nat_lt}
use Rattle.std.specs.List.{slice_get}
use Rattle.elements.specs.declared.values.Block.{Block}
use Rattle.ciphers.specs.Choice.{cipher_of}
use Rattle.hashing.specs.Choice.{hash_of}
use Rattle.sector.specs.Texts.{deciphered_bytes}
use Rattle.sector.specs.Transform.{tweak}
use Rattle.sector.specs.declared.refusal.Refusal.{Refusal}
use Rattle.sector.specs.declared.refusal.Refusal.TheVariants.{BufferLength, SectorNumber, Figures, SheetBroken, OutOfTurn}
use Rattle.stores.specs.Stores.{Store}
use Rattle.stores.specs.Layers.{enciphering, stacked}
use Rattle.media.specs.Media.{flat_medium}
use Rattle.stacks.specs.Calls.{Ask}
use Rattle.stacks.specs.Law.{Shown}
use Rattle.lines.specs.declared.line.Line.{Line}
use Rattle.lines.specs.declared.line.LineKind.TheVariants.{Broken as BrokenKind}
use Rattle.sheets.specs.Records.{Said, setting, write, read}
use Rattle.sheets.specs.Sheets.{RecordsOf}
use Rattle.sheet_turns.specs.declared.settings.Setting.{Setting}
use Rattle.sheet_turns.specs.declared.turns.Run.{Run}
use Rattle.sheet_turns.specs.declared.turns.Run.TheVariants.{Waiting, Running}
use Rattle.sheet_turns.specs.Settings.{admitted}
use Rattle.sheet_turns.specs.Table.{after, calls}
use Rattle.sheet_plans.specs.Plans.{kind_of, sector_of}

-- an enciphering layer over a flat medium on these bytes
abbrev pub store_of : (Block → Block) → (Block → List Block → Block) → List ℕ → ℕ → ℕ → Store
store_of F g all n l = stacked (enciphering F g ∷ []) (flat_medium all n l)

-- the store of a setting at the start: every sector is the decipherment of zeros under its number, and none has failed
abbrev pub fresh : Setting → Store
fresh g = record {
  count = g.count;
  size = g.length;
  layer = 1;
  bytes = λ n. deciphered_bytes (cipher_of g.cipher g.key) (hash_of g.hash) (tweak n) (replicate g.length 0);
  failed = λ n. None;
}

-- the answer to a setting while the run waits
abbrev pub setting_answer : Option Setting → Result (Unit {0}) Refusal
setting_answer None = Err Figures
setting_answer (Some g) = Ok tt

-- the answer to a write or a read of sector n with so many bytes
abbrev pub store_answer : Setting → ℕ → ℕ → Result (Unit {0}) Refusal
store_answer g n len = cond (len == g.length) (cond (nat_lt n g.count) (Ok tt) (Err SectorNumber)) (Err BufferLength)

-- what a read of sector n shows after the calls `before`: where it is accepted, the first eight bytes of the text last
-- accepted for the sector, or with none of the decipherment of zeros
abbrev pub Shows : Setting → List Ask → ℕ → Result (Unit {0}) Refusal → Option (List ℕ) → Type 0
Shows g before n (Ok u) f = (ys : List ℕ) × Shown (fresh g) before n ys × (f ≡ Some (take 8 ys))
Shows g before n (Err e) f = f ≡ None

-- the answer a to a record and the bytes f shown with it, by the state and the calls before the record
abbrev pub Outcome : Run → List Ask → Said → Result (Unit {0}) Refusal → Option (List ℕ) → Type 0
Outcome Waiting before (setting c h l n k) a f = (a ≡ setting_answer (admitted c h l n k)) × (f ≡ None)
Outcome Waiting before (write s p t) a f = (a ≡ Err OutOfTurn) × (f ≡ None)
Outcome Waiting before (read s) a f = (a ≡ Err OutOfTurn) × (f ≡ None)
Outcome (Running g) before (setting c h l n k) a f = (a ≡ Err OutOfTurn) × (f ≡ None)
Outcome (Running g) before (write s p t) a f = (a ≡ store_answer g s (length t)) × (f ≡ None)
Outcome (Running g) before (read s) a f = (a ≡ store_answer g s g.length) × Shows g before s a f

-- the line of the record r, which has the number i and comes after the records `before`
pub record LineIs (i : ℕ) (before : List Said) (r : Said) (line : Line) : Type 0 where
  pub index : line.index ≡ i
  pub kind : line.kind ≡ kind_of r
  pub sector : line.sector ≡ sector_of r
  pub outcome : Outcome (after Waiting before) (calls Waiting before) r line.answer line.first

-- the line of a sheet that is broken after i records
abbrev pub broken_line : ℕ → Line
broken_line i = record { index = i; kind = BrokenKind; sector = None; answer = Err SheetBroken; first = None }

-- a line for each record in its place, one more for a broken sheet, and no other
pub record LinesAre (rs : List Said) (broken : Bool) (lines : List Line) : Type 0 where
  pub as_many : length lines ≡ length rs + cond broken 1 0
  pub each : (i : ℕ) (r : Said) → slice_get rs i ≡ Some r → (line : Line) × (slice_get lines i ≡ Some line) × LineIs i (take i rs) r line
  pub last : broken ≡ true → slice_get lines (length rs) ≡ Some (broken_line (length rs))

-- the lines of a sheet are those of its records
pub record RunOf (sheet : List ℕ) (lines : List Line) : Type 0 where
  pub records : List Said
  pub broken : Bool
  pub are_read : RecordsOf sheet records broken
  pub are_run : LinesAre records broken lines
