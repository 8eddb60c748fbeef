use Rattle.std.proofs.Common.{ℕ, suc, ◌-◌, ◌≤◌, map, length, Some, None, Ok, Err, Option, Result, vec_items}
use Rattle.sector.specs.declared.refusal.Refusal.{Refusal}
use Rattle.sheets.specs.declared.records.Found.{Found}
use Rattle.sheets.specs.Reading.{NextIs}
use Rattle.sheets.specs.Records.{said}
use Rattle.sheets.specs.Sheets.{Lie}
use Rattle.sheets.proofs.reading.read_sheet.Given as goal

-- the records lie one after the other up to a place, and what is read there comes next
abbrev pub invariant-loop-next : goal.invariant-loop-next
invariant-loop-next l = (at : ℕ) × Lie l.sheet 1 (map said (vec_items l.records)) at × (at ≤ length l.sheet) × NextIs l.sheet at l.next

-- the bytes after the record that comes next
abbrev left : ℕ → Result (Option Found) Refusal → ℕ
left n (Ok (Some f)) = suc (n - f.next)
left n (Ok None) = 0
left n (Err e) = 0

abbrev pub decreases-loop-next : goal.decreases-loop-next
decreases-loop-next l = left (length l.sheet) l.next
