-- The numbers of refusals, and when a call of the transform refuses. Assumes nothing.
use Rattle.std.specs.Prelude.{ℕ, ◌-◌, ◌%◌, Bool, true, false, cond, Ok, Err, Result, ◌==◌, nat_le}
use Rattle.sector.specs.declared.refusal.Refusal.{Refusal}
use Rattle.sector.specs.declared.refusal.Refusal.TheVariants.{TextLength, BufferLength, WorkingLength, SectorNumber, SectorFailed, Figures, SheetBroken, OutOfTurn}

-- the number of each refusal
abbrev pub refusal_number : Refusal → ℕ
refusal_number TextLength = 1
refusal_number BufferLength = 2
refusal_number WorkingLength = 3
refusal_number SectorNumber = 4
refusal_number SectorFailed = 5
refusal_number Figures = 6
refusal_number SheetBroken = 7
refusal_number OutOfTurn = 8

-- 0 where nothing is refused, or the refusal's number
abbrev pub answer_number : Result (Unit {0}) Refusal → ℕ
answer_number (Ok x) = 0
answer_number (Err r) = refusal_number r

abbrev pub both : Bool → Bool → Bool
both true b = b
both false b = false

-- a text that a call takes: a multiple of 16 from 64 to 4,096
abbrev pub admitted : ℕ → Bool
admitted n = both (n % 16 == 0) (both (nat_le 64 n) (nat_le n 4096))

-- what a call answers, by the three lengths alone, tested in this order
abbrev pub answer : ℕ → ℕ → ℕ → Result (Unit {0}) Refusal
answer text output working =
    cond (admitted text) (cond (output == text) (cond (nat_le (text - 16) working) (Ok tt) (Err WorkingLength)) (Err BufferLength)) (Err TextLength)
