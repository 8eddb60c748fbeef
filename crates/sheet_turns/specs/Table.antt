-- What a record does, by the state of the run and the record together. Assumes nothing.
use Rattle.std.specs.Prelude.{List, [], ◌∷◌, ◌++◌, replicate, Some, None, Ok, Err, Option, Result}
use Rattle.sector.specs.declared.refusal.Refusal.{Refusal}
use Rattle.sector.specs.declared.refusal.Refusal.TheVariants.{Figures, OutOfTurn}
use Rattle.stacks.specs.Calls.{Ask, ask_read, ask_write}
use Rattle.sheets.specs.Records.{Said, setting, write, read}
use Rattle.sheet_turns.specs.declared.settings.Setting.{Setting}
use Rattle.sheet_turns.specs.declared.turns.Run.{Run}
use Rattle.sheet_turns.specs.declared.turns.Run.TheVariants.{Waiting, Running}
use Rattle.sheet_turns.specs.declared.turns.Effect.{Effect}
use Rattle.sheet_turns.specs.declared.turns.Effect.TheVariants.{Answered, Write, Read}
use Rattle.sheet_turns.specs.Settings.{admitted}

-- a record is answered at once, or put to the store as a call
pub data Does : Type 0 where
  answered : Result (Unit {0}) Refusal → Does
  puts : Ask → Does

-- a read is put with a buffer of one sector of zeros
abbrev pub does : Effect → Does
does (Answered a) = answered a
does (Write sector text) = puts (ask_write sector text.now)
does (Read sector size) = puts (ask_read sector (replicate size 0))

-- a setting while the run waits: the run begins if the setting is admitted
abbrev pub begun : Option Setting → Run × Does
begun None = (Waiting, answered (Err Figures))
begun (Some g) = (Running g, answered (Ok tt))

-- waiting takes a setting, running takes writes and reads, and anything else is out of turn and changes nothing
abbrev pub table : Run → Said → Run × Does
table Waiting (setting c h l n k) = begun (admitted c h l n k)
table Waiting (write s a t) = (Waiting, answered (Err OutOfTurn))
table Waiting (read s) = (Waiting, answered (Err OutOfTurn))
table (Running g) (setting c h l n k) = (Running g, answered (Err OutOfTurn))
table (Running g) (write s a t) = (Running g, puts (ask_write s t))
table (Running g) (read s) = (Running g, puts (ask_read s (replicate g.length 0)))

-- the state after records
abbrev pub after : Run → List Said → Run
after u [] = u
after u (r ∷ rs) = after (table u r).0 rs

-- the call that a record puts, if it puts one
abbrev pub puts_of : Does → List Ask
puts_of (answered a) = []
puts_of (puts q) = q ∷ []

-- the calls that records put, in their order: the writes and reads since the setting
abbrev pub calls : Run → List Said → List Ask
calls u [] = []
calls u (r ∷ rs) = puts_of (table u r).1 ++ calls (table u r).0 rs
