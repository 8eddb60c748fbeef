-- Notes of the lines, the calls to be put, and the answers filled in. Assumes nothing.
use Rattle.std.specs.Prelude.{◌≡◌, ℕ, cond, List, [], ◌∷◌, length, take, Some, None, Ok, Err, Option, Result, nat_le}
use Rattle.std.specs.List.{slice_get}
use Rattle.sector.specs.declared.refusal.Refusal.{Refusal}
use Rattle.stacks.specs.declared.call.Call.{Call}
use Rattle.stacks.specs.declared.call.Answer.{Answer}
use Rattle.stacks.specs.declared.call.Answer.TheVariants.{Transfer, Number, State}
use Rattle.stacks.specs.declared.call.Entry.{Entry}
use Rattle.stacks.specs.Calls.{Ask, ask, asks, ask_count, ask_length, ask_layer, ask_state, ask_read, ask_write}
use Rattle.lines.specs.declared.line.Line.{Line}
use Rattle.lines.specs.declared.line.LineKind.{LineKind}
use Rattle.lines.specs.declared.line.LineKind.TheVariants.{Setting as SettingKind, Write as WriteKind, Read as ReadKind}
use Rattle.sheets.specs.Records.{Said, setting, write, read}
use Rattle.sheet_turns.specs.declared.turns.Run.{Run}
use Rattle.sheet_turns.specs.declared.turns.Run.TheVariants.{Waiting}
use Rattle.sheet_plans.specs.declared.plans.Note.{Note}
use Rattle.sheet_turns.specs.Table.{Does, answered, puts, table, after, calls, puts_of}

-- the kind of a record's line
abbrev pub kind_of : Said → LineKind
kind_of (setting c h l n k) = SettingKind
kind_of (write s a t) = WriteKind
kind_of (read s) = ReadKind

-- the sector of a record's line
abbrev pub sector_of : Said → Option ℕ
sector_of (setting c h l n k) = None
sector_of (write s a t) = Some s
sector_of (read s) = Some s

-- what a call asks, if there is one
abbrev pub call_asked : Option Call → List Ask
call_asked None = []
call_asked (Some c) = ask c ∷ []

-- the number of the call that is put after k others, if one is put
abbrev pub call_at : List Ask → ℕ → Option ℕ
call_at [] k = None
call_at (q ∷ qs) k = Some k

-- the answer of a note before the calls are put
abbrev pub noted_answer : Does → Result (Unit {0}) Refusal
noted_answer (answered a) = a
noted_answer (puts q) = Ok tt

-- the note of a record with the number i
abbrev pub note_of : ℕ → Said → Does → Option ℕ → Note
note_of i r d k = record { line = record { index = i; kind = kind_of r; sector = sector_of r; answer = noted_answer d; first = None }; call = k }

-- the note of the record r, which has the number i and comes after the records `before`
abbrev pub note_after : ℕ → List Said → Said → Note
note_after i before r =
    let d = (table (after Waiting before) r).1 in note_of i r d (call_at (puts_of d) (length (calls Waiting before)))

-- the records were taken in turn: the state after them, a note for each and the calls put
pub record Planned (rs : List Said) (u : Run) (notes : List Note) (es : List Entry) : Type 0 where
  pub state : u ≡ after Waiting rs
  pub asked : asks es ≡ calls Waiting rs
  pub as_many : length notes ≡ length rs
  pub noted : (i : ℕ) (r : Said) → slice_get rs i ≡ Some r → slice_get notes i ≡ Some (note_after i (take i rs) r)

-- the first eight bytes
abbrev pub eight : List ℕ → Option (List ℕ)
eight xs = cond (nat_le 8 (length xs)) (Some (take 8 xs)) None

-- a call's answer as a line has it
abbrev pub answer_of : Option Answer → Result (Unit {0}) Refusal
answer_of None = Ok tt
answer_of (Some (Transfer (Ok u))) = Ok tt
answer_of (Some (Transfer (Err f))) = Err f.refusal
answer_of (Some (Number n)) = Ok tt
answer_of (Some (State s)) = Ok tt

-- what an accepted call shows: a read the first bytes of its buffer
abbrev pub read_shown : Ask → Option (List ℕ)
read_shown ask_count = None
read_shown ask_length = None
read_shown ask_layer = None
read_shown (ask_state n) = None
read_shown (ask_read n xs) = eight xs
read_shown (ask_write n xs) = None

-- what a call shows
abbrev pub shown_of : Option Answer → Ask → Option (List ℕ)
shown_of None q = None
shown_of (Some (Transfer (Ok u))) q = read_shown q
shown_of (Some (Transfer (Err f))) q = None
shown_of (Some (Number n)) q = None
shown_of (Some (State s)) q = None

-- a line with the answer of the call e, if there is one
abbrev pub answered_line : Line → Option Entry → Line
answered_line line None = line
answered_line line (Some e) =
    record { index = line.index; kind = line.kind; sector = line.sector; answer = answer_of e.answer; first = shown_of e.answer (ask e.call) }

-- a line with the answer of call k, or as it is
abbrev pub line_by : Line → Option ℕ → List Entry → Line
line_by line None es = line
line_by line (Some k) es = answered_line line (slice_get es k)

-- a note's line with the answer of its call
abbrev pub finished : Note → List Entry → Line
finished n es = line_by n.line n.call es
