-- The calls of a run put to its store. Assumes nothing.
use Rattle.std.specs.Prelude.{◌≡◌, ℕ, true, List, length, take, Some}
use Rattle.std.specs.List.{slice_get}
use Rattle.stores.specs.Stores.{Store}
use Rattle.stacks.specs.declared.call.Entry.{Entry}
use Rattle.stacks.specs.Calls.{ask, asks}
use Rattle.stacks.specs.Law.{Right}
use Rattle.sheet_turns.specs.declared.turns.Run.{Run}
use Rattle.sheet_turns.specs.declared.turns.Run.TheVariants.{Waiting, Running}
use Rattle.sheet_turns.specs.Settings.{figures}
use Rattle.sheet_runs.specs.Lines.{fresh}

-- the calls es became es' with the answers of the store s
pub record AnsweredBy (s : Store) (es es' : List Entry) : Type 0 where
  pub as_many : length es' ≡ length es
  pub right : (i : ℕ) (e e' : Entry) → slice_get es i ≡ Some e → slice_get es' i ≡ Some e' → Right s (asks (take i es)) (ask e.call) (ask e'.call) e'.answer

-- a run is under an admitted setting only
abbrev pub Sane : Run → Type 0
Sane Waiting = Unit {0}
Sane (Running g) = figures g.length g.count ≡ true

-- the calls of a run were put to its store
abbrev pub PutBy : Run → List Entry → List Entry → Type 0
PutBy Waiting es es' = es' ≡ es
PutBy (Running g) es es' = AnsweredBy (fresh g) es es'
