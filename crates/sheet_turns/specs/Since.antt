-- What the table comes to over many records: one setting, and the calls since. Assumes nothing.
use Rattle.std.specs.Prelude.{◌≡◌, ℕ, List, [], ◌∷◌, ◌++◌, replicate, Some, None}
use Rattle.std.specs.List.{AllByRecursion}
use Rattle.stacks.specs.Calls.{Ask, ask_read, ask_write}
use Rattle.sheets.specs.Records.{Said, setting, write, read}
use Rattle.sheet_turns.specs.declared.settings.Setting.{Setting}
use Rattle.sheet_turns.specs.declared.turns.Run.TheVariants.{Waiting, Running}
use Rattle.sheet_turns.specs.Settings.{admitted}
use Rattle.sheet_turns.specs.Table.{after, calls}

-- a record that is no admitted setting
abbrev pub Idle : Said → Type 0
Idle (setting c h l n k) = admitted c h l n k ≡ None
Idle (write s a t) = Unit {0}
Idle (read s) = Unit {0}

-- the writes and reads among records, as calls under the setting g
abbrev pub since : Setting → List Said → List Ask
since g [] = []
since g (setting c h l n k ∷ rs) = since g rs
since g (write s a t ∷ rs) = ask_write s t ∷ since g rs
since g (read s ∷ rs) = ask_read s (replicate g.length 0) ∷ since g rs

-- g is the first admitted setting among the records, and qs are the writes and reads after it
pub record Begins (rs : List Said) (g : Setting) (qs : List Ask) : Type 0 where
  pub earlier : List Said
  pub later : List Said
  pub cipher : ℕ
  pub hash : ℕ
  pub size : ℕ
  pub count : ℕ
  pub key : List ℕ
  pub parts : rs ≡ earlier ++ setting cipher hash size count key ∷ later
  pub idle : AllByRecursion Idle earlier
  pub admits : admitted cipher hash size count key ≡ Some g
  pub put : qs ≡ since g later

-- a run that is running is under the first admitted setting
abbrev pub UnderSetting : Type 0
UnderSetting = (rs : List Said) (g : Setting) → after Waiting rs ≡ Running g → Begins rs g (calls Waiting rs)

-- a run that waits had no admitted setting
abbrev pub StillWaiting : Type 0
StillWaiting = (rs : List Said) → after Waiting rs ≡ Waiting → AllByRecursion Idle rs × (calls Waiting rs ≡ [])
