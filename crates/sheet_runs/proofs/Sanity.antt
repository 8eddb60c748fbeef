-- A run is under an admitted setting only. Assumes nothing.
use Rattle.std.proofs.Common.{◌≡◌, ℕ, true, List, [], ◌∷◌, Some, None, Option}
use Rattle.std.proofs.lemmas.Bool.{cond_both}
use Rattle.ciphers.specs.declared.choice.Cipher.{Cipher}
use Rattle.hashing.specs.declared.choice.AnyHash.{AnyHash}
use Rattle.sheets.specs.Records.{Said, setting, write, read}
use Rattle.sheet_turns.specs.declared.turns.Run.{Run}
use Rattle.sheet_turns.specs.declared.turns.Run.TheVariants.{Waiting, Running}
use Rattle.ciphers.specs.Choice.{cipher_numbered}
use Rattle.hashing.specs.Choice.{hash_numbered}
use Rattle.sheet_turns.specs.Settings.{figures, set_to}
use Rattle.sheet_turns.specs.Table.{begun, table, after}
use Rattle.sheet_runs.specs.Puts.{Sane}

sane_set : (c : Option Cipher) (h : Option AnyHash) (l n : ℕ) (k : List ℕ) → figures l n ≡ true → Sane (begun (set_to c h l n k)).0
sane_set None h l n k e = tt
sane_set (Some c) None l n k e = tt
sane_set (Some c) (Some h) l n k e = e

sane_table : (u : Run) (r : Said) → Sane u → Sane (table u r).0
sane_table Waiting (setting c h l n k) s = cond_both (figures l n) (set_to (cipher_numbered c) (hash_numbered h) l n k) None (λ o. Sane (begun o).0) (λ e. sane_set (cipher_numbered c) (hash_numbered h) l n k e) (λ e. tt)
sane_table Waiting (write s a t) h = tt
sane_table Waiting (read s) h = tt
sane_table (Running g) (setting c h l n k) s = s
sane_table (Running g) (write s a t) h = h
sane_table (Running g) (read s) h = h

pub sane_after : (u : Run) (rs : List Said) → Sane u → Sane (after u rs)
sane_after u [] s = s
sane_after u (r ∷ rs) s = sane_after (table u r).0 rs (sane_table u r s)
