-- Records one after the other. Assumes nothing.
use Rattle.std.proofs.Common.{◌≡◌, List, [], ◌∷◌, ◌++◌, sym, refl, ap, ◌∙◌, append_assoc}
use Rattle.sheets.specs.Records.{Said, setting, write, read}
use Rattle.sheet_turns.specs.declared.settings.Setting.{Setting}
use Rattle.sheet_turns.specs.declared.turns.Run.{Run}
use Rattle.sheet_turns.specs.declared.turns.Run.TheVariants.{Running}
use Rattle.sheet_turns.specs.Table.{table, after, calls, puts_of}

pub after_append : (u : Run) (xs ys : List Said) → after u (xs ++ ys) ≡ after (after u xs) ys
after_append u [] ys = refl
after_append u (x ∷ xs) ys = after_append (table u x).0 xs ys

pub calls_append : (u : Run) (xs ys : List Said) → calls u (xs ++ ys) ≡ calls u xs ++ calls (after u xs) ys
calls_append u [] ys = refl
calls_append u (x ∷ xs) ys =
    ap (λ z. puts_of (table u x).1 ++ z) (calls_append (table u x).0 xs ys)
    ∙ sym (append_assoc (puts_of (table u x).1) (calls (table u x).0 xs) (calls (after (table u x).0 xs) ys))

-- a run that has begun goes on under its setting
pub stays : (g : Setting) (rs : List Said) → after (Running g) rs ≡ Running g
stays g [] = refl
stays g (setting c h l n k ∷ rs) = stays g rs
stays g (write s a t ∷ rs) = stays g rs
stays g (read s ∷ rs) = stays g rs
