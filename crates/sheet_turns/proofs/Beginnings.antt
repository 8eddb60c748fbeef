-- One setting, and the calls since. Assumes nothing.
use Rattle.std.proofs.Common.{◌≡◌, ℕ, List, [], ◌∷◌, ◌++◌, replicate, Some, None, Option, refl, ap, ◌∙◌}
use Rattle.std.specs.List.{AllByRecursion}
use Rattle.stacks.specs.Calls.{Ask, ask_read, ask_write}
use Rattle.sheets.specs.Records.{Said, setting, write, read}
use Rattle.sheet_turns.specs.declared.settings.Setting.{Setting}
use Rattle.sheet_turns.specs.declared.turns.Run.TheVariants.{Waiting, Running}
use Rattle.sheet_turns.specs.Settings.{admitted}
use Rattle.sheet_turns.specs.Table.{begun, after, calls, puts_of}
use Rattle.sheet_turns.specs.Since.{Idle, since, Begins, UnderSetting, StillWaiting}
use Rattle.sheet_turns.proofs.Following.{stays}

running_calls : (g : Setting) (rs : List Said) → calls (Running g) rs ≡ since g rs
running_calls g [] = refl
running_calls g (setting c h l n k ∷ rs) = running_calls g rs
running_calls g (write s a t ∷ rs) = ap (λ z. ask_write s t ∷ z) (running_calls g rs)
running_calls g (read s ∷ rs) = ap (λ z. ask_read s (replicate g.length 0) ∷ z) (running_calls g rs)

-- an idle record before
idle_first : (r : Said) (rs : List Said) (g : Setting) (qs : List Ask) → Idle r → Begins rs g qs → Begins (r ∷ rs) g qs
idle_first r rs g qs i b = record {
  earlier = r ∷ b.earlier;
  later = b.later;
  cipher = b.cipher;
  hash = b.hash;
  size = b.size;
  count = b.count;
  key = b.key;
  parts = ap (λ z. r ∷ z) b.parts;
  idle = (i, b.idle);
  admits = b.admits;
  put = b.put;
}

begin : (c h l n : ℕ) (k : List ℕ) (rs : List Said) (g : Setting) → (after Waiting rs ≡ Running g → Begins rs g (calls Waiting rs))
    → (o : Option Setting) → admitted c h l n k ≡ o → after (begun o).0 rs ≡ Running g → Begins (setting c h l n k ∷ rs) g (puts_of (begun o).1 ++ calls (begun o).0 rs)
begin c h l n k rs g rest None a e = idle_first (setting c h l n k) rs g (calls Waiting rs) a (rest e)
begin c h l n k rs g rest (Some f) a e =
    let still = stays f rs in
    let same : f ≡ g = cc in
    record {
      earlier = [];
      later = rs;
      cipher = c;
      hash = h;
      size = l;
      count = n;
      key = k;
      parts = refl;
      idle = tt;
      admits = a ∙ ap Some same;
      put = running_calls f rs ∙ ap (λ z. since z rs) same;
    }

pub under_setting : UnderSetting
under_setting [] g e = cc
under_setting (setting c h l n k ∷ rs) g e = begin c h l n k rs g (under_setting rs g) (admitted c h l n k) refl e
under_setting (write s a t ∷ rs) g e = idle_first (write s a t) rs g (calls Waiting rs) tt (under_setting rs g e)
under_setting (read s ∷ rs) g e = idle_first (read s) rs g (calls Waiting rs) tt (under_setting rs g e)

wait : (c h l n : ℕ) (k : List ℕ) (rs : List Said) → (after Waiting rs ≡ Waiting → AllByRecursion Idle rs × (calls Waiting rs ≡ []))
    → (o : Option Setting) → admitted c h l n k ≡ o → after (begun o).0 rs ≡ Waiting → AllByRecursion Idle (setting c h l n k ∷ rs) × (puts_of (begun o).1 ++ calls (begun o).0 rs ≡ [])
wait c h l n k rs rest None a e = let w = rest e in ((a, w.0), w.1)
wait c h l n k rs rest (Some f) a e = let still = stays f rs in cc

pub still_waiting : StillWaiting
still_waiting [] e = (tt, refl)
still_waiting (setting c h l n k ∷ rs) e = wait c h l n k rs (still_waiting rs) (admitted c h l n k) refl e
still_waiting (write s a t ∷ rs) e = let w = still_waiting rs e in ((tt, w.0), w.1)
still_waiting (read s ∷ rs) e = let w = still_waiting rs e in ((tt, w.0), w.1)
