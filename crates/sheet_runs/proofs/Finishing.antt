-- Each line is that of its record. Assumes nothing.
use Rattle.std.proofs.Common.{◌≡◌, ℕ, suc, ◌+◌, ◌<◌, Bool, true, false, List, [], ◌∷◌, ◌++◌, map, length, get_or, take, drop, replicate, Some, None, Err, Option, Result, sym, refl, ap, ◌∙◌, subst, add-zero, arith, take_at}
use lib.ListN.{length-map}
use Rattle.std.specs.List.{slice_get}
use Rattle.std.specs.Option.{option_map}
use Rattle.std.proofs.lemmas.Option.{slice_get-get_or, slice_get-map, slice_get_within}
use Rattle.std.proofs.lemmas.List.{take-map, length_push}
use Rattle.stacks.specs.declared.call.Entry.{Entry}
use Rattle.stacks.specs.Calls.{Ask, ask, asks, ask_read, ask_write}
use Rattle.stacks.specs.Law.{Right}
use Rattle.stacks.proofs.Nths.{nth_kept, nth_pushed}
use Rattle.std.specs.Result.{is_err}
use Rattle.sector.specs.declared.refusal.Refusal.{Refusal}
use Rattle.sector.specs.declared.refusal.Refusal.TheVariants.{SheetBroken}
use Rattle.lines.specs.declared.line.Line.{Line}
use Rattle.lines.specs.declared.line.LineKind.TheVariants.{Broken}
use Rattle.sheets.specs.Sheets.{end_of}
use Rattle.sheets.specs.Records.{Said, setting, write, read}
use Rattle.sheet_turns.specs.declared.settings.Setting.{Setting}
use Rattle.sheet_turns.specs.declared.turns.Run.{Run}
use Rattle.sheet_turns.specs.declared.turns.Run.TheVariants.{Waiting, Running}
use Rattle.sheet_plans.specs.declared.plans.Note.{Note}
use Rattle.sheet_turns.specs.Settings.{admitted}
use Rattle.sheet_turns.specs.Table.{puts, begun, table, after, calls, puts_of}
use Rattle.sheet_turns.proofs.Following.{after_append, calls_append, stays}
use Rattle.sheet_plans.specs.Plans.{call_at, note_of, note_after, Planned, answered_line, line_by, finished}
use Rattle.sheet_runs.specs.Lines.{fresh, setting_answer, Outcome, LineIs, broken_line, LinesAre}
use Rattle.sheet_runs.specs.Puts.{Sane, AnsweredBy, PutBy}
use Rattle.sheet_runs.proofs.Places.{split_nth, nth_mid, nth_mapped}
use Rattle.sheet_runs.proofs.Sanity.{sane_after}
use Rattle.sheet_runs.proofs.Storing.{write_outcome, read_outcome}

module _ (rs : List Said) (u : Run) (notes : List Note) (es es' : List Entry) (p : Planned rs u notes es) (put : PutBy u es es') (i : ℕ) (r : Said) (e : slice_get rs i ≡ Some r) where
  -- a record under a setting: the run ends under it
  under : (g : Setting) → after Waiting (take i rs) ≡ Running g → u ≡ Running g
  under g a =
      p.state ∙ ap (after Waiting) (split_nth rs i r e) ∙ after_append Waiting (take i rs) (r ∷ drop (suc i) rs)
      ∙ ap (λ v. after v (r ∷ drop (suc i) rs)) a ∙ stays g (r ∷ drop (suc i) rs)

  all_calls : (v : Run) (q : Ask) → after Waiting (take i rs) ≡ v → puts_of (table v r).1 ≡ q ∷ []
      → asks es ≡ calls Waiting (take i rs) ++ q ∷ calls (table v r).0 (drop (suc i) rs)
  all_calls v q a d =
      p.asked ∙ ap (calls Waiting) (split_nth rs i r e) ∙ calls_append Waiting (take i rs) (r ∷ drop (suc i) rs)
      ∙ ap (λ w. calls Waiting (take i rs) ++ calls w (r ∷ drop (suc i) rs)) a
      ∙ ap (λ w. calls Waiting (take i rs) ++ (w ++ calls (table v r).0 (drop (suc i) rs))) d

  -- the answer to the call that the record puts
  answer_at : (g : Setting) (q : Ask) → after Waiting (take i rs) ≡ Running g → puts_of (table (Running g) r).1 ≡ q ∷ []
      → (x : Entry) × (slice_get es' (length (calls Waiting (take i rs))) ≡ Some x) × Right (fresh g) (calls Waiting (take i rs)) q (ask x.call) x.answer
  answer_at g q a d =
      let qs = calls Waiting (take i rs) in
      let rest = calls (table (Running g) r).0 (drop (suc i) rs) in
      let k = length qs in
      let c : asks es ≡ qs ++ q ∷ rest = all_calls (Running g) q a d in
      let by : AnsweredBy (fresh g) es es' = subst (λ (v : Run). PutBy v es es') (under g a) put in
      let m = nth_mapped (λ (x : Entry). ask x.call) es k q (ap (λ z. slice_get z k) c ∙ nth_mid qs rest q) in
      let l : k < length es' = omega (arith, slice_get_within es k m.0 m.1, by.as_many) in
      let x = get_or es' k m.0 in
      let t : asks (take k es) ≡ qs = sym (take-map (λ (z : Entry). ask z.call) k es) ∙ ap (take k) c ∙ take_at qs (q ∷ rest) k refl in (
        x,
        slice_get-get_or es' k m.0 l,
        subst (λ (b : List Ask). Right (fresh g) b q (ask x.call) x.answer) t
            (subst (λ (z : Ask). Right (fresh g) (asks (take k es)) z (ask x.call) x.answer) m.2 (by.right k m.0 x m.1 (slice_get-get_or es' k m.0 l))),
      )

-- what a setting comes to while the run waits
begins : (o : Option Setting) (i k : ℕ) (r : Said) (es : List Entry)
    → let line = finished (note_of i r (begun o).1 (call_at (puts_of (begun o).1) k)) es in (line.answer ≡ setting_answer o) × (line.first ≡ None)
begins None i k r es = (refl, refl)
begins (Some g) i k r es = (refl, refl)

module _ (rs : List Said) (u : Run) (notes : List Note) (es es' : List Entry) (p : Planned rs u notes es) (put : PutBy u es es') (i : ℕ) where
  tells : (v : Run) (r : Said) → slice_get rs i ≡ Some r → after Waiting (take i rs) ≡ v → Sane v
      → let line = finished (note_of i r (table v r).1 (call_at (puts_of (table v r).1) (length (calls Waiting (take i rs))))) es' in
      Outcome v (calls Waiting (take i rs)) r line.answer line.first
  tells Waiting (setting c h l n k) e a s = begins (admitted c h l n k) i (length (calls Waiting (take i rs))) (setting c h l n k) es'
  tells Waiting (write n at t) e a s = (refl, refl)
  tells Waiting (read n) e a s = (refl, refl)
  tells (Running g) (setting c h l n k) e a s = (refl, refl)
  tells (Running g) (write n at t) e a s =
      let qs = calls Waiting (take i rs) in
      let line = (note_of i (write n at t) (puts (ask_write n t)) (Some (length qs))).line in
      let x = answer_at rs u notes es es' p put i (write n at t) e g (ask_write n t) a refl in
      subst (λ (o : Option Entry). Outcome (Running g) qs (write n at t) (answered_line line o).answer (answered_line line o).first) (sym x.1)
      (write_outcome g qs n t (ask x.0.call) x.0.answer x.2)
  tells (Running g) (read n) e a s =
      let qs = calls Waiting (take i rs) in
      let q = ask_read n (replicate g.length 0) in
      let line = (note_of i (read n) (puts q) (Some (length qs))).line in
      let x = answer_at rs u notes es es' p put i (read n) e g q a refl in
      subst (λ (o : Option Entry). Outcome (Running g) qs (read n) (answered_line line o).answer (answered_line line o).first) (sym x.1)
      (read_outcome g s qs n (ask x.0.call) x.0.answer x.2)

  kept_parts : (note : Note) → ((finished note es').index ≡ note.line.index) × ((finished note es').kind ≡ note.line.kind) × ((finished note es').sector ≡ note.line.sector)
  kept_parts note = by note.line note.call
    where
      of : (line : Line) (o : Option Entry) → ((answered_line line o).index ≡ line.index) × ((answered_line line o).kind ≡ line.kind) × ((answered_line line o).sector ≡ line.sector)
      of line None = (refl, refl, refl)
      of line (Some x) = (refl, refl, refl)

      by : (line : Line) (k : Option ℕ) → ((line_by line k es').index ≡ line.index) × ((line_by line k es').kind ≡ line.kind) × ((line_by line k es').sector ≡ line.sector)
      by line None = (refl, refl, refl)
      by line (Some k) = of line (slice_get es' k)

  line_is : (r : Said) → slice_get rs i ≡ Some r → LineIs i (take i rs) r (finished (note_after i (take i rs) r) es')
  line_is r e =
      let k = kept_parts (note_after i (take i rs) r) in
      record {
        index = k.0;
        kind = k.1;
        sector = k.2;
        outcome = tells (after Waiting (take i rs)) r e refl (sane_after Waiting (take i rs) tt);
      }

-- the lines of records
pub lines_are : (rs : List Said) (u : Run) (notes : List Note) (es es' : List Entry) (lines : List Line) → Planned rs u notes es → PutBy u es es'
    → lines ≡ map (λ (n : Note). finished n es') notes → LinesAre rs false lines
lines_are rs u notes es es' lines p put e = record {
  as_many = ap length e ∙ length-map notes (λ (n : Note). finished n es') ∙ p.as_many ∙ sym (add-zero (length rs));
  each = λ i r h. (
    finished (note_after i (take i rs) r) es',
    ap (λ z. slice_get z i) e ∙ slice_get-map (λ (n : Note). finished n es') notes i ∙ ap (option_map (λ (n : Note). finished n es')) (p.noted i r h),
    line_is rs u notes es es' p put i r h,
  );
  last = λ b. cc;
}

-- and of a sheet that ends so
pub end_tells : (b : Bool) → is_err (end_of b) ≡ b
end_tells true = refl
end_tells false = refl

pub lines_broken : (rs : List Said) (lines lines' : List Line) (end : Result (Unit {0}) Refusal) → LinesAre rs false lines → end ≡ Err SheetBroken
    → lines' ≡ lines ++ record { index = length lines; kind = Broken; sector = None; answer = end; first = None } ∷ [] → LinesAre rs true lines'
lines_broken rs lines lines' end h s l =
    let m : length lines ≡ length rs = h.as_many ∙ add-zero (length rs) in
    let e : lines' ≡ lines ++ broken_line (length lines) ∷ [] = l ∙ ap (λ z. lines ++ record { index = length lines; kind = Broken; sector = None; answer = z; first = None } ∷ []) s in
    record {
      as_many = ap length e ∙ length_push lines _ ∙ ap (λ z. z + 1) m;
      each = λ i r x. let y = h.each i r x in (y.0, ap (λ z. slice_get z i) e ∙ nth_kept lines _ i y.0 y.1, y.2);
      last = λ b. ap (λ z. slice_get z (length rs)) e ∙ ap (slice_get (lines ++ broken_line (length lines) ∷ [])) (sym m) ∙ nth_pushed lines (broken_line (length lines)) ∙ ap (λ z. Some (broken_line z)) m;
    }
