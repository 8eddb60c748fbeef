use Rattle.std.proofs.Common.{◌≡◌, Bool, true, false, Result, List, map, vec_items, sym, ap, ◌∙◌, subst, rules}
use Rattle.std.specs.Result.{is_err}
use Rattle.sector.specs.declared.refusal.Refusal.{Refusal}
use Rattle.lines.specs.declared.line.Line.{Line}
use Rattle.sheets.specs.declared.records.Record.{Record}
use Rattle.sheets.specs.Records.{said}
use Rattle.sheets.specs.Sheets.{end_of}
use Rattle.sheet_runs.specs.Lines.{LinesAre}
use Rattle.sheet_runs.proofs.Finishing.{end_tells, lines_broken}
use Rattle.sheet_runs.proofs.runs.run_sheet.Goals as goal
use Rattle.sheet_runs.proofs.runs.run_sheet.Goals.{then-is_err+in_ok-push, else-is_err}

pub returns : goal.returns
returns c =
    let rs = map said (vec_items c.in_ok-read.read.records) in
    let (b, are_read, ends) = c.in_ok-read.ensures in
    let lines : List Line = vec_items c.in_ok-lines.lines in
    let told : c.is_err.result ≡ b = c.is_err.ensures.value ∙ ap (λ (z : Result (Unit {0}) Refusal). is_err z) ends ∙ end_tells b in
    let run : LinesAre rs false lines = subst (λ (xs : List Record). LinesAre (map said xs) false lines) c.deref.ensures.value c.in_ok-lines.ensures in
    record {
      records = rs;
      broken = b;
      are_read = are_read;
      are_run = elim c.if-is_err.branch [
        | then-is_err+in_ok-push w ↦
            let t : b ≡ true = sym told ∙ w.if-is_err.true in
            subst (λ (z : Bool). LinesAre rs z (vec_items c.if-is_err.lines)) (sym t)
            (lines_broken rs lines (vec_items c.if-is_err.lines) c.in_ok-read.read.end run (ends ∙ ap end_of t) (search rules))
        | else-is_err w ↦
            let f : b ≡ false = sym told ∙ w.if-is_err.false in
            subst (λ (z : Bool). LinesAre rs z (vec_items c.if-is_err.lines)) (sym f) (rw w.lines-is run)
      ];
    }
