use Rattle.std.proofs.Common.{◌≡◌, false, List, map, length, drop, vec_items, sym, ap, ◌∙◌, subst}
use Rattle.std.proofs.lemmas.List.{take_at}
use Rattle.std.proofs.lemmas.Result.{IfOk-weaker}
use Rattle.stacks.specs.declared.call.Entry.{Entry}
use Rattle.sheets.specs.Records.{said}
use Rattle.sheet_turns.specs.declared.turns.Run.TheVariants.{Waiting}
use Rattle.sheet_plans.specs.declared.plans.Note.{Note}
use Rattle.sheet_plans.specs.Plans.{finished}
use Rattle.sheet_runs.specs.Lines.{LinesAre}
use Rattle.sheet_runs.specs.Puts.{Sane, PutBy}
use Rattle.sheet_runs.proofs.Sanity.{sane_after}
use Rattle.sheet_runs.proofs.Finishing.{lines_are}
use Rattle.sheet_runs.proofs.runs.run_records.Goals as goal

pub put_calls-requires : goal.put_calls-requires
put_calls-requires c = subst Sane (sym c.in_ok-plan.ensures.state) (sane_after Waiting (map said c.args.records.now) tt)

pub returns : goal.returns
returns c =
    let rs = map said c.args.records.now in
    let plan = c.in_ok-plan.plan in
    let es : List Entry = vec_items plan.calls in
    let es' : List Entry = c.put_calls.new.calls in
    let put : PutBy plan.run es es' = subst (λ (xs : List Entry). PutBy plan.run xs es') c.deref_mut.ensures.value c.in_ok-put_calls.ensures in
    let all : c.deref-2.result.now ≡ es' = c.deref-2.ensures.value ∙ take_at es' (drop (length es') plan.calls.items) plan.calls.len (c.put_calls.auto.calls ∙ c.deref_mut.ensures.len) in
    IfOk-weaker c.lines_of.result (λ v. vec_items v ≡ map (λ (n : Note). finished n c.deref-2.result.now) c.deref.result.now) (λ v. LinesAre rs false (vec_items v))
    (λ v e. lines_are rs plan.run (vec_items plan.notes) es es' (vec_items v) c.in_ok-plan.ensures put
    (e ∙ ap (map (λ (n : Note). finished n c.deref-2.result.now)) c.deref.ensures.value ∙ ap (λ (xs : List Entry). map (λ (n : Note). finished n xs) (vec_items plan.notes)) all))
    c.lines_of.ensures
