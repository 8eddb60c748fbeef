use Rattle.std.proofs.Common.{◌≡◌, ◌<◌, List, [], ◌∷◌, ◌++◌, length, get_or, vec_items, sym, subst, arith, rules}
use Rattle.std.proofs.lemmas.List.{map_more}
use Rattle.sheets.specs.declared.records.Record.{Record}
use Rattle.sheets.specs.declared.records.Record.TheVariants.{Setting}
use Rattle.sheets.specs.Records.{Said, said}
use Rattle.sheet_plans.specs.declared.plans.Note.{Note}
use Rattle.sheet_turns.specs.Table.{Does, does, puts_of}
use Rattle.sheet_plans.specs.Plans.{Planned, note_of, call_at}
use Rattle.sheet_plans.proofs.Planning.{plan_more}
use Rattle.sheet_plans.proofs.plans.planned.Goals as goal

pub loop-record-preserved : goal.loop-record-preserved
loop-record-preserved c =
    let records = c.args.records.now in
    let i = c.loop-record.record-index in
    let none : Record = Setting (record { cipher = 0; hash = 0; length = 0; count = 0; key = [] }) in
    let r : Said = said (get_or records i none) in
    let d : Does = does c.turn-effect.result in
    let notes : List Note = vec_items c.loop-record.notes in
    let k = c.in_ok-call.ensures in
    let l : c.len.result ≡ length notes = search rules in
    let n : vec_items c.push.new.self ≡ notes ++ note_of (length notes) r d (call_at (puts_of d) (length (vec_items c.loop-record.calls))) ∷ [] =
    cc (c.in_ok-push.ensures.items, c.noted.ensures, k.1) in
    let h : i < length records = omega arith in
    subst (λ (rs : List Said). Planned rs c.turn-effect.new.self (vec_items c.push.new.self) (vec_items c.put.new.calls)) (sym (map_more said records i none h))
    (plan_more _ _ _ _ _ _ _ _ _ c.loop-record.invariant c.turn-effect.ensures k.0 n)
