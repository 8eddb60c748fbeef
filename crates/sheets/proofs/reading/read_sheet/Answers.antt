use Rattle.std.proofs.Common.{List, [], ◌∷◌, ◌++◌, map, Some, Ok, vec_items, sym, ap, ◌∙◌, subst, arith, rules}
use Rattle.std.proofs.lemmas.List.{map_push}
use Rattle.sheets.specs.Reading.{NextIs}
use Rattle.sheets.specs.Records.{Said, said}
use Rattle.sheets.specs.Sheets.{Lie}
use Rattle.sheets.proofs.Standing.{ends_within}
use Rattle.sheets.proofs.Readings.{lie_push}
use Rattle.sheets.proofs.reading.read_sheet.Goals as goal

pub loop-next-preserved : goal.loop-next-preserved
loop-next-preserved c =
    let s = c.args.sheet.now in
    let v = vec_items c.loop-next.records in
    let f = c.in-Ok-Some.found in
    let x = f.«record» in
    let (at, lie, within, is) = c.loop-next.invariant in
    let h : NextIs s at (Ok (Some f)) = search rules in
    let l : Lie s 1 (map said v ++ said x ∷ []) f.next = subst (Lie s 1 (map said v ++ said x ∷ [])) (sym h.1.1) (lie_push s 1 (map said v) at (said x) lie h.1.0) in (
      f.next,
      subst (λ (rs : List Said). Lie s 1 rs f.next) (sym (ap (map said) c.in_ok-push.ensures.items ∙ map_push said v x)) l,
      omega (arith, h.1.1, (ends_within s at (said x) h.1.0).1),
      c.next_record-next-in-Ok-Some.ensures,
    )
