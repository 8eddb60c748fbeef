use Rattle.std.proofs.Common.{◌≡◌, ◌-◌, ◌≤◌, get_or, Some, sym, ap, ◌∙◌, rules, arith}
use Rattle.elements.specs.Values.{byte}
use Rattle.aes_rules.proofs.Rules.{raised, constant_some}
use Rattle.aes_rules.proofs.tables.raise.Goals as goal

pub returns : goal.returns
returns c =
    let j = c.args.j in
    let from : 1 ≤ j = search rules in
    let to : j ≤ 10 = search rules in
    let entry : c.in_ok-entry.entry.now ≡ get_or c.args.table.now (j - 1) 0 = search rules in
    ap Some (raised c.args.table.now j c.new.result (c.new.ensures ∙ ap byte entry) (omega arith) c.requires from to)
    ∙ sym (constant_some j from to)
