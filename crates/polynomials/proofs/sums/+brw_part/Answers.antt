use Rattle.std.proofs.Common.{◌≡◌, ℕ, ◌-◌, ◌*◌, ◌%◌, ◌^◌, length, take, drop, sym, ap, ◌∙◌, ap₂, arith}
use Rattle.std.proofs.lemmas.Nat.{one_shl}
use Rattle.polynomials.proofs.Brw.{none, part_one, part_two, part_three, part_more}
use Rattle.polynomials.proofs.Logs.{exponent_lt}
use Rattle.polynomials.proofs.Parts.{part_length}
use Rattle.polynomials.proofs.sums.+brw_part.Goals as goal

pub returns-in-0 : goal.returns-in-0
returns-in-0 g t c =
    let xs = g.L.Elements.items c.args.xs.now in
    c.zero.ensures
    ∙ sym (none g.E.Arithmetic.operations c.args.powers.now.key (take (c.args.to - c.args.from) (drop c.args.from xs)) (part_length xs c.args.from c.args.to (omega arith) (omega arith) ∙ c.in-0.is))

pub returns-in-1 : goal.returns-in-1
returns-in-1 g t c =
    part_one g.E.Arithmetic.operations c.args.powers.now.key (g.L.Elements.items c.args.xs.now) c.args.from c.args.to c.element.result c.in-1.is (omega arith) c.element.ensures

pub returns-in-2 : goal.returns-in-2
returns-in-2 g t c =
    let o = g.E.Arithmetic.operations in
    let x = c.element-in-2 in
    let y = c.element-in-2-2 in
    c.add.ensures ∙ ap (λ e. o.sum e y.result) c.mul.ensures
    ∙ part_two o c.args.powers.now.key (g.L.Elements.items c.args.xs.now) c.args.from c.args.to x.result y.result c.in-2.is (omega arith) x.ensures y.ensures

pub returns-in-3 : goal.returns-in-3
returns-in-3 g t c =
    let o = g.E.Arithmetic.operations in
    let x = c.element-in-3 in
    let y = c.element-in-3-2 in
    let z = c.element-in-3-3 in
    let low = c.add-low.ensures in
    let middle = c.add-middle.ensures ∙ ap (o.sum y.result) c.at.ensures in
    c.add-in-3.ensures ∙ ap (λ e. o.sum e z.result) (c.mul-in-3.ensures ∙ ap₂ o.product low middle)
    ∙ part_three o c.args.powers.now.key (g.L.Elements.items c.args.xs.now) c.args.from c.args.to x.result y.result z.result
    c.in-3.is (omega arith) x.ensures y.ensures z.ensures

pub at-requires-in_default : goal.at-requires-in_default
at-requires-in_default g t c =
    exponent_lt (c.args.to - c.args.from) c.ilog2-k.result (length c.args.powers.now.table.now) c.ilog2-k.ensures.power_le (c.requires.enough (omega arith))

pub returns-in_default : goal.returns-in_default
returns-in_default g t c =
    let o = g.E.Arithmetic.operations in
    let k = c.ilog2-k.result in
    let T : ℕ = (1 * 2 ^ k) % 2 ^ 64 in
    let is : T ≡ 2 ^ k = one_shl k 64 c.ilog2-k.ensures.bound in
    let low = c.brw_part-low in
    let high = c.brw_part-high in
    let x = c.element-in_default in
    let power = c.at-in_default in
    c.add-in_default.ensures ∙ ap (λ e. o.sum e high.result) (c.mul-in_default.ensures ∙ ap (o.product low.result) c.add-middle-in_default.ensures)
    ∙ part_more o c.args.powers.now.key (g.L.Elements.items c.args.xs.now) c.args.from c.args.to T k low.result x.result power.result high.result
    (omega arith) (omega arith) is c.ilog2-k.ensures.power_le c.ilog2-k.ensures.next_power_gt
    low.ensures x.ensures power.ensures high.ensures
