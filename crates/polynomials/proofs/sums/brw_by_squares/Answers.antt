use Rattle.std.proofs.Common.{◌≡◌, ℕ, ◌-◌, ◌^◌, ◌<◌, true, cond, ◌++◌, length, drop, sym, ap, ◌∙◌, subst, ap₂, arith, length-take}
use Rattle.std.proofs.lemmas.List.{take_at}
use Rattle.std.proofs.lemmas.Bool.{le-leb}
use Rattle.polynomials.specs.Sums.{levels, room, filled, squared}
use Rattle.polynomials.proofs.Brw.{squares_are}
use Rattle.polynomials.proofs.Logs.{levels_enough, levels_le}
use Rattle.polynomials.proofs.sums.brw_by_squares.Goals as goal

pub returns-then-n-powers-clause-enough : goal.returns-then-n-powers-clause-enough
returns-then-n-powers-clause-enough g c =
    let xs = g.L.Elements.items c.args.xs.now in
    let small : length xs < 2 ^ 64 = omega (arith, c.len-m.ensures, c.len-m.type_inv) in
    λ h. absurd (omega (arith, levels_le (length xs) small, c.levels-n.ensures ∙ ap levels c.len-m.ensures))

pub brw_part-requires-clause-enough : goal.brw_part-requires-clause-enough
brw_part-requires-clause-enough g c =
    let m : ℕ = c.len-m.result in
    let n : ℕ = c.levels-n.result in
    let len : length c.fill_squares.new.table ≡ n = omega (arith, c.fill_squares.auto.table, length-take n c.args.powers.now) in
    let places = ap length (take_at c.fill_squares.new.table _ _ len) ∙ len in
    λ h. subst (λ (k : ℕ). m - 0 < 2 ^ k) (sym (places ∙ c.levels-n.ensures)) (omega (arith, levels_enough m (omega arith)))

pub returns-clause-powers : goal.returns-clause-powers
returns-clause-powers g c =
    let o = g.E.Arithmetic.operations in
    let xs = g.L.Elements.items c.args.xs.now in
    let ps = c.args.powers.now in
    let n : ℕ = c.levels-n.result in
    let is : n ≡ levels (length xs) = c.levels-n.ensures ∙ ap levels c.len-m.ensures in
    let enough : room (length ps) (length xs) ≡ true = le-leb (levels (length xs)) (length ps) (omega arith) in
    let len : length c.fill_squares.new.table ≡ n = omega (arith, c.fill_squares.auto.table, length-take n ps) in
    ap₂ ◌++◌ (squares_are o c.args.key c.fill_squares.new.table _ (len ∙ is) c.fill_squares.ensures) (ap (λ k. drop k ps) is)
    ∙ sym (ap (λ b. cond b (filled (squared o c.args.key) (levels (length xs)) ps) ps) enough)
