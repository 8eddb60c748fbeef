use Rattle.std.proofs.Common.{◌≡◌, ℕ, ◌+◌, ◌-◌, ◌%◌, ◌<◌, sym, ap, ◌∙◌, ap₂, arith}
use lib.Bits.{bit_xor}
use Rattle.elements.specs.Field.{pick, double, times}
use Rattle.elements.specs.Powers.{times_next, times_none}
use Rattle.elements.proofs.bits.times.Goals as goal

pub loop-preserved : goal.loop-preserved
loop-preserved g c =
    let m = g.F.BinaryField in
    let l = c.loop in
    let w : ℕ = m.width in
    let within : l.counter < w = omega (arith, c.width-end.ensures) in
    ap₂ (λ (s p : ℕ). bit_xor s (times w m.feedback (w - (l.counter + 1)) (m.bits c.half-rest.result) p))
    (c.xor-sum.ensures ∙ ap (bit_xor (m.bits l.sum)) c.last_picks.ensures) c.double-power.ensures
    ∙ ap (λ (a : ℕ). bit_xor (bit_xor (m.bits l.sum) (pick (m.bits l.rest % 2) (m.bits l.power))) (times w m.feedback (w - (l.counter + 1)) a (double w m.feedback (m.bits l.power)))) c.half-rest.ensures
    ∙ times_next w m.feedback w l.counter (m.bits l.sum) (m.bits l.rest) (m.bits l.power) within ∙ l.invariant

pub returns : goal.returns
returns g c =
    let m = g.F.BinaryField in
    let l = c.loop in
    let end : m.width ≡ l.counter = omega (arith, c.width-end.ensures) in
    sym (times_none m.width m.feedback m.width (m.bits l.sum) (m.bits l.rest) (m.bits l.power))
    ∙ ap (λ (k : ℕ). bit_xor (m.bits l.sum) (times m.width m.feedback (m.width - k) (m.bits l.rest) (m.bits l.power))) end ∙ l.invariant
