use Rattle.std.proofs.Common.{◌≡◌, ◌+◌, ◌-◌, ◌*◌, ◌/◌, ◌++◌, length, take, drop}
use Rattle.polynomials.specs.Blocks.{blocks, blocks_of}
use Rattle.sector.specs.Transform.{counter_mode}
use Rattle.sector.specs.Texts.{joined}
use Rattle.sector.proofs.counter.count.Given as goal

abbrev pub invariant-loop-k : goal.invariant-loop-k
invariant-loop-k g l =
    take (16 * l.k) l.output ++ joined (counter_mode (g.F.BlockFunction.function l.f) l.z (l.k + 1) (blocks (length l.text / 16 - l.k) (drop (16 * l.k) l.text)))
    ≡ joined (counter_mode (g.F.BlockFunction.function l.f) l.z 1 (blocks_of l.text))
