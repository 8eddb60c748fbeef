use Rattle.std.proofs.Common.{◌++◌, length, drop, refl, ap, ◌∙◌, arith, leb, ◌&&◌}
use Rattle.std.proofs.lemmas.Bool.{and_parts}
use Rattle.media.specs.Spared.{listed}
use Rattle.media.proofs.Failing.{failures_are}
use Rattle.media.proofs.spared.Medium+Spares.failures.Goals as goal

pub returns-then-buffer-failed : goal.returns-then-buffer-failed
returns-then-buffer-failed c =
    let s = c.args.self.now in
    let l = s.layout in
    let single = and_parts (leb l.spares 16) (listed l.count l.bad.now) (and_parts (leb l.count 65536) (leb l.spares 16 && listed l.count l.bad.now) s.kept).1 in
    (drop l.spares l.bad.now, failures_are s.bytes.now l.count s.length l.spares l.bad.now single.1, (refl, omega (arith, ap length c.failed-failed.ensures), refl))

pub returns : goal.returns
returns c =
    let s = c.args.self.now in
    let l = s.layout in
    let single = and_parts (leb l.spares 16) (listed l.count l.bad.now) (and_parts (leb l.count 65536) (leb l.spares 16 && listed l.count l.bad.now) s.kept).1 in
    let copied = ap (λ z. z ++ drop (length c.failed-failed.result.now) c.args.buffer.now) c.copy_from_slice.ensures.after in
    (drop l.spares l.bad.now, failures_are s.bytes.now l.count s.length l.spares l.bad.now single.1, (ap length c.failed-failed.ensures, copied ∙ ap (λ z. z ++ drop (length z) c.args.buffer.now) c.failed-failed.ensures))
