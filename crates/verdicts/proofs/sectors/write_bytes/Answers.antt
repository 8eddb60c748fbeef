use Rattle.std.proofs.Common.{is_some, sym, ap, ◌∙◌, arith}
use Rattle.polynomials.proofs.Parts.{nth_within, nth_found}
use Rattle.sector.specs.Texts.{bytes}
use Rattle.verdicts.proofs.Bytes.{bytes_more, bytes_all}
use Rattle.verdicts.proofs.sectors.write_bytes.Goals as goal

pub unwrap-x-requires : goal.unwrap-x-requires
unwrap-x-requires g c = ap is_some c.get.ensures ∙ nth_within (g.L.Elements.items c.args.list.now) c.loop-i.i (omega arith)

pub loop-i-preserved : goal.loop-i-preserved
unfolding bytes
loop-i-preserved g c =
    let xs = g.L.Elements.items c.args.list.now in
    let i = c.loop-i.i in
    let b = c.unwrap-x.result in
    bytes_more xs i b c.loop-i.output c.copy_from_slice.new.self (omega arith) (omega arith) (nth_found xs i b (sym c.get.ensures ∙ c.unwrap-x.ensures))
    (c.copy_from_slice.ensures.after ∙ c.to_bytes.ensures.value)
    ∙ c.loop-i.invariant

pub returns : goal.returns
returns g c =
    bytes_all (g.L.Elements.items c.args.list.now) c.loop-i.i c.loop-i.output _ (omega arith) (omega arith) c.loop-i.invariant
