use Rattle.std.proofs.Common.{◌+◌, ltb, sym, ap, ◌∙◌, arith}
use Rattle.std.proofs.lemmas.Bool.{cond-true, cond-false, lt-ltb, le-ltb}
use Rattle.media.specs.Spared.{lies, spare_place}
use Rattle.media.proofs.spared.SparesLayout.place.Goals as goal

pub returns-in-None : goal.returns-in-None
returns-in-None c = let s = c.args.self.now in ap (λ o. lies (s.count + s.spares) c.args.n (spare_place s.count o)) c.in-None.ensures

pub returns-in-Some : goal.returns-in-Some
returns-in-Some c =
    let s = c.args.self.now in
    let i = c.in-Some.i in
    sym (cond-true (ltb (s.count + i) (s.count + s.spares)) _ _ (lt-ltb (s.count + i) (s.count + s.spares) (omega arith))) ∙ ap (λ o. lies (s.count + s.spares) c.args.n (spare_place s.count o)) c.in-Some.ensures

pub returns-in-Some-2 : goal.returns-in-Some-2
returns-in-Some-2 c =
    let s = c.args.self.now in
    let i = c.in-Some.i in
    sym (cond-false (ltb (s.count + i) (s.count + s.spares)) _ _ (le-ltb (s.count + i) (s.count + s.spares) (omega arith))) ∙ ap (λ o. lies (s.count + s.spares) c.args.n (spare_place s.count o)) c.in-Some.ensures
