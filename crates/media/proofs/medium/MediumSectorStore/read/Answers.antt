use Rattle.std.proofs.Common.{length, sym, ap, ◌∙◌}
use Rattle.stores.specs.Stores.{outcome, failure, filled}
use Rattle.stores.proofs.Answered.{turned_away, admitted, refusal_in, read_refused, handed_on}
use Rattle.media.specs.Media.{place}
use Rattle.media.specs.Spared.{laid_out, lost}
use Rattle.media.proofs.Placing.{found, fails, room_for}
use Rattle.media.proofs.medium.MediumSectorStore.read.Goals as goal

pub returns-in_err-admit : goal.returns-in_err-admit
returns-in_err-admit g c =
    let s = c.args.self.now in
    let n = c.args.n in
    let xs = c.args.buffer.now in
    let m = laid_out (g.L.Layout.sectors s.layout) s.length (g.L.Layout.bytes s.layout s.bytes.now s.length) (g.L.Layout.lies s.layout) in
    let e = turned_away m n (length xs) _ c.dimensions.ensures _ c.in_err-admit.ensures in
    record { answer = handed_on _ _ _ e c.from_residual.ensures.1; filled = read_refused m n xs _ _ e }

pub returns-in_err-place : goal.returns-in_err-place
returns-in_err-place g c =
    let s = c.args.self.now in
    let n = c.args.n in
    let xs = c.args.buffer.now in
    let m = laid_out (g.L.Layout.sectors s.layout) s.length (g.L.Layout.bytes s.layout s.bytes.now s.length) (g.L.Layout.lies s.layout) in
    let fit = admitted m n (length xs) _ c.dimensions.ensures _ c.in_ok-admit.ensures in
    let e = refusal_in m n (length xs) fit.0 fit.1 ∙ fails n (g.L.Layout.lies s.layout n) _ c.in_err-place.ensures in
    record { answer = handed_on _ _ _ e c.from_residual-in_err-place.ensures.1; filled = read_refused m n xs _ _ e }

pub get_place-requires : goal.get_place-requires
get_place-requires g c =
    let s = c.args.self.now in
    let n = c.args.n in
    let xs = c.args.buffer.now in
    let m = laid_out (g.L.Layout.sectors s.layout) s.length (g.L.Layout.bytes s.layout s.bytes.now s.length) (g.L.Layout.lies s.layout) in
    let fit = admitted m n (length xs) _ c.dimensions.ensures _ c.in_ok-admit.ensures in
    let there = found n (g.L.Layout.lies s.layout n) _ c.in_ok-place.ensures in
    room_for s.bytes.now _ (g.L.Layout.places s.layout) s.length (g.met.L.Layout.within s.layout n _ fit.1 there) s.room (length xs) fit.0

pub returns : goal.returns
returns g c =
    let s = c.args.self.now in
    let n = c.args.n in
    let xs = c.args.buffer.now in
    let all = s.bytes.now in
    let bytes = g.L.Layout.bytes s.layout all s.length in
    let m = laid_out (g.L.Layout.sectors s.layout) s.length bytes (g.L.Layout.lies s.layout) in
    let fit = admitted m n (length xs) _ c.dimensions.ensures _ c.in_ok-admit.ensures in
    let there = found n (g.L.Layout.lies s.layout n) _ c.in_ok-place.ensures in
    let e = refusal_in m n (length xs) fit.0 fit.1 ∙ ap (λ o. failure (lost n o)) there in
    record {
      answer = ap outcome (sym e);
      filled = c.get_place.ensures ∙ ap (λ z. place all z c.in_ok-place.place) fit.0 ∙ sym (g.met.L.Layout.read s.layout all s.length n _ fit.1 there) ∙ ap (λ v. filled v xs (bytes n)) (sym e);
    }
