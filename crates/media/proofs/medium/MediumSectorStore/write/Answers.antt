use Rattle.std.proofs.Common.{◌≡◌, ℕ, ◌*◌, List, length, sym, refl, ap, ◌∙◌}
use borrow.Rule.Slice.PartMut.{put_mid}
use Rattle.stores.specs.Stores.{outcome, failure}
use Rattle.stores.specs.Layers.{alone, after_write}
use Rattle.stores.proofs.Answered.{turned_away, admitted, refusal_in, write_refused, handed_on}
use Rattle.media.specs.Media.{place}
use Rattle.media.specs.Spared.{laid_out, lost, own_or}
use Rattle.media.proofs.Placing.{found, fails, room_for, elsewhere, laid_put}
use Rattle.media.proofs.medium.MediumSectorStore.write.Goals as goal

pub returns-in_err-admit : goal.returns-in_err-admit
returns-in_err-admit g c =
    let s = c.args.self.now in
    let n = c.args.n in
    let xs = c.args.buffer.now in
    let m = laid_out (g.L.Layout.sectors s.layout) s.length (g.L.Layout.bytes s.layout s.bytes.now s.length) (g.L.Layout.lies s.layout) in
    let e = turned_away m n (length xs) _ c.dimensions.ensures _ c.in_err-admit.ensures in
    record { answer = handed_on _ _ _ e c.from_residual.ensures.1; after = write_refused (alone m) n xs _ _ e; kept = λ h. refl; elsewhere = λ p ne. refl }

pub returns-in_err-place : goal.returns-in_err-place
returns-in_err-place g c =
    let s = c.args.self.now in
    let n = c.args.n in
    let xs = c.args.buffer.now in
    let m = laid_out (g.L.Layout.sectors s.layout) s.length (g.L.Layout.bytes s.layout s.bytes.now s.length) (g.L.Layout.lies s.layout) in
    let fit = admitted m n (length xs) _ c.dimensions.ensures _ c.in_ok-admit.ensures in
    let e = refusal_in m n (length xs) fit.0 fit.1 ∙ fails n (g.L.Layout.lies s.layout n) _ c.in_err-place.ensures in
    record { answer = handed_on _ _ _ e c.from_residual-in_err-place.ensures.1; after = write_refused (alone m) n xs _ _ e; kept = λ h. refl; elsewhere = λ p ne. refl }

pub put_place-requires : goal.put_place-requires
put_place-requires g c =
    let s = c.args.self.now in
    let n = c.args.n in
    let xs = c.args.buffer.now in
    let m = laid_out (g.L.Layout.sectors s.layout) s.length (g.L.Layout.bytes s.layout s.bytes.now s.length) (g.L.Layout.lies s.layout) in
    let fit = admitted m n (length xs) _ c.dimensions.ensures _ c.in_ok-admit.ensures in
    let there = found n (g.L.Layout.lies s.layout n) _ c.in_ok-place.ensures in
    room_for s.bytes.now _ (g.L.Layout.places s.layout) s.length (g.met.L.Layout.within s.layout n _ fit.1 there) s.room (length xs) fit.0

pub returns : goal.returns
returns g c =
    let s = c.args.self.now in
    let n = c.args.n in
    let xs = c.args.buffer.now in
    let all = s.bytes.now in
    let size = s.length in
    let bytes = λ (z : List ℕ). g.L.Layout.bytes s.layout z size in
    let lies = g.L.Layout.lies s.layout in
    let m = laid_out (g.L.Layout.sectors s.layout) size (bytes all) lies in
    let p = c.in_ok-place.place in
    let fit = admitted m n (length xs) _ c.dimensions.ensures _ c.in_ok-admit.ensures in
    let there = found n (lies n) p c.in_ok-place.ensures in
    let e = refusal_in m n (length xs) fit.0 fit.1 ∙ ap (λ o. failure (lost n o)) there in
    let after = put_mid (p * size) size all xs in
    let is : c.put_place.new.bytes ≡ after = c.put_place.ensures ∙ ap (λ z. put_mid (p * z) z all xs) fit.0 in
    record {
      answer = ap outcome (sym e);
      after =
          ap (λ z. alone (laid_out (g.L.Layout.sectors s.layout) size (bytes z) lies)) is
          ∙ ap alone (laid_put (g.L.Layout.sectors s.layout) size (bytes all) (bytes after) lies n xs (λ k. g.met.L.Layout.written s.layout all xs size n p k fit.1 there s.room fit.0))
          ∙ ap (λ v. after_write v (alone m) n xs) (sym e);
      kept = λ h. absurd (h e);
      elsewhere = λ q ne. ap (λ z. place z size q) is
          ∙ elsewhere all p (g.L.Layout.places s.layout) size (g.met.L.Layout.within s.layout n p fit.1 there) s.room xs q fit.0 (λ same. ne (same ∙ sym (ap (own_or n) there)));
    }
