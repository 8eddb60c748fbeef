use Rattle.std.proofs.Common.{◌≤◌, length, sym, ap, ◌∙◌, arith}
use Rattle.std.proofs.lemmas.List.{length-take-le}
use Rattle.stores.specs.Stores.{outcome, refusal}
use Rattle.stores.specs.Layers.{store, over, enciphering, after_write}
use Rattle.stores.proofs.Answered.{turned_away, admitted, write_refused, handed_on}
use Rattle.layers.proofs.Enciphered.{cipher_refusal, cipher_after}
use Rattle.layers.proofs.cipher.CipherLayerSectorStore.write.Goals as goal

pub returns-in_err-admit : goal.returns-in_err-admit
returns-in_err-admit g c =
    let w = c.args.self.now in
    let F = g.F.BlockFunction.function w.cipher.function in
    let h = g.H.BlockHash.hash w.cipher.hash in
    let q = g.S.SectorStore.view w.below in
    let p = over (enciphering F h) q in
    let n = c.args.n in
    let xs = c.args.buffer.now in
    let e = turned_away (store p) n (length xs) _ c.dimensions.ensures _ c.in_err-admit.ensures in
    record { answer = handed_on _ _ _ e c.from_residual.ensures.1; after = write_refused p n xs _ _ e }

pub returns : goal.returns
returns g c =
    let w = c.args.self.now in
    let F = g.F.BlockFunction.function w.cipher.function in
    let h = g.H.BlockHash.hash w.cipher.hash in
    let q = g.S.SectorStore.view w.below in
    let p = over (enciphering F h) q in
    let n = c.args.n in
    let xs = c.args.buffer.now in
    let fit = admitted (store p) n (length xs) _ c.dimensions.ensures _ c.in_ok-admit.ensures in
    let out = c.transform.new.output in
    let short : length xs ≤ 4096 = omega (arith, fit.0, (g.S.SectorStore.sound w.below).short) in
    let e = cipher_refusal q F h n (length xs) (length out) fit.0 fit.1 (c.transform.auto.output ∙ length-take-le (length xs) _ short) in
    let v = refusal (store q) n (length out) in
    record {
      answer = c.write.ensures.answer ∙ ap outcome (sym e);
      after =
          ap (over (enciphering F h)) (c.write.ensures.after ∙ ap (after_write v q n) c.transform.ensures)
          ∙ cipher_after q F h n v xs
          ∙ ap (λ v. after_write v p n xs) (sym e);
    }
