use Rattle.std.proofs.Common.{◌≡◌, ◌≤◌, length, sym, ap, ◌∙◌, arith}
use Rattle.std.proofs.lemmas.List.{length-take-le}
use Rattle.sector.specs.Texts.{deciphered_bytes}
use Rattle.sector.specs.Transform.{tweak}
use Rattle.stores.specs.Stores.{outcome, filled, refusal}
use Rattle.stores.specs.Layers.{store, over, enciphering}
use Rattle.stores.proofs.Answered.{turned_away, admitted, read_refused, was_filled, handed_on}
use Rattle.stores.proofs.Options.{was_refused, was_accepted}
use Rattle.layers.proofs.Enciphered.{cipher_refusal}
use Rattle.layers.proofs.cipher.CipherLayerSectorStore.read.Goals as goal

pub returns-in_err-admit : goal.returns-in_err-admit
returns-in_err-admit g c =
    let w = c.args.self.now in
    let F = g.F.BlockFunction.function w.cipher.function in
    let h = g.H.BlockHash.hash w.cipher.hash in
    let q = g.S.SectorStore.view w.below in
    let p = over (enciphering F h) q in
    let n = c.args.n in
    let xs = c.args.buffer.now in
    let e = turned_away (store p) n (length xs) _ c.dimensions.ensures _ c.in_err-admit.ensures in
    record { answer = handed_on _ _ _ e c.from_residual.ensures.1; filled = read_refused (store p) n xs _ _ e }

pub returns-in-Err : goal.returns-in-Err
returns-in-Err g c =
    let w = c.args.self.now in
    let F = g.F.BlockFunction.function w.cipher.function in
    let h = g.H.BlockHash.hash w.cipher.hash in
    let q = g.S.SectorStore.view w.below in
    let p = over (enciphering F h) q in
    let n = c.args.n in
    let xs = c.args.buffer.now in
    let fit = admitted (store p) n (length xs) _ c.dimensions.ensures _ c.in_ok-admit.ensures in
    let short : length xs ≤ 4096 = omega (arith, fit.0, (g.S.SectorStore.sound w.below).short) in
    let a = sym c.in-Err.is ∙ c.read.ensures.answer in
    let e = cipher_refusal q F h n (length xs) _ fit.0 fit.1 (length-take-le (length xs) _ short) ∙ was_refused _ (refusal (store q) n _) a in
    record { answer = ap outcome (sym e); filled = read_refused (store p) n xs _ _ e }

pub returns-in-Ok : goal.returns-in-Ok
returns-in-Ok g c =
    let w = c.args.self.now in
    let F = g.F.BlockFunction.function w.cipher.function in
    let h = g.H.BlockHash.hash w.cipher.hash in
    let q = g.S.SectorStore.view w.below in
    let p = over (enciphering F h) q in
    let n = c.args.n in
    let xs = c.args.buffer.now in
    let fit = admitted (store p) n (length xs) _ c.dimensions.ensures _ c.in_ok-admit.ensures in
    let short : length xs ≤ 4096 = omega (arith, fit.0, (g.S.SectorStore.sound w.below).short) in
    let none = was_accepted _ (refusal (store q) n _) c.in-Ok.ensures.answer in
    let e = cipher_refusal q F h n (length xs) _ fit.0 fit.1 (length-take-le (length xs) _ short) ∙ none in
    let bytes = (store q).bytes n in
    let shown : c.read.new.buffer ≡ bytes = c.read.ensures.filled ∙ was_filled _ bytes _ none in
    record {
      answer = ap outcome (sym e);
      filled = c.transform.ensures ∙ ap (deciphered_bytes F h (tweak n)) shown ∙ ap (λ v. filled v xs ((store p).bytes n)) (sym e);
    }
