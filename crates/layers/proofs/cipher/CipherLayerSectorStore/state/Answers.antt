use Rattle.std.proofs.Common.{sym, ◌∙◌}
use Rattle.layers.proofs.Enciphered.{cipher_state}
use Rattle.layers.proofs.cipher.CipherLayerSectorStore.state.Goals as goal

pub returns : goal.returns
returns g c =
    let w = c.args.self.now in
    c.state.ensures ∙ sym (cipher_state (g.S.SectorStore.view w.below) (g.F.BlockFunction.function w.cipher.function) (g.H.BlockHash.hash w.cipher.hash) c.args.n)
