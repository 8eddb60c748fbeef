use Rattle.std.proofs.Common.{ap, ◌∙◌}
use Rattle.sector.specs.Texts.{front_of}
use Rattle.sector.proofs.Loops.{accepted_is}
use Rattle.sector.proofs.cipher.SectorCipher.accepted.Goals as goal

pub returns : goal.returns
returns g c =
    accepted_is c.args.direction (g.F.BlockFunction.function c.args.self.now.function) (g.H.BlockHash.hash c.args.self.now.hash) c.args.tweak c.args.text.now
    c.split_at.result.1.now c.count.new.output c.put_front.new.output
    c.hash_key-key.result c.tail_hash-h.result c.tail_hash-h-2.result c.add.result c.get_front.result c.to_middle-middle.result c.from_middle.result
    c.split_at.ensures.back c.hash_key-key.ensures c.tail_hash-h.ensures (c.get_front.ensures ∙ ap front_of c.split_at.ensures.front) c.to_middle-middle.ensures
    c.add.ensures c.count.ensures c.tail_hash-h-2.ensures c.from_middle.ensures c.put_front.ensures
