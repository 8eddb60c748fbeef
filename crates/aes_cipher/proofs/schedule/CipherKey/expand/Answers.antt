use Rattle.std.proofs.Common.{◌≡◌, ◌*◌, ◌<◌, length, refl, rules, arith}
use Rattle.std.proofs.lemmas.List.{length-replicate}
use Rattle.aes_rules.specs.Aes.{key_expansion}
use Rattle.aes_cipher.specs.Views.{words_of}
use Rattle.aes_rules.proofs.Expansion.{expand_more, expand_all}
use Rattle.aes_cipher.proofs.Rows.{words_length}
use Rattle.aes_cipher.proofs.schedule.CipherKey.expand.Goals as goal

pub loop-i-init : goal.loop-i-init
unfolding key_expansion
loop-i-init g c = record { long = length-replicate g.row.N _; done = refl }

pub loop-i-preserved : goal.loop-i-preserved
loop-i-preserved g c =
    let key = c.args.self.now in
    let ws = words_of c.loop-i.rows in
    let h : c.loop-i.i < length ws = omega (arith, words_length c.loop-i.rows) in
    record {
      long = search rules;
      done =
          expand_more key.words key.bytes.now c.loop-i.i ws (words_of c.put.new.rows) c.next-column.result.bytes
          key.some h c.loop-i.invariant.done c.next-column.ensures c.put.ensures;
    }

pub returns : goal.returns
returns g c =
    let key = c.args.self.now in
    let n : length (words_of c.loop-i.rows) ≡ 4 * g.row.N = omega (arith, words_length c.loop-i.rows) in
    expand_all key.words key.bytes.now (4 * g.row.N) c.loop-i.i (words_of c.loop-i.rows) n (omega arith) c.loop-i.invariant.done
