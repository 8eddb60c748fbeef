use Rattle.std.proofs.Common.{◌≡◌, ℕ, List, ◌++◌, length, take, drop, vec_items, sym, refl, ap, ◌∙◌, subst}
use Rattle.std.specs.Int.Digits.{AllBelowBase}
use Rattle.std.proofs.lemmas.List.{take_at}
use Rattle.stacks.specs.declared.call.Call.{Call}
use Rattle.stacks.specs.declared.call.Answer.TheVariants.{Transfer}
use Rattle.stacks.specs.Calls.{ask, ask_read, ask_write}
use Rattle.stacks.specs.Steps.{Step, Octets}
use Rattle.stacks.proofs.run.put.Goals as goal

pub returns-in-Read : goal.returns-in-Read
returns-in-Read g c =
    let p = g.P.SectorStore.view c.args.stack.now in
    let n = c.in-Read.n in
    let b = c.in-Read.buffer in
    let ys = c.read.new.buffer in
    let after = take b.len (ys ++ drop (length ys) b.items) in
    let full : after ≡ ys = take_at ys (drop (length ys) b.items) b.len (c.read.auto.buffer ∙ c.as_mut_slice.ensures.len) in
    record {
      step = subst (λ (q : Call). Step p p (ask q) (ask_read n after) c.told.result) (sym c.in-Read.is)
          (subst (λ (xs : List ℕ). Step p p (ask_read n xs) (ask_read n after) c.told.result) c.as_mut_slice.ensures.value
          (c.told.ensures ∙ ap Transfer c.read.ensures.answer, ap (ask_read n) (full ∙ c.read.ensures.filled), refl));
      octets = subst (λ (q : Call). Octets (ask q)) (sym c.in-Read.is) tt;
    }

pub returns-in-Write : goal.returns-in-Write
returns-in-Write g c =
    let n = c.in-Write.n in
    let v = c.in-Write.buffer in
    let p = g.P.SectorStore.view c.args.stack.now in
    let p' = g.P.SectorStore.view c.put_write.new.stack in
    record {
      step = subst (λ (q : Call). Step p p' (ask q) (ask_write n (vec_items v)) c.put_write.result) (sym c.in-Write.is)
          (subst (λ (xs : List ℕ). Step p p' (ask_write n xs) (ask_write n xs) c.put_write.result) c.as_slice.ensures.value c.put_write.ensures.step);
      octets = subst (λ (q : Call). Octets (ask q)) (sym c.in-Write.is) (subst (AllBelowBase 256) c.as_slice.ensures.value c.put_write.ensures.octets);
    }
