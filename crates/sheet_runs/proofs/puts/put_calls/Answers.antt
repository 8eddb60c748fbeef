use Rattle.std.proofs.Common.{◌≡◌, ℕ, ◌*◌, true, List, [], ◌∷◌, replicate, vec_items, sym, ap, ◌∙◌, subst, rules}
use Rattle.ciphers.specs.Choice.{keyed_of}
use Rattle.hashing.specs.Choice.{hash_of}
use Rattle.media.specs.Media.{flat_medium}
use Rattle.stores.specs.Stores.{Store}
use Rattle.stores.specs.Layers.{enciphering, stacked}
use Rattle.sheet_turns.specs.declared.turns.Run.{Run}
use Rattle.sheet_turns.specs.Settings.{figures}
use Rattle.sheet_runs.specs.Puts.{Sane, AnsweredBy, PutBy}
use Rattle.sheet_runs.proofs.Storing.{answered_fresh}
use Rattle.sheet_runs.proofs.puts.put_calls.Goals as goal

pub returns : goal.returns
returns c =
    let g = c.in-Running.setting in
    let es = c.args.calls.now in
    let es' = c.put_through.new.calls in
    let F = keyed_of c.keyed-function.result in
    let z : vec_items c.in_ok-bytes.bytes ≡ replicate (g.count * g.length) 0 = search rules in
    let sane : figures g.length g.count ≡ true = subst Sane c.in-Running.is c.requires in
    let m = c.new-medium.ensures.store
    ∙ ap (λ (all : List ℕ). flat_medium all c.from-2.result c.from-length.result) (c.as_mut_slice.ensures.value ∙ z)
    ∙ ap (λ (n : ℕ). flat_medium (replicate (g.count * g.length) 0) n c.from-length.result) c.from-2.ensures
    ∙ ap (flat_medium (replicate (g.count * g.length) 0) g.count) c.from-length.ensures in
    subst (λ (u : Run). PutBy u es es') (sym c.in-Running.is)
    (answered_fresh g F es es' c.keyed-function.ensures sane
    (subst (λ (s : Store). AnsweredBy (stacked (enciphering F (hash_of g.hash) ∷ []) s) es es') m c.put_through.ensures))
