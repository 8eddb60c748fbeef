-- The records of a run taken one after the other. Assumes nothing.
use Rattle.std.proofs.Common.{◌≡◌, ℕ, ◌<◌, List, [], ◌∷◌, ◌++◌, length, take, Some, sym, refl, ap, ◌∙◌, ⊎_elim, arith, take_at}
use lib.ListN.{length-map}
use lib.Seq.{take-append-le}
use Rattle.std.specs.List.{slice_get}
use Rattle.std.proofs.lemmas.List.{append-nil, length_push}
use Rattle.std.proofs.lemmas.Option.{slice_get_within}
use Rattle.stacks.specs.declared.call.Entry.{Entry}
use Rattle.stacks.specs.Calls.{ask, asks}
use Rattle.stacks.proofs.Nths.{nth_push, nth_kept, nth_pushed}
use Rattle.sheets.specs.Records.{Said}
use Rattle.sheet_turns.specs.declared.turns.Run.{Run}
use Rattle.sheet_turns.specs.declared.turns.Run.TheVariants.{Waiting}
use Rattle.sheet_plans.specs.declared.plans.Note.{Note}
use Rattle.sheet_turns.specs.Table.{Does, table, after, calls, puts_of}
use Rattle.sheet_plans.specs.Plans.{call_at, note_of, note_after, Planned}
use Rattle.sheet_turns.proofs.Following.{after_append, calls_append}

pub plan_none : Planned [] Waiting [] []
plan_none = record { state = refl; asked = refl; as_many = refl; noted = λ i r e. cc }

module _ (rs : List Said) (u u' : Run) (notes notes' : List Note) (es es' : List Entry) (r : Said) (d : Does)
    (p : Planned rs u notes es) (t : (u', d) ≡ table u r) (a : asks es' ≡ asks es ++ puts_of d)
    (n : notes' ≡ notes ++ note_of (length notes) r d (call_at (puts_of d) (length es)) ∷ []) where
  done : d ≡ (table (after Waiting rs) r).1
  done = ap (λ z. z.1) t ∙ ap (λ v. (table v r).1) p.state

  many : length es ≡ length (calls Waiting rs)
  many = sym (length-map es (λ e. ask e.call)) ∙ ap length p.asked

  the_note : note_of (length notes) r d (call_at (puts_of d) (length es)) ≡ note_after (length rs) rs r
  the_note = rw (p.as_many, many, done) refl

  old_note : (i : ℕ) (x : Said) → slice_get rs i ≡ Some x → slice_get notes' i ≡ Some (note_after i (take i (rs ++ r ∷ [])) x)
  old_note i x e =
      let l : i < length rs = slice_get_within rs i x e in
      rw (n, take-append-le i rs (r ∷ []) (omega arith)) (nth_kept notes _ i _ (p.noted i x e))

  new_note : slice_get notes' (length rs) ≡ Some (note_after (length rs) (take (length rs) (rs ++ r ∷ [])) r)
  new_note = rw (n, take_at rs (r ∷ []) (length rs) refl, ← the_note, ← p.as_many) (nth_pushed notes _)

  pub plan_more : Planned (rs ++ r ∷ []) u' notes' es'
  plan_more = record {
    state = ap (λ z. z.0) t ∙ ap (λ v. (table v r).0) p.state ∙ sym (after_append Waiting rs (r ∷ []));
    asked = rw (a, p.asked, done, calls_append Waiting rs (r ∷ []), append-nil (puts_of (table (after Waiting rs) r).1)) refl;
    as_many = rw n (omega (arith, length_push {X = Note}, length_push {X = Said}, p.as_many));
    noted = λ i x e. ⊎_elim (old_note i x) (λ h. rw (h.0, ← h.1) new_note) (nth_push rs r i x e);
  }
