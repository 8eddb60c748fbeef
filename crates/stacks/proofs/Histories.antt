-- The writes accepted in a list of calls, and what the lowest store holds after them. Assumes nothing.
use Rattle.std.proofs.Common.{◌≡◌, ℕ, ◌%◌, ◌≤◌, cond, eqb, ◌⊎◌, List, [], ◌∷◌, ◌++◌, length, Some, None, Option, sym, refl, ap, ◌∙◌, subst, inl, inr, ⊎_elim}
use Rattle.std.specs.Int.Digits.{AllBelowBase}
use Rattle.std.specs.List.{slice_get}
use Rattle.std.proofs.lemmas.Bool.{eq-eqb, ne_eqb, cases_eq, cond-true, cond-false}
use Rattle.std.proofs.lemmas.Option.{slice_get_within}
use Rattle.stores.specs.declared.fault.Fault.{Fault}
use Rattle.stores.specs.Stores.{Store, refusal, outcome, state, filled, put}
use Rattle.stores.specs.Layers.{Layer, stacked, reach, down, up}
use Rattle.stacks.specs.declared.call.Answer.{Answer}
use Rattle.stacks.specs.declared.call.Answer.TheVariants.{Transfer, State}
use Rattle.stacks.specs.Calls.{Ask, ask_count, ask_length, ask_layer, ask_state, ask_read, ask_write}
use Rattle.stacks.specs.Law.{Takes, Last, Never, Shown, ReadAnswer, WriteAnswer, Right, landed, Moves, Holds}
use Rattle.stacks.specs.Steps.{Octets}
use Rattle.stacks.proofs.Nths.{nth_push, nth_kept, nth_pushed}
use Rattle.stacks.proofs.Descents.{reach_inj, up_down, accepted_length}
use Rattle.stacks.proofs.Lowered.{Heard}

module _ (s : Store) (qs : List Ask) where
  takes_kept : (q : Ask) (k n : ℕ) (xs : List ℕ) → Takes s qs k n xs → Takes s (qs ++ q ∷ []) k n xs
  takes_kept q k n xs t = (nth_kept qs q k _ t.0, t.1)

  pub never_kept : (q : Ask) (n : ℕ) → Never s (qs ++ q ∷ []) n → Never s qs n
  never_kept q n h k ys t = h k ys (takes_kept q k n ys t)

  last_kept : (q : Ask) (n : ℕ) (xs : List ℕ) (l : Last s (qs ++ q ∷ []) n xs) → slice_get qs l.at ≡ Some (ask_write n xs) → Last s qs n xs
  last_kept q n xs l e = record {
    at = l.at;
    takes = (e, l.takes.1);
    none_later = λ k ys h t. l.none_later k ys h (takes_kept q k n ys t);
  }

  -- a call that no write of sector n is
  pub last_other : (q : Ask) (n : ℕ) (xs : List ℕ) → ((ys : List ℕ) → q ≡ ask_write n ys → refusal s n (length ys) ≡ None → ⊥) → Last s (qs ++ q ∷ []) n xs → Last s qs n xs
  last_other q n xs h l =
      ⊎_elim (λ e. last_kept q n xs l e) (λ e. absurd (h xs e.1 l.takes.1)) (nth_push qs q l.at (ask_write n xs) l.takes.0)

  -- an accepted write is the last of its sector, and leaves the others theirs
  pub last_cases : (m : ℕ) (ys : List ℕ) → refusal s m (length ys) ≡ None → (n : ℕ) (xs : List ℕ) → Last s (qs ++ ask_write m ys ∷ []) n xs → ((n ≡ m) × (xs ≡ ys)) ⊎ ((n ≡ m → ⊥) × Last s qs n xs)
  last_cases m ys acc n xs l =
      ⊎_elim
      (λ e. ⊎_elim
      (λ old. absurd (l.none_later (length qs) ys (slice_get_within qs l.at _ old) (subst (λ z. Takes s (qs ++ ask_write m ys ∷ []) (length qs) z ys) (sym e) (nth_pushed qs (ask_write m ys), acc))))
      (λ new. let w : ask_write m ys ≡ ask_write n xs = new.1 in let same : xs ≡ ys = cc in inl (e, same))
      found)
      (λ ne. ⊎_elim
      (λ old. inr (ne, last_kept (ask_write m ys) n xs l old))
      (λ new. let w : ask_write m ys ≡ ask_write n xs = new.1 in let same : n ≡ m = cc in absurd (ne same))
      found)
      (cases_eq n m)
    where
      found : (slice_get qs l.at ≡ Some (ask_write n xs)) ⊎ ((l.at ≡ length qs) × (ask_write m ys ≡ ask_write n xs))
      found = nth_push qs (ask_write m ys) l.at (ask_write n xs) l.takes.0

-- the same figures, and other bytes
abbrev pub holding : Store → (ℕ → List ℕ) → Store
holding s f = record { count = s.count; size = s.size; layer = s.layer; bytes = f; failed = s.failed }

-- the lowest store holds f after the calls qs
pub record Kept (ls : List Layer) (s : Store) (f : ℕ → List ℕ) (qs : List Ask) : Type 0 where
  pub written : (n : ℕ) (xs : List ℕ) → Last (stacked ls s) qs n xs → f (reach ls n) ≡ down ls n xs
  pub octets : (n : ℕ) (xs : List ℕ) → Last (stacked ls s) qs n xs → AllBelowBase 256 xs
  pub others : (m : ℕ) → ((n : ℕ) → reach ls n ≡ m → Never (stacked ls s) qs n) → f m ≡ s.bytes m

module _ (ls : List Layer) (s : Store) where
  pub kept_none : Kept ls s s.bytes []
  kept_none = record {
    written = λ n xs l. cc l.takes.0;
    octets = λ n xs l. cc l.takes.0;
    others = λ m h. refl;
  }

  -- a call that writes nothing
  pub kept_other : (f : ℕ → List ℕ) (qs : List Ask) (q : Ask) → Kept ls s f qs → ((n : ℕ) (ys : List ℕ) → q ≡ ask_write n ys → refusal (stacked ls s) n (length ys) ≡ None → ⊥) → Kept ls s f (qs ++ q ∷ [])
  kept_other f qs q k h = record {
    written = λ n xs l. k.written n xs (last_other (stacked ls s) qs q n xs (h n) l);
    octets = λ n xs l. k.octets n xs (last_other (stacked ls s) qs q n xs (h n) l);
    others = λ m g. k.others m (λ n e. never_kept (stacked ls s) qs q n (g n e));
  }

  abbrev pub with_sector : (ℕ → List ℕ) → ℕ → List ℕ → ℕ → List ℕ
  with_sector f n xs k = cond (eqb k (reach ls n)) (down ls n xs) (f k)

  -- an accepted write
  pub kept_write : (f : ℕ → List ℕ) (qs : List Ask) (m : ℕ) (ys : List ℕ) → Kept ls s f qs → refusal (stacked ls s) m (length ys) ≡ None → AllBelowBase 256 ys → Kept ls s (with_sector f m ys) (qs ++ ask_write m ys ∷ [])
  kept_write f qs m ys k acc o = record {
    written = λ n xs l. ⊎_elim
        (λ h. cond-true (eqb (reach ls n) (reach ls m)) _ _ (eq-eqb (reach ls n) (reach ls m) (ap (reach ls) h.0)) ∙ sym (ap (λ z. down ls z xs) h.0 ∙ ap (down ls m) h.1))
        (λ h. cond-false (eqb (reach ls n) (reach ls m)) _ _ (ne_eqb (reach ls n) (reach ls m) (λ e. h.0 (reach_inj ls n m e))) ∙ k.written n xs h.1)
        (last_cases (stacked ls s) qs m ys acc n xs l);
    octets = λ n xs l. ⊎_elim
        (λ h. subst (AllBelowBase 256) (sym h.1) o)
        (λ h. k.octets n xs h.1)
        (last_cases (stacked ls s) qs m ys acc n xs l);
    others = λ j g.
        cond-false (eqb j (reach ls m)) _ _ (ne_eqb j (reach ls m) (λ e. g m (sym e) (length qs) ys (nth_pushed qs (ask_write m ys), acc)))
        ∙ k.others j (λ n e. never_kept (stacked ls s) qs (ask_write m ys) n (g n e));
  }

  -- what a read shows
  pub shown : (f : ℕ → List ℕ) (qs : List Ask) → Kept ls s f qs → 64 ≤ s.size → s.size % 16 ≡ 0 → (n : ℕ) → Shown (stacked ls s) qs n (up ls n (f (reach ls n)))
  shown f qs k long even n = record {
    last = λ xs l. ap (up ls n) (k.written n xs l) ∙ up_down s.size long even ls n xs (accepted_length (stacked ls s) n (length xs) l.takes.1, k.octets n xs l);
    first = λ h. ap (up ls n) (k.others (reach ls n) (λ m e j ys t. h j ys (subst (λ z. Takes (stacked ls s) qs j z ys) (reach_inj ls m n e) t)));
  }

  -- one call more
  pub record Next (f : ℕ → List ℕ) (qs : List Ask) (q q' : Ask) (a : Answer) (u' : Store) : Type 0 where
    pub holds : ℕ → List ℕ
    pub is : u' ≡ holding s holds
    pub kept : Kept ls s holds (qs ++ q ∷ [])
    pub right : Right (stacked ls s) qs q q' (Some a)
    pub moves : Moves ls (stacked ls s) q (holding s f) u'

  pub holds_of : (f : ℕ → List ℕ) (qs : List Ask) → Kept ls s f qs → Holds ls s (holding s f) qs
  holds_of f qs k = record {
    count_same = refl;
    size_same = refl;
    layer_same = refl;
    failed_same = λ n. refl;
    written = k.written;
    others = k.others;
  }

  refusal_same : (f : ℕ → List ℕ) (n len : ℕ) → refusal (stacked ls (holding s f)) n len ≡ refusal (stacked ls s) n len
  unfolding refusal
  refusal_same f n len = refl

  state_same : (f : ℕ → List ℕ) (n : ℕ) → state (stacked ls (holding s f)) n ≡ state (stacked ls s) n
  unfolding state
  state_same f n = refl

  written_is : (f : ℕ → List ℕ) (n : ℕ) (xs : List ℕ) → landed None ls (holding s f) n xs ≡ holding s (with_sector f n xs)
  unfolding put
  written_is f n xs = refl

  module _ (long : 64 ≤ s.size) (even : s.size % 16 ≡ 0) (f : ℕ → List ℕ) (qs : List Ask) (k : Kept ls s f qs) where
    pub next : (q q' : Ask) (a : Answer) (u' : Store) → Heard (stacked ls (holding s f)) q q' a → Moves ls (stacked ls (holding s f)) q (holding s f) u' → Octets q → Next f qs q q' a u'
    next ask_count q' a u' h m o = record {
      holds = f;
      is = m;
      right = (ap Some h.0, h.1);
      moves = m;
      kept = kept_other f qs ask_count k (λ n ys e _. cc);
    }
    next ask_length q' a u' h m o = record {
      holds = f;
      is = m;
      right = (ap Some h.0, h.1);
      moves = m;
      kept = kept_other f qs ask_length k (λ n ys e _. cc);
    }
    next ask_layer q' a u' h m o = record {
      holds = f;
      is = m;
      right = (ap Some h.0, h.1);
      moves = m;
      kept = kept_other f qs ask_layer k (λ n ys e _. cc);
    }
    next (ask_state j) q' a u' h m o = record {
      holds = f;
      is = m;
      right = (ap Some (h.0 ∙ ap (λ z. State z) (state_same f j)), h.1);
      moves = m;
      kept = kept_other f qs (ask_state j) k (λ n ys e _. cc);
    }
    next (ask_read j xs) q' a u' h m o = record {
      holds = f;
      is = m;
      moves = m;
      right = go (refusal (stacked ls s) j (length xs)) refl;
      kept = kept_other f qs (ask_read j xs) k (λ n ys e _. cc);
    }
      where
        go : (v : Option Fault) → refusal (stacked ls s) j (length xs) ≡ v → ReadAnswer (stacked ls s) qs j xs (refusal (stacked ls s) j (length xs)) q' (Some a)
        go None e = subst (λ (v : Option Fault). ReadAnswer (stacked ls s) qs j xs v q' (Some a)) (sym e) (
          ap Some (h.0 ∙ ap (λ v. Transfer (outcome v)) (refusal_same f j (length xs) ∙ e)),
          (up ls j (f (reach ls j)), h.1 ∙ ap (λ v. ask_read j (filled v xs (up ls j (f (reach ls j))))) (refusal_same f j (length xs) ∙ e), shown f qs k long even j),
        )
        go (Some g) e = subst (λ (v : Option Fault). ReadAnswer (stacked ls s) qs j xs v q' (Some a)) (sym e) (
          ap Some (h.0 ∙ ap (λ v. Transfer (outcome v)) (refusal_same f j (length xs) ∙ e)),
          h.1 ∙ ap (λ v. ask_read j (filled v xs (up ls j (f (reach ls j))))) (refusal_same f j (length xs) ∙ e),
        )
    next (ask_write j xs) q' a u' h m o = go (refusal (stacked ls s) j (length xs)) refl
      where
        moved : u' ≡ landed (refusal (stacked ls s) j (length xs)) ls (holding s f) j xs
        moved = m ∙ ap (λ v. landed v ls (holding s f) j xs) (refusal_same f j (length xs))

        heard : a ≡ Transfer (outcome (refusal (stacked ls s) j (length xs)))
        heard = h.0 ∙ ap (λ v. Transfer (outcome v)) (refusal_same f j (length xs))

        go : (v : Option Fault) → refusal (stacked ls s) j (length xs) ≡ v → Next f qs (ask_write j xs) q' a u'
        go None e = record {
          holds = with_sector f j xs;
          is = moved ∙ ap (λ v. landed v ls (holding s f) j xs) e ∙ written_is f j xs;
          kept = kept_write f qs j xs k e o;
          moves = moved;
          right = subst (λ (v : Option Fault). WriteAnswer j xs v q' (Some a)) (sym e) (ap Some (heard ∙ ap (λ v. Transfer (outcome v)) e), h.1);
        }
        go (Some g) e = record {
          holds = f;
          is = moved ∙ ap (λ v. landed v ls (holding s f) j xs) e;
          kept = kept_other f qs (ask_write j xs) k (λ n ys w acc.
              let same-n : n ≡ j = cc in
              let same-ys : ys ≡ xs = cc in
              cc (sym acc ∙ ap (λ z. refusal (stacked ls s) z (length ys)) same-n ∙ ap (λ z. refusal (stacked ls s) j (length z)) same-ys ∙ e));
          moves = moved;
          right = subst (λ (v : Option Fault). WriteAnswer j xs v q' (Some a)) (sym e) (ap Some (heard ∙ ap (λ v. Transfer (outcome v)) e), h.1);
        }
