-- For every sector some bytes were last accepted or none were; and two calls under the law. Assumes nothing.
use Rattle.std.proofs.Common.{◌≡◌, ℕ, zero, suc, ◌<◌, ◌⊎◌, List, [], ◌∷◌, length, Some, None, Option, sym, refl, ap, ◌∙◌, subst, inl, inr, ⊎_elim, arith}
use Rattle.std.proofs.lemmas.Bool.{cases_eq}
use Rattle.stores.specs.declared.fault.Fault.{Fault}
use Rattle.stores.specs.Stores.{Store, refusal}
use Rattle.stores.specs.Layers.{stacked}
use Rattle.stacks.specs.Calls.{Ask, ask, asks, ask_count, ask_length, ask_layer, ask_state, ask_read, ask_write}
use Rattle.stacks.specs.Consequences.{Echo, Decided}
use Rattle.stacks.specs.Law.{Last, Never, Takes, Right, ReadAnswer}

alone_last : (s : Store) (q : Ask) (n : ℕ) (xs : List ℕ) → q ≡ ask_write n xs → refusal s n (length xs) ≡ None → Last s (q ∷ []) n xs
alone_last s q n xs e acc = record { at = 0; takes = (ap Some e, acc); none_later = none }
  where
    none : (k : ℕ) (ys : List ℕ) → 0 < k → Takes s (q ∷ []) k n ys → ⊥
    none zero ys h t = omega arith
    none (suc k) ys h t = cc

pub echo : Echo
echo ls ls' low low' a b a' b' n xs ys law ea eb acc same =
    let r : Right (stacked ls low) (asks (a ∷ [])) (ask_read n ys) (ask b'.call) b'.answer = subst (λ (q : Ask). Right (stacked ls low) (asks (a ∷ [])) q (ask b'.call) b'.answer) eb (law.answers 1 b b' refl refl) in
    let got : ReadAnswer (stacked ls low) (asks (a ∷ [])) n ys None (ask b'.call) b'.answer =
    subst (λ (v : Option Fault). ReadAnswer (stacked ls low) (asks (a ∷ [])) n ys v (ask b'.call) b'.answer) (ap (refusal (stacked ls low) n) same ∙ acc) r in
    got.1.1 ∙ ap (ask_read n) (got.1.2.last xs (alone_last (stacked ls low) (ask a.call) n xs ea acc))

module _ (s : Store) (n : ℕ) where
  later_last : (q : Ask) (qs : List Ask) (xs : List ℕ) → Last s qs n xs → Last s (q ∷ qs) n xs
  later_last q qs xs l = record { at = suc l.at; takes = l.takes; none_later = none }
    where
      none : (k : ℕ) (ys : List ℕ) → suc l.at < k → Takes s (q ∷ qs) k n ys → ⊥
      none zero ys h t = omega arith
      none (suc k) ys h t = l.none_later k ys (omega arith) t

  first_last : (q : Ask) (qs : List Ask) (xs : List ℕ) → q ≡ ask_write n xs → refusal s n (length xs) ≡ None → Never s qs n → Last s (q ∷ qs) n xs
  first_last q qs xs e acc never = record { at = 0; takes = (ap Some e, acc); none_later = none }
    where
      none : (k : ℕ) (ys : List ℕ) → 0 < k → Takes s (q ∷ qs) k n ys → ⊥
      none zero ys h t = omega arith
      none (suc k) ys h t = never k ys t

  no_first : (q : Ask) (qs : List Ask) → ((ys : List ℕ) → q ≡ ask_write n ys → refusal s n (length ys) ≡ None → ⊥) → Never s qs n → Never s (q ∷ qs) n
  no_first q qs h never zero ys t = h ys ((cc)) t.1
  no_first q qs h never (suc k) ys t = never k ys t

  first : (q : Ask) (qs : List Ask) → Never s qs n → ((xs : List ℕ) × Last s (q ∷ qs) n xs) ⊎ Never s (q ∷ qs) n
  first ask_count qs never = inr (no_first ask_count qs (λ ys e a. cc) never)
  first ask_length qs never = inr (no_first ask_length qs (λ ys e a. cc) never)
  first ask_layer qs never = inr (no_first ask_layer qs (λ ys e a. cc) never)
  first (ask_state m) qs never = inr (no_first (ask_state m) qs (λ ys e a. cc) never)
  first (ask_read m xs) qs never = inr (no_first (ask_read m xs) qs (λ ys e a. cc) never)
  first (ask_write m xs) qs never = ⊎_elim (λ e. go e (refusal s n (length xs)) refl) (λ ne. inr (no_first (ask_write m xs) qs (λ ys e a. let same : m ≡ n = cc in ne same) never)) (cases_eq m n)
    where
      go : m ≡ n → (v : Option Fault) → refusal s n (length xs) ≡ v → ((ys : List ℕ) × Last s (ask_write m xs ∷ qs) n ys) ⊎ Never s (ask_write m xs ∷ qs) n
      go e None acc = inl (xs, first_last (ask_write m xs) qs xs (ap (λ z. ask_write z xs) e) acc never)
      go e (Some f) ref = inr (no_first (ask_write m xs) qs (λ ys w a. let same : ys ≡ xs = cc in cc (sym a ∙ ap (λ z. refusal s n (length z)) same ∙ ref)) never)

  pub last_or_never : (qs : List Ask) → ((xs : List ℕ) × Last s qs n xs) ⊎ Never s qs n
  last_or_never [] = inr (λ k ys t. cc)
  last_or_never (q ∷ qs) = ⊎_elim (λ l. inl (l.0, later_last q qs l.0 l.1)) (λ never. first q qs never) (last_or_never qs)

pub decided : Decided
decided s qs n = last_or_never s n qs
