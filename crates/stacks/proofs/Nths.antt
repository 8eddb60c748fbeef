-- What stands at a place of a list. Assumes nothing.
use Rattle.std.proofs.Common.{◌≡◌, ℕ, suc, ◌<◌, ◌⊎◌, List, [], ◌∷◌, ◌++◌, length, take, set, Some, ap, ◌∙◌, arith}
use Rattle.std.specs.List.{slice_get}
use Rattle.std.proofs.lemmas.Grind.{common_steps, elements}
use Rattle.std.proofs.lemmas.Option.{slice_get_within, get_or_from_slice_get}
use Rattle.std.proofs.Math.Seq.{take-suc}

module _ {X : Type 0} where
  pub nth_push : (xs : List X) (x : X) (k : ℕ) (a : X) → slice_get (xs ++ x ∷ []) k ≡ Some a → (slice_get xs k ≡ Some a) ⊎ ((k ≡ length xs) × (x ≡ a))
  nth_push xs x k a e = grind (arith, common_steps, elements)

  pub nth_kept : (xs : List X) (x : X) (k : ℕ) (a : X) → slice_get xs k ≡ Some a → slice_get (xs ++ x ∷ []) k ≡ Some a
  nth_kept xs x k a e = let h = slice_get_within xs k a e in grind (arith, common_steps, elements)

  pub nth_pushed : (xs : List X) (x : X) → slice_get (xs ++ x ∷ []) (length xs) ≡ Some x
  nth_pushed xs x = grind (arith, common_steps, elements)

  pub nth_set_other : (xs : List X) (i k : ℕ) (x : X) → (k ≡ i → ⊥) → slice_get (set xs i x) k ≡ slice_get xs k
  nth_set_other xs i k x h = grind (arith, common_steps, elements)

  pub nth_set_same : (xs : List X) (i : ℕ) (x : X) → i < length xs → slice_get (set xs i x) i ≡ Some x
  nth_set_same xs i x h = grind (arith, common_steps, elements)

  pub take_nth : (xs : List X) (i : ℕ) (x : X) → slice_get xs i ≡ Some x → take (suc i) xs ≡ take i xs ++ x ∷ []
  take_nth xs i x e = take-suc xs i x (slice_get_within xs i x e) ∙ ap (λ z. take i xs ++ z ∷ []) (get_or_from_slice_get xs i x x e)
