-- Places of lists. Assumes nothing.
use Rattle.std.proofs.Common.{◌≡◌, ℕ, zero, suc, List, [], ◌∷◌, ◌++◌, map, length, take, drop, Some, refl, ap}
use Rattle.std.specs.List.{slice_get}

pub split_nth : {X : Type 0} (xs : List X) (i : ℕ) (x : X) → slice_get xs i ≡ Some x → xs ≡ take i xs ++ x ∷ drop (suc i) xs
split_nth [] i x e = cc
split_nth (y ∷ xs) zero x e = ap (λ z. z ∷ xs) (cc)
split_nth (y ∷ xs) (suc i) x e = ap (λ z. y ∷ z) (split_nth xs i x e)

pub nth_mid : {X : Type 0} (xs ys : List X) (x : X) → slice_get (xs ++ x ∷ ys) (length xs) ≡ Some x
nth_mid [] ys x = refl
nth_mid (y ∷ xs) ys x = nth_mid xs ys x

pub nth_mapped : {X Y : Type 0} (f : X → Y) (xs : List X) (i : ℕ) (y : Y) → slice_get (map f xs) i ≡ Some y → (x : X) × (slice_get xs i ≡ Some x) × (f x ≡ y)
nth_mapped f [] i y e = cc
nth_mapped f (x ∷ xs) zero y e = (x, refl, cc)
nth_mapped f (x ∷ xs) (suc i) y e = nth_mapped f xs i y e
