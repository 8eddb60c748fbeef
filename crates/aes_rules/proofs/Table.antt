-- A rule of a table, at all of its entries by one test that is computed. Assumes nothing.
use Rattle.std.proofs.Common.{ℕ, zero, suc, ◌+◌, ◌<◌, Bool, true, false, T, List, [], ◌∷◌, length, get_or, sym, ◌∙◌, subst, le_of_suc-le-suc, not-suc-le-zero, add-zero, add-suc, suc-add, zero-add}
use Rattle.aes_rules.specs.Tables.{both, every}

pub both_left : (a b : Bool) → T (both a b) → T a
both_left true b t = tt
both_left false b t = t

pub both_right : (a b : Bool) → T (both a b) → T b
both_right true b t = t
both_right false b t = absurd t

from : (rule : ℕ → ℕ → Bool) (xs : List ℕ) (i : ℕ) → T (every rule i xs) → (k : ℕ) → k < length xs → T (rule (i + k) (get_or xs k 0))
from rule [] i t k h = absurd (not-suc-le-zero h)
from rule (x ∷ xs) i t zero h = subst (λ (m : ℕ). T (rule m x)) (sym (add-zero i)) (both_left (rule i x) (every rule (suc i) xs) t)
from rule (x ∷ xs) i t (suc k) h =
    subst (λ (m : ℕ). T (rule m (get_or xs k 0))) (suc-add i k ∙ sym (add-suc i k))
    (from rule xs (suc i) (both_right (rule i x) (every rule (suc i) xs) t) k (le_of_suc-le-suc h))

pub at_each : (rule : ℕ → ℕ → Bool) (xs : List ℕ) → T (every rule 0 xs) → (k : ℕ) → k < length xs → T (rule k (get_or xs k 0))
at_each rule xs t k h = subst (λ (m : ℕ). T (rule m (get_or xs k 0))) (zero-add k) (from rule xs 0 t k h)
