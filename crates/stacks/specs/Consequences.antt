-- What the law over runs comes to for a reader. Assumes nothing.
use Rattle.std.specs.Prelude.{◌≡◌, ℕ, ◌⊎◌, List, [], ◌∷◌, length, None}
use Rattle.stores.specs.Stores.{Store, refusal}
use Rattle.stores.specs.Layers.{Layer, stacked}
use Rattle.stacks.specs.declared.call.Entry.{Entry}
use Rattle.stacks.specs.Calls.{Ask, ask, ask_read, ask_write}
use Rattle.stacks.specs.Law.{Law, Last, Never}

-- for every sector either some bytes were last accepted or none were, so that the law fixes what each accepted read gives
abbrev pub Decided : Type 0
Decided = (s : Store) (qs : List Ask) (n : ℕ) → ((xs : List ℕ) × Last s qs n xs) ⊎ Never s qs n

-- a read after an accepted write of the same sector gives what was written
abbrev pub Echo : Type 0
Echo = (ls ls' : List Layer) (low low' : Store) (a b a' b' : Entry) (n : ℕ) (xs ys : List ℕ)
    → Law ls ls' low low' (a ∷ b ∷ []) (a' ∷ b' ∷ []) → ask a.call ≡ ask_write n xs → ask b.call ≡ ask_read n ys
    → refusal (stacked ls low) n (length xs) ≡ None → length ys ≡ length xs → ask b'.call ≡ ask_read n xs
