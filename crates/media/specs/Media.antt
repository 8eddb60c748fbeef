-- Media: the lowest stores, over the bytes handed in. Assumes nothing.
use Rattle.std.specs.Prelude.{ℕ, ◌*◌, ◌%◌, Bool, cond, ◌&&◌, List, length, take, drop, None, ◌==◌, nat_le}
use Rattle.stores.specs.Stores.{Store}

-- the bytes in place p: as many as a sector has, from p times that on
abbrev pub place : List ℕ → ℕ → ℕ → List ℕ
place all size p = take size (drop (p * size) all)

-- sectors one after the other: a sector lies in the place of its number, and none has failed
abbrev pub flat_store : List ℕ → ℕ → ℕ → Store
flat_store all n size = record { count = n; size = size; layer = 0; bytes = place all size; failed = λ k. None }

-- figures within the limits: up to 65,536 sectors of a multiple of 16 bytes from 64 to 4,096
abbrev pub within_limits : ℕ → ℕ → Bool
within_limits n size = nat_le n 65536 && (nat_le 64 size && (nat_le size 4096 && size % 16 == 0))

-- figures that a flat medium over so many bytes may have
abbrev pub flat_figures : ℕ → ℕ → ℕ → Bool
flat_figures all n size = within_limits n size && n * size == all

-- a flat medium; with figures that break a rule it is empty, with the length 64
abbrev pub flat_medium : List ℕ → ℕ → ℕ → Store
flat_medium all n size = cond (flat_figures (length all) n size) (flat_store all n size) (flat_store all 0 64)
