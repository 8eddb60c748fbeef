-- Degrees: absent, or a number up to 4,294,967,295. Assumes nothing.
use Rattle.std.specs.Prelude.{ℕ, ◌+◌, min, max, Some, None, Option}

-- the number, and 0 where it is absent
abbrev pub number : Option ℕ → ℕ
number None = 0
number (Some n) = n

-- a number stops at the largest
abbrev pub capped : Option ℕ → Option ℕ
capped None = None
capped (Some n) = Some (min n 4294967295)

-- the larger, with absent below every number
abbrev pub larger : Option ℕ → Option ℕ → Option ℕ
larger None y = y
larger (Some a) None = Some a
larger (Some a) (Some b) = Some (max a b)

-- the two added, stopping at the largest number; absent where either is
abbrev pub added : Option ℕ → Option ℕ → Option ℕ
added None y = None
added (Some a) None = None
added (Some a) (Some b) = Some (min (a + b) 4294967295)
