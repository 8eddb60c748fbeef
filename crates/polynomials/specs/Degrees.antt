-- The degrees of Horner and BRW in the key. Assumes nothing.
use Rattle.std.specs.Prelude.{ℕ, ◌-◌, ◌*◌, ◌≤◌, replicate, Some}
use Rattle.elements.specs.Degrees.{number}
use Rattle.elements.specs.Values.{degree, degree_operations}
use Rattle.elements.specs.declared.values.Degree.{Degree}
use Rattle.polynomials.specs.Sums.{horner, brw}

-- the degree of Horner of m blocks of degree 0 at a key of degree 1
abbrev pub horner_degree : ℕ → Degree
horner_degree m = horner degree_operations (degree (Some 1)) (replicate m (degree (Some 0)))

-- the degree of BRW of m blocks of degree 0 at a key of degree 1
abbrev pub brw_degree : ℕ → Degree
brw_degree m = brw degree_operations (degree (Some 1)) (replicate m (degree (Some 0)))

-- BRW's is at most 2 m - 1, for m from 3 on
abbrev pub BrwDegreeBound : Type 0
BrwDegreeBound = (m : ℕ) → 3 ≤ m → number (brw_degree m).value ≤ 2 * m - 1
