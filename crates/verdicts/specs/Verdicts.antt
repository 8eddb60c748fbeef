-- What is said of a line. Assumes nothing.
use Rattle.std.specs.Prelude.{◌≡◌, ℕ, ◌+◌, min, List, ◌++◌, Some, None, codes, decimal, Option}
use Rattle.verdicts.specs.Agreement.{Holds}
use Rattle.answers.specs.Kinds.{kind_word}
use Rattle.answers.specs.Reading.{Reading, passed, understood, not_understood, kind_of}
use Rattle.verdicts.specs.declared.verdict.Tally.{Tally}
use Rattle.verdicts.specs.declared.verdict.Verdict.{Verdict}
use Rattle.verdicts.specs.declared.verdict.Verdict.TheVariants.{Agrees, Differs, NotUnderstood}

-- the verdict on what a line says: whether the definitions give what its answer says
abbrev pub Judged : Reading → Option Verdict → Type 0
Judged passed v = v ≡ None
Judged (understood k) v =
    (Holds k → v ≡ Some (Agrees (kind_of k))) × ((Holds k → ⊥) → v ≡ Some (Differs (kind_of k)))
Judged not_understood v = v ≡ Some NotUnderstood

-- one more, stopping at the largest number
abbrev pub one_more : ℕ → ℕ
one_more n = min (n + 1) 18446744073709551615

-- a tally with one more verdict: what was not understood counts as what differs
abbrev pub counted : Verdict → Tally → Tally
counted (Agrees k) t = record { agree = one_more t.agree; differ = t.differ }
counted (Differs k) t = record { agree = t.agree; differ = one_more t.differ }
counted NotUnderstood t = record { agree = t.agree; differ = one_more t.differ }

-- a verdict as text: the kind's word, or a dash for none, and the finding
abbrev pub verdict_text : Verdict → List ℕ
verdict_text (Agrees k) = kind_word k ++ codes " agrees"
verdict_text (Differs k) = kind_word k ++ codes " differs"
verdict_text NotUnderstood = codes "- not understood"

-- a tally as text
abbrev pub tally_text : Tally → List ℕ
tally_text t = decimal t.agree ++ (codes " agree, " ++ (decimal t.differ ++ codes " differ"))
