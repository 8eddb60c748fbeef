use Rattle.std.proofs.Common.{◌≡◌, List, ℕ, [], ◌∷◌, ◌++◌, ◌≢◌, Some, None, Option, Bor, MatchOption, unwrap_or, ap}
use Rattle.std.proofs.lemmas.Slice.Eq.{strip_suffix_is}
use Rattle.std.proofs.lemmas.Bool.Decides.{Decides-eqb}
use Rattle.answers.proofs.reading.without_end.Goals as goal

open_ended : (line r : Bor (List ℕ)) (o : Option (Bor (List ℕ)))
    → r ≡ unwrap_or o line
    → MatchOption o ((t : List ℕ) → line.now ≢ t ++ (10 ∷ [])) (λ t. line.now ≡ t.now ++ (10 ∷ []))
    → ((t : List ℕ) → line.now ≢ t ++ (10 ∷ []))
    → r.now ≡ line.now
open_ended line r None e m h = ap (λ (t : Bor (List ℕ)). t.now) e
open_ended line r (Some t) e m h = absurd (h t.now m)

pub returns-clause-open_ended : goal.returns-clause-open_ended
returns-clause-open_ended c =
    open_ended c.args.line c.unwrap_or.result c.strip_suffix.result c.unwrap_or.ensures
    (strip_suffix_is Decides-eqb c.args.line.now (10 ∷ []) c.strip_suffix.result c.strip_suffix.ensures.cases)
