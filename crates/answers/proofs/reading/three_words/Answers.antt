use Rattle.std.proofs.Common.{◌≡◌, ℕ, ◌<◌, length, eqb, arith, List, [], ◌∷◌, Bool, true, false, not, Bor, is_some, Some, None, Option, sym, refl, ap, ◌∙◌}
use Rattle.std.proofs.lemmas.List.Splits.{length-slice_split}
use Rattle.std.specs.Bool.{then_some}
use Rattle.std.specs.Option.{option_map}
use Rattle.answers.specs.Reading.{three}
use Rattle.answers.specs.Views.{three_of}
use Rattle.answers.specs.declared.reading.Three.{Three}
use Rattle.text.specs.Views.{words_left}
use Rattle.text.specs.Words.{words}
use Rattle.answers.proofs.reading.three_words.Goals as goal

-- a fourth word is one too many
fourth : (a b c : List ℕ) (ws : List (List ℕ)) → 0 < length ws → None ≡ three (a ∷ (b ∷ (c ∷ ws)))
fourth a b c [] h = absurd (omega arith)
fourth a b c (w ∷ ws) h = refl

-- the three words, by what is left after them
left : (t : Three) (o : Option (Bor (List ℕ))) (none : Bool) → is_some o ≡ not none → option_map three_of (then_some none t) ≡ three (t.first.now ∷ (t.second.now ∷ (t.third.now ∷ words_left o)))
left t None true e = refl
left t None false e = cc
left t (Some r) true e = cc
left t (Some r) false e = fourth t.first.now t.second.now t.third.now (words r.now) (omega (arith, length-slice_split (λ c. eqb c 32) r.now))

pub returns : goal.returns
returns c =
    let first = c.first_word-first.result.word in
    let second = c.first_word-second.result.word in
    let third = c.first_word-third.result in
    let t : Three = record { first = first; second = second; third = third.word } in
    let all = ap words_left c.in_ok-text.was ∙ c.first_word-first.ensures
    ∙ ap (λ o. first.now ∷ words_left o) c.in_ok-first.was ∙ ap (λ ws. first.now ∷ ws) c.first_word-second.ensures
    ∙ ap (λ o. first.now ∷ (second.now ∷ words_left o)) c.in_ok-second.was ∙ ap (λ ws. first.now ∷ (second.now ∷ ws)) c.first_word-third.ensures in
    ap (option_map three_of) c.then_some.ensures ∙ left t third.rest c.is_none.result c.is_none.ensures ∙ sym (ap three all)
