-- The words of the kinds tell them apart. Assumes nothing.
use Rattle.std.proofs.Common.{◌≡◌, ℕ, List, [], ◌∷◌, Some, Option, sym, refl, ap, ◌∙◌, ⊎_elim}
use Rattle.std.proofs.lemmas.Slice.Eq.{bytes_eq-Decides}
use Rattle.std.proofs.lemmas.Bool.{cases_Bool}
use Rattle.std.specs.Str.{bytes_eq}
use Rattle.std.specs.List.{find}
use Rattle.answers.specs.Kinds.{kind_word, kind_named}
use Rattle.text.specs.Writing.{Unspaced}
use Rattle.text.proofs.Spaces.{unspaced_from}
use Rattle.answers.specs.declared.kinds.Kind.{Kind}
use Rattle.answers.specs.declared.kinds.Kind.TheVariants.{Aes, Speck, Product, Horner, Brw, Sector}

-- the kind that is found has the word
pub found_word : (ks : List Kind) (w : List ℕ) (k : Kind) → find (λ j. bytes_eq w (kind_word j)) ks ≡ Some k → w ≡ kind_word k
found_word [] w k e = cc
found_word (j ∷ ks) w k e =
    ⊎_elim
    (λ t. let f : Some j ≡ Some k = rw t at e in let g : j ≡ k = cc in (bytes_eq-Decides w (kind_word j)).0 t ∙ ap kind_word g)
    (λ t. found_word ks w k (rw t at e))
    (cases_Bool (bytes_eq w (kind_word j)))

-- each kind is found by its word
pub named_word : (k : Kind) → kind_named (kind_word k) ≡ Some k
unfolding kind_named
named_word Aes = refl
named_word Speck = refl
named_word Product = refl
named_word Horner = refl
named_word Brw = refl
named_word Sector = refl

pub named_is : (w : List ℕ) (k : Kind) → kind_named w ≡ Some k → w ≡ kind_word k
unfolding kind_named
named_is w k e = found_word (Aes ∷ (Speck ∷ (Product ∷ (Horner ∷ (Brw ∷ (Sector ∷ [])))))) w k e

pub names : (w : List ℕ) (r : Option Kind) → r ≡ kind_named w → (k : Kind) → (r ≡ Some k → w ≡ kind_word k) × (w ≡ kind_word k → r ≡ Some k)
names w r v k = ((λ e. named_is w k (sym v ∙ e)), (λ e. v ∙ ap kind_named e ∙ named_word k))

-- no space in the word of a kind
pub unspaced_kind : (k : Kind) → Unspaced (kind_word k)
unspaced_kind Aes = unspaced_from (kind_word Aes) refl
unspaced_kind Speck = unspaced_from (kind_word Speck) refl
unspaced_kind Product = unspaced_from (kind_word Product) refl
unspaced_kind Horner = unspaced_from (kind_word Horner) refl
unspaced_kind Brw = unspaced_from (kind_word Brw) refl
unspaced_kind Sector = unspaced_from (kind_word Sector) refl
