-- From call to call of a run, and from its end to the law. Assumes nothing.
use Rattle.std.proofs.Common.{◌≡◌, ℕ, suc, ◌+◌, ◌%◌, ◌<◌, ◌≤◌, cond, ltb, List, [], ◌∷◌, ◌++◌, length, take, set, Option, Some, sym, refl, ap, ◌∙◌, subst, ⊎_elim, add-one, arith, length-set, take_all}
use Rattle.std.specs.List.{slice_get}
use Rattle.std.proofs.lemmas.Bool.{cases_eq, cases_lt, cond-true, cond-false, lt-ltb, le-ltb}
use Rattle.std.proofs.lemmas.List.{map-append}
use Rattle.std.proofs.lemmas.Option.{slice_get_within}
use Rattle.stores.specs.Stores.{Store}
use Rattle.stores.specs.Layers.{Layer, Stack, Sound, stacked, store}
use Rattle.stacks.specs.declared.call.Call.{Call}
use Rattle.stacks.specs.declared.call.Answer.{Answer}
use Rattle.stacks.specs.declared.call.Entry.{Entry}
use Rattle.stacks.specs.Calls.{Ask, ask, asks}
use Rattle.stacks.specs.Laid.{laid}
use Rattle.stacks.specs.Law.{Right, Moves, Holds, Law}
use Rattle.stacks.specs.Steps.{Step, Octets}
use Rattle.stacks.proofs.Nths.{nth_set_same, nth_set_other, take_nth}
use Rattle.stacks.proofs.Histories.{holding, Kept, kept_none, Next, next, holds_of}
use Rattle.stacks.proofs.Lowered.{Heard, Low, lowered}

-- each of the first i calls is answered rightly
abbrev pub Answered : Store → List Entry → List Entry → ℕ → Type 0
Answered s es cur i = (k : ℕ) (e e' : Entry) → k < i → slice_get es k ≡ Some e → slice_get cur k ≡ Some e' → Right s (asks (take k es)) (ask e.call) (ask e'.call) e'.answer

-- after i of the calls es, of a run that began at the lowest store s and has come to u
pub record Turn (ls : List Layer) (s u : Store) (es cur : List Entry) (i : ℕ) : Type 0 where
  pub holds : ℕ → List ℕ
  pub is : u ≡ holding s holds
  pub kept : Kept ls s holds (asks (take i es))
  pub answered : Answered (stacked ls s) es cur i
  pub rest : (k : ℕ) → i ≤ k → slice_get cur k ≡ slice_get es k
  pub many : length cur ≡ length es
  pub states : ℕ → Store
  pub first : states 0 ≡ s
  pub here : states i ≡ u
  pub held : (j : ℕ) → j ≤ i → Holds ls s (states j) (asks (take j es))
  pub moved : (j : ℕ) (e : Entry) → j < i → slice_get es j ≡ Some e → Moves ls (stacked ls s) (ask e.call) (states j) (states (suc j))

pub start : (ls : List Layer) (s : Store) (es : List Entry) → Turn ls s s es es 0
start ls s es = record {
  holds = s.bytes;
  is = refl;
  kept = kept_none ls s;
  answered = λ k e e' h. absurd (omega arith);
  rest = λ k h. refl;
  many = refl;
  states = λ j. s;
  first = refl;
  here = refl;
  held = λ j h. let z-is : 0 ≡ j = omega arith in subst (λ (z : ℕ). Holds ls s s (asks (take z es))) z-is (holds_of ls s s.bytes [] (kept_none ls s));
  moved = λ j e h. absurd (omega arith);
}

module _ (ls : List Layer) (s u u' : Store) (long : 64 ≤ s.size) (even : s.size % 16 ≡ 0) (es cur : List Entry) (i : ℕ) (t : Turn ls s u es cur i)
    (e : Entry) (c' : Call) (a : Answer) (at_i : slice_get cur i ≡ Some e) (h : Heard (stacked ls u) (ask e.call) (ask c') a) (m : Moves ls (stacked ls u) (ask e.call) u u') (o : Octets (ask e.call)) where
  new : Entry
  new = record { call = c'; answer = Some a }

  q : Ask
  q = ask e.call

  n : Next ls s t.holds (asks (take i es)) (ask e.call) (ask c') a u'
  n = next ls s long even t.holds (asks (take i es)) t.kept (ask e.call) (ask c') a u'
      (subst (λ (z : Store). Heard (stacked ls z) (ask e.call) (ask c') a) t.is h)
      (subst (λ (z : Store). Moves ls (stacked ls z) (ask e.call) z u') t.is m) o

  from : slice_get es i ≡ Some e
  from = sym (t.rest i (omega arith)) ∙ at_i

  one_more : asks (take (i + 1) es) ≡ asks (take i es) ++ ask e.call ∷ []
  one_more = ap (λ z. asks (take z es)) (add-one i) ∙ ap asks (take_nth es i e from) ∙ map-append (λ (z : Entry). ask z.call) (take i es) (e ∷ [])

  kept_more : Kept ls s n.holds (asks (take (i + 1) es))
  kept_more = subst (Kept ls s n.holds) (sym one_more) n.kept

  states : ℕ → Store
  states j = cond (ltb i j) u' (t.states j)

  old_state : (j : ℕ) → j ≤ i → states j ≡ t.states j
  unfolding states
  old_state j l = cond-false (ltb i j) _ _ (le-ltb i j l)

  new_state : (j : ℕ) → i < j → states j ≡ u'
  unfolding states
  new_state j l = cond-true (ltb i j) _ _ (lt-ltb i j l)

  held_more : (j : ℕ) → j ≤ i + 1 → Holds ls s (states j) (asks (take j es))
  held_more j l = ⊎_elim
      (λ g.
      let j-is : i + 1 ≡ j = omega arith in
      subst (λ (z : ℕ). Holds ls s (states z) (asks (take z es))) j-is
      (subst (λ (z : Store). Holds ls s z (asks (take (i + 1) es))) (sym (new_state (i + 1) (omega arith) ∙ n.is)) (holds_of ls s n.holds (asks (take (i + 1) es)) kept_more)))
      (λ g. subst (λ (z : Store). Holds ls s z (asks (take j es))) (sym (old_state j g)) (t.held j g))
      (cases_lt i j)

  moved_now : Moves ls (stacked ls s) (ask e.call) (states i) (states (suc i))
  moved_now =
      subst (λ (z : Store). Moves ls (stacked ls s) (ask e.call) z (states (suc i))) (sym (old_state i (omega arith) ∙ t.here ∙ t.is))
      (subst (λ (z : Store). Moves ls (stacked ls s) (ask e.call) (holding s t.holds) z) (sym (new_state (suc i) (omega arith))) n.moves)

  moved_more : (j : ℕ) (d : Entry) → j < i + 1 → slice_get es j ≡ Some d → Moves ls (stacked ls s) (ask d.call) (states j) (states (suc j))
  moved_more j d l at_j = ⊎_elim
      (λ g.
      subst (λ (z : Store). Moves ls (stacked ls s) (ask d.call) z (states (suc j))) (sym (old_state j (omega arith)))
      (subst (λ (z : Store). Moves ls (stacked ls s) (ask d.call) (t.states j) z) (sym (old_state (suc j) (omega arith))) (t.moved j d g at_j)))
      (λ g.
      let same : i ≡ j = omega arith in
      let d-is : e ≡ d = cc (sym from ∙ ap (slice_get es) same ∙ at_j) in
      subst (λ (z : Entry). Moves ls (stacked ls s) (ask z.call) (states j) (states (suc j))) d-is
      (subst (λ (z : ℕ). Moves ls (stacked ls s) (ask e.call) (states z) (states (suc z))) same moved_now))
      (cases_lt j i)

  answered_now : (k : ℕ) (d d' : Entry) → k ≡ i → slice_get es k ≡ Some d → slice_get (set cur i new) k ≡ Some d' → Right (stacked ls s) (asks (take k es)) (ask d.call) (ask d'.call) d'.answer
  unfolding new
  answered_now k d d' same at-k at-k' =
      let de : d ≡ e = cc (sym at-k ∙ ap (slice_get es) same ∙ from) in
      let dn : d' ≡ new = cc (sym at-k' ∙ ap (slice_get (set cur i new)) same ∙ nth_set_same cur i new (slice_get_within cur i e at_i)) in
      subst (λ (z : ℕ). Right (stacked ls s) (asks (take z es)) (ask d.call) (ask d'.call) d'.answer) (sym same)
      (subst (λ (z : Entry). Right (stacked ls s) (asks (take i es)) (ask z.call) (ask d'.call) d'.answer) (sym de)
      (subst (λ (z : Entry). Right (stacked ls s) (asks (take i es)) (ask e.call) (ask z.call) z.answer) (sym dn) n.right))

  pub turn : Turn ls s u' es (set cur i (record { call = c'; answer = Some a })) (i + 1)
  unfolding new
  turn = record {
    holds = n.holds;
    is = n.is;
    kept = kept_more;
    answered = λ k d d' lt at-k at-k'. ⊎_elim
        (λ same. answered_now k d d' same at-k at-k')
        (λ other. t.answered k d d' (omega (arith, lt)) at-k (sym (nth_set_other cur i k new other) ∙ at-k'))
        (cases_eq k i);
    rest = λ k le. nth_set_other cur i k new (λ same. absurd (omega arith)) ∙ t.rest k (omega arith);
    many = length-set cur i new ∙ t.many;
    states = states;
    first = old_state 0 (omega arith) ∙ t.first;
    here = new_state (i + 1) (omega arith);
    held = held_more;
    moved = moved_more;
  }

-- the same from the step of a call on the whole stack, which stands on a lowest store, and with its answer as the entry holds it
pub turn_on : (us₀ us us' : List Layer) (b₀ b b' p p' : Stack) (es cur : List Entry) (i : ℕ) (e : Entry) (c' : Call) (a : Answer) (held : Option Answer)
    → Sound b₀.lowest → Sound b.lowest → p ≡ laid us b → p' ≡ laid us' b' → length us' ≡ length us
    → us ≡ us₀ → Turn us₀ (store b₀) (store b) es cur i → slice_get cur i ≡ Some e → Step p p' (ask e.call) (ask c') a → Octets (ask e.call) → held ≡ Some a
    → (us' ≡ us₀) × Turn us₀ (store b₀) (store b') es (set cur i (record { call = c'; answer = held })) (i + 1)
turn_on us₀ us us' b₀ b b' p p' es cur i e c' a held sound₀ sound stands stands' deep same t at_i st o is =
    let st₁ : Step (laid us b) p' (ask e.call) (ask c') a = subst (λ (z : Stack). Step z p' (ask e.call) (ask c') a) stands st in
    let st₂ : Step (laid us b) (laid us' b') (ask e.call) (ask c') a = subst (λ (z : Stack). Step (laid us b) z (ask e.call) (ask c') a) stands' st₁ in
    let low : Low us us' (store b) (store b') (ask e.call) (ask c') a = lowered us us' b b' deep (ask e.call) (ask c') a sound st₂ o in (
      low.layers ∙ same,
      subst (λ (z : Option Answer). Turn us₀ (store b₀) (store b') es (set cur i (record { call = c'; answer = z })) (i + 1)) (sym is)
          (turn us₀ (store b₀) (store b) (store b') sound₀.long sound₀.even es cur i t e c' a at_i
          (subst (λ (z : List Layer). Heard (stacked z (store b)) (ask e.call) (ask c') a) same low.heard)
          (subst (λ (z : List Layer). Moves z (stacked z (store b)) (ask e.call) (store b) (store b')) same low.moves) o),
    )

pub finish : (ls ls' : List Layer) (s u : Store) (es cur : List Entry) (i : ℕ) → ls' ≡ ls → Turn ls s u es cur i → i ≡ length es → Law ls ls' s u es cur
finish ls ls' s u es cur i same t end = record {
  layers_same = same;
  as_many = t.many;
  answers = λ k e e' at-k at-k'. t.answered k e e' (omega (arith, slice_get_within es k e at-k)) at-k at-k';
  at_end = subst (λ (z : List Entry). Holds ls s u (asks z)) (take_all i es (omega arith)) (subst (λ (z : Store). Holds ls s z (asks (take i es))) t.here (t.held i (omega arith)));
  states = t.states;
  at_making = t.first;
  last_state = ap t.states (sym end) ∙ t.here;
  held = λ j l. t.held j (omega (arith, l));
  moves = λ j e at_j. t.moved j e (omega (arith, slice_get_within es j e at_j)) at_j;
}
