-- The store of a setting, and what its calls answer. Assumes nothing.
use Rattle.std.proofs.Common.{◌≡◌, ℕ, ◌+◌, ◌-◌, ◌*◌, ◌%◌, ◌<◌, ◌≤◌, true, leb, List, [], ◌∷◌, ◌++◌, length, take, replicate, Some, None, Ok, Err, Option, Result, sym, refl, ap, ◌∙◌, subst, ⊎_elim, mul-le-mul_right, add-mul, arith, length-append}
use mathlib.Core.Path.{fun_ext}
use lib.ListN.{length-replicate}
use Rattle.std.proofs.lemmas.List.{take-replicate, drop-replicate}
use Rattle.std.proofs.lemmas.Bool.Decides.{nat_tests}
use Rattle.std.proofs.lemmas.Bool.{le-leb, cond-true}
use Rattle.elements.specs.declared.values.Block.{Block}
use Rattle.ciphers.specs.Choice.{cipher_of}
use Rattle.hashing.specs.Choice.{hash_of}
use Rattle.sector.specs.Texts.{bytes, joined, bytes_of, text_of, deciphered_bytes}
use Rattle.sector.specs.Transform.{Text, tweak, deciphered}
use Rattle.sector.specs.declared.refusal.Refusal.{Refusal}
use Rattle.sector.proofs.Bytes.{length_bytes}
use Rattle.stores.specs.declared.fault.Fault.{Fault}
use Rattle.stores.specs.Stores.{Store, refusal, state}
use Rattle.stores.specs.Layers.{enciphering, stacked}
use Rattle.media.specs.Media.{place, flat_store, flat_figures}
use Rattle.stacks.specs.declared.call.Entry.{Entry}
use Rattle.stacks.specs.declared.call.Answer.{Answer}
use Rattle.stacks.specs.declared.call.Answer.TheVariants.{Transfer, Number, State}
use Rattle.stacks.specs.Calls.{Ask, ask, asks, ask_count, ask_length, ask_layer, ask_state, ask_read, ask_write}
use Rattle.stacks.specs.Law.{Takes, Shown, ReadAnswer, WriteAnswer, Right, Law}
use Rattle.stacks.proofs.Descents.{accepted_length}
use Rattle.stacks.proofs.Echoes.{decided}
use Rattle.sheet_turns.specs.declared.settings.Setting.{Setting}
use Rattle.sheet_turns.specs.Settings.{figures}
use Rattle.sheet_runs.specs.Lines.{store_of, fresh, store_answer, Shows}
use Rattle.sheet_plans.specs.Plans.{answer_of, read_shown, shown_of}
use Rattle.sheet_runs.specs.Puts.{AnsweredBy}

-- a run's law answers by the store that the stack is
pub law_answers : (s : Store) (es es' : List Entry) → (ls ls' : List _) (low low' : Store) → stacked ls low ≡ s → Law ls ls' low low' es es' → AnsweredBy s es es'
law_answers s es es' ls ls' low low' e law = record {
  as_many = law.as_many;
  right = λ i a a' p q. subst (λ (z : Store). Right z (asks (take i es)) (ask a.call) (ask a'.call) a'.answer) e (law.answers i a a' p q);
}

-- what figures of a setting are
pub figures_are : (l n : ℕ) → figures l n ≡ true → (64 ≤ l) × (l ≤ 4096) × (l % 16 ≡ 0) × (1 ≤ n) × (l * n ≤ 32768)
figures_are l n e = (grind (arith, nat_tests), grind (arith, nat_tests), grind (arith, nat_tests), grind (arith, nat_tests), grind (arith, nat_tests))

few : (l n : ℕ) → 64 ≤ l → l * n ≤ 32768 → n ≤ 65536
few l n h k = let m : 1 * n ≤ l * n = mul-le-mul_right n (omega arith) in omega arith

flat_fits : (l n : ℕ) → figures l n ≡ true → flat_figures (length {A = ℕ} (replicate (n * l) 0)) n l ≡ true
flat_fits l n e =
    let f = figures_are l n e in
    let few_enough : n ≤ 65536 = few l n f.0 f.4 in
    let long : length {A = ℕ} (replicate (n * l) 0) ≡ n * l = length-replicate (n * l) 0 in
    rw long (grind (arith, nat_tests))

-- one sector of a zeroed medium
zero_place : (l n k : ℕ) → k < n → place (replicate (n * l) 0) l k ≡ replicate l 0
zero_place l n k h =
    let m : (k + 1) * l ≤ n * l = mul-le-mul_right l (omega arith) in
    let a : (k + 1) * l ≡ k * l + 1 * l = add-mul k 1 l in
    ap (take l) (drop-replicate (k * l) (n * l) 0) ∙ take-replicate l (n * l - k * l) 0 (omega arith)

-- the store of a setting on zeros, as the stack has it
flat_of : Setting → Store
flat_of g = stacked (enciphering (cipher_of g.cipher g.key) (hash_of g.hash) ∷ []) (flat_store (replicate (g.count * g.length) 0) g.count g.length)

same_store : (g : Setting) (F : Block → Block) → ((x : Block) → F x ≡ cipher_of g.cipher g.key x) → figures g.length g.count ≡ true
    → store_of F (hash_of g.hash) (replicate (g.count * g.length) 0) g.count g.length ≡ flat_of g
unfolding flat_of
same_store g F h f =
    ap (λ (G : Block → Block). store_of G (hash_of g.hash) (replicate (g.count * g.length) 0) g.count g.length) (fun_ext h)
    ∙ ap (stacked (enciphering (cipher_of g.cipher g.key) (hash_of g.hash) ∷ []))
    (cond-true (flat_figures (length {A = ℕ} (replicate (g.count * g.length) 0)) g.count g.length) _ _ (flat_fits g.length g.count f))

module _ (g : Setting) where
  same_refusal : (n len : ℕ) → refusal (flat_of g) n len ≡ refusal (fresh g) n len
  unfolding refusal flat_of
  same_refusal n len = refl

  same_state : (n : ℕ) → state (flat_of g) n ≡ state (fresh g) n
  unfolding state flat_of
  same_state n = refl

  same_bytes : (n : ℕ) → n < g.count → (flat_of g).bytes n ≡ (fresh g).bytes n
  unfolding flat_of
  same_bytes n h = ap (deciphered_bytes (cipher_of g.cipher g.key) (hash_of g.hash) (tweak n)) (zero_place g.length g.count n h)

  same_figures : ((flat_of g).count ≡ g.count) × ((flat_of g).size ≡ g.length) × ((flat_of g).layer ≡ 1)
  unfolding flat_of
  same_figures = (refl, refl, refl)

  takes_there : (qs : List Ask) (j n : ℕ) (xs : List ℕ) → Takes (fresh g) qs j n xs → Takes (flat_of g) qs j n xs
  takes_there qs j n xs t = (t.0, same_refusal n (length xs) ∙ t.1)

  takes_back : (qs : List Ask) (j n : ℕ) (xs : List ℕ) → Takes (flat_of g) qs j n xs → Takes (fresh g) qs j n xs
  takes_back qs j n xs t = (t.0, sym (same_refusal n (length xs)) ∙ t.1)

  shown_fresh : (qs : List Ask) (n : ℕ) (ys : List ℕ) → n < g.count → Shown (flat_of g) qs n ys → Shown (fresh g) qs n ys
  shown_fresh qs n ys h s = record {
    last = λ xs l. s.last xs (record { at = l.at; takes = takes_there qs l.at n xs l.takes; none_later = λ k zs m t. l.none_later k zs m (takes_back qs k n zs t) });
    first = λ never. s.first (λ k zs t. never k zs (takes_back qs k n zs t)) ∙ same_bytes n h;
  }

  -- what a line tells of a fault
  refused_of : Option Fault → Result (Unit {0}) Refusal
  refused_of None = Ok tt
  refused_of (Some f) = Err f.refusal

  store_said : (n len : ℕ) → refused_of (refusal (fresh g) n len) ≡ store_answer g n len
  unfolding refusal refused_of
  store_said n len = grind (arith, nat_tests)

  below : (n len : ℕ) → refusal (fresh g) n len ≡ None → n < g.count
  unfolding refusal
  below n len e = grind (arith, nat_tests)

  read_fresh : (before : List Ask) (n : ℕ) (xs : List ℕ) (v : Option Fault) (q' : Ask) (a : Option Answer) → (v ≡ None → n < g.count)
      → ReadAnswer (flat_of g) before n xs v q' a → ReadAnswer (fresh g) before n xs v q' a
  read_fresh before n xs None q' a h r = (r.0, (r.1.0, r.1.1, shown_fresh before n r.1.0 (h refl) r.1.2))
  read_fresh before n xs (Some f) q' a h r = r

  right_fresh : (before : List Ask) (q q' : Ask) (a : Option Answer) → Right (flat_of g) before q q' a → Right (fresh g) before q q' a
  right_fresh before ask_count q' a r = (r.0 ∙ ap (λ z. Some (Number z)) same_figures.0, r.1)
  right_fresh before ask_length q' a r = (r.0 ∙ ap (λ z. Some (Number z)) same_figures.1, r.1)
  right_fresh before ask_layer q' a r = (r.0 ∙ ap (λ z. Some (Number z)) same_figures.2, r.1)
  right_fresh before (ask_state n) q' a r = (r.0 ∙ ap (λ z. Some (State z)) (same_state n), r.1)
  right_fresh before (ask_read n xs) q' a r =
      read_fresh before n xs (refusal (fresh g) n (length xs)) q' a (below n (length xs))
      (subst (λ (v : Option Fault). ReadAnswer (flat_of g) before n xs v q' a) (same_refusal n (length xs)) r)
  right_fresh before (ask_write n xs) q' a r = subst (λ (v : Option Fault). WriteAnswer n xs v q' a) (same_refusal n (length xs)) r

  -- the calls put to the layer that the code makes
  pub answered_fresh : (F : Block → Block) (es es' : List Entry) → ((x : Block) → F x ≡ cipher_of g.cipher g.key x) → figures g.length g.count ≡ true
      → AnsweredBy (store_of F (hash_of g.hash) (replicate (g.count * g.length) 0) g.count g.length) es es' → AnsweredBy (fresh g) es es'
  answered_fresh F es es' h f r = record {
    as_many = r.as_many;
    right = λ i e e' p q. right_fresh (asks (take i es)) (ask e.call) (ask e'.call) e'.answer
        (subst (λ (s : Store). Right s (asks (take i es)) (ask e.call) (ask e'.call) e'.answer) (same_store g F h f) (r.right i e e' p q));
  }

  -- ---- what a line tells of an answer

  write_by : (n : ℕ) (t : List ℕ) (v : Option Fault) (q' : Ask) (a : Option Answer) → WriteAnswer n t v q' a → (answer_of a ≡ refused_of v) × (shown_of a q' ≡ None)
  unfolding refused_of
  write_by n t None q' a r = (ap answer_of r.0, ap (λ z. shown_of z q') r.0 ∙ ap read_shown r.1)
  write_by n t (Some f) q' a r = (ap answer_of r.0, ap (λ z. shown_of z q') r.0)

  pub write_outcome : (before : List Ask) (n : ℕ) (t : List ℕ) (q' : Ask) (a : Option Answer) → Right (fresh g) before (ask_write n t) q' a
      → (answer_of a ≡ store_answer g n (length t)) × (shown_of a q' ≡ None)
  write_outcome before n t q' a r =
      let w = write_by n t (refusal (fresh g) n (length t)) q' a r in
      (w.0 ∙ store_said n (length t), w.1)

  long_text : (p : Text) → 8 ≤ length (bytes_of p)
  unfolding bytes_of
  long_text p =
      let x : List ℕ = bytes p.front.first in
      let y : List ℕ = bytes p.front.second in
      omega (arith, length-append (x ++ y) (joined p.tail), length-append x y, length_bytes p.front.first)

  long_deciphered : (F : Block → Block) (h : Block → List Block → Block) (T : Block) (t : List ℕ) → 8 ≤ length (deciphered_bytes F h T t)
  unfolding deciphered_bytes
  long_deciphered F h T t = long_text (deciphered F h T (text_of t))

  long_shown : figures g.length g.count ≡ true → (before : List Ask) (n : ℕ) (ys : List ℕ) → Shown (fresh g) before n ys → 8 ≤ length ys
  long_shown f before n ys s = ⊎_elim
      (λ l. omega (arith, ap length (s.last l.0 l.1), accepted_length (fresh g) n (length l.0) l.1.takes.1, (figures_are g.length g.count f).0))
      (λ never. omega (arith, ap length (s.first never), long_deciphered (cipher_of g.cipher g.key) (hash_of g.hash) (tweak n) (replicate g.length 0)))
      (decided (fresh g) before n)

  read_by : figures g.length g.count ≡ true → (before : List Ask) (n : ℕ) (xs : List ℕ) (v : Option Fault) (q' : Ask) (a : Option Answer) → ReadAnswer (fresh g) before n xs v q' a
      → (answer_of a ≡ refused_of v) × Shows g before n (answer_of a) (shown_of a q')
  unfolding refused_of
  read_by f before n xs None q' a r =
      let ys = r.1.0 in
      let e : shown_of (Some (Transfer (Ok tt))) q' ≡ Some (take 8 ys) = ap read_shown r.1.1 ∙ cond-true (leb 8 (length ys)) _ _ (le-leb 8 (length ys) (long_shown f before n ys r.1.2)) in
      (ap answer_of r.0, subst (λ (z : Option Answer). Shows g before n (answer_of z) (shown_of z q')) (sym r.0) (ys, r.1.2, e))
  read_by f before n xs (Some t) q' a r = (ap answer_of r.0, subst (λ (z : Option Answer). Shows g before n (answer_of z) (shown_of z q')) (sym r.0) refl)

  pub read_outcome : figures g.length g.count ≡ true → (before : List Ask) (n : ℕ) (q' : Ask) (a : Option Answer) → Right (fresh g) before (ask_read n (replicate g.length 0)) q' a
      → (answer_of a ≡ store_answer g n g.length) × Shows g before n (answer_of a) (shown_of a q')
  read_outcome f before n q' a r =
      let w = read_by f before n (replicate g.length 0) (refusal (fresh g) n (length {A = ℕ} (replicate g.length 0))) q' a r in
      (w.0 ∙ store_said n (length {A = ℕ} (replicate g.length 0)) ∙ ap (store_answer g n) (length-replicate g.length 0), w.1)
