-- The laws of reading lines. Assumes nothing.
use Rattle.std.proofs.Common.{◌≡◌, ℕ, ◌<◌, Bool, true, false, cond, eqb, List, [], ◌∷◌, ◌++◌, map, length, Some, None, decimal, Option, sym, refl, ap, ◌∙◌, subst, ap₂, arith}
use Rattle.std.proofs.lemmas.List.{length-map}
use Rattle.std.proofs.lemmas.Bool.{cond-true}
use Rattle.std.specs.Option.{option_map}
use Rattle.elements.specs.declared.values.Block.{Block}
use Rattle.ciphers.specs.declared.choice.Cipher.{Cipher}
use Rattle.ciphers.specs.declared.choice.Cipher.TheVariants.{Aes as AesCipher, Speck as SpeckCipher}
use Rattle.hashing.specs.declared.choice.AnyHash.{AnyHash}
use Rattle.hashing.specs.declared.choice.AnyHash.TheVariants.{Horner as HornerHash, Brw as BrwHash}
use Rattle.text.specs.Hex.{block_word, list_word}
use Rattle.answers.specs.Kinds.{kind_word, kind_named, cipher_kind, hash_kind, cipher_by, hash_by}
use Rattle.text.specs.Numbers.{number_word}
use Rattle.answers.specs.Reading.{Known, of_aes, of_speck, of_product, of_horner, of_brw, of_sector, Reading, passed, understood, not_understood, Three, three, with_all, answer_of, answer_if, by_kind, Six, six, sector_texts, then, sector_of, sector_or, known, remark, reading, read}
use Rattle.answers.specs.Rendering.{opening, field_words, line_of, Bounded, Written, ReadingLaws}
use Rattle.text.specs.Writing.{small_digit, capital_digit, block_text, list_text, small, AllUnspaced}
use Rattle.text.specs.Words.{words, spaced}
use Rattle.answers.specs.declared.kinds.Kind.{Kind}
use Rattle.answers.specs.declared.kinds.Kind.TheVariants.{Aes, Speck, Product, Horner, Brw, Sector}
use Rattle.text.proofs.Decimals.{read_number_text, number_word_text, small_number_text, number_text_small, unspaced_number}
use Rattle.text.proofs.Hexes.{small_small, small_capital}
use Rattle.answers.proofs.Names.{named_is, named_word, unspaced_kind}
use Rattle.text.proofs.Renderings.{read_block_text, block_word_text, block_word_small, small_block_text, read_list_text, list_word_text, list_word_small, small_list_text, unspaced_block, unspaced_list}
use Rattle.text.proofs.Spaces.{words_spaced, spaced_words, words_unspaced, all_unspaced_small}

-- ---- three fields

pub record All {X Y Z R : Type 0} (f : X → Y → Z → R) (x : Option X) (y : Option Y) (z : Option Z) (r : R) : Type 0 where
  pub first : X
  pub second : Y
  pub third : Z
  pub first_is : x ≡ Some first
  pub second_is : y ≡ Some second
  pub third_is : z ≡ Some third
  pub whole : f first second third ≡ r

all_there : {X Y Z R : Type 0} (f : X → Y → Z → R) (x : Option X) (y : Option Y) (z : Option Z) (r : R) → with_all f x y z ≡ Some r → All f x y z r
all_there f None y z r e = absurd (cc)
all_there f (Some a) None z r e = absurd (cc)
all_there f (Some a) (Some b) None r e = absurd (cc)
all_there f (Some a) (Some b) (Some c) r e =
    let w : f a b c ≡ r = cc in
    record { first = a; second = b; third = c; first_is = refl; second_is = refl; third_is = refl; whole = w }

-- three words in a list
abbrev listed : Three → List (List ℕ)
listed w = w.first ∷ (w.second ∷ (w.third ∷ []))

three_is : (ws : List (List ℕ)) (w : Three) → three ws ≡ Some w → ws ≡ listed w
three_is [] w e = absurd (cc)
three_is (a ∷ []) w e = absurd (cc)
three_is (a ∷ (b ∷ [])) w e = absurd (cc)
three_is (a ∷ (b ∷ (c ∷ []))) w e =
    let t : Three = record { first = a; second = b; third = c } in
    let s : t ≡ w = cc in
    ap listed s
three_is (a ∷ (b ∷ (c ∷ (d ∷ ws)))) w e = absurd (cc)

-- ---- what is understood is written so

-- the fields of an answer k, read from words w by the kind j
pub record Of (j : Kind) (w : Three) (k : Known) : Type 0 where
  pub begins : kind_word j ∷ [] ≡ opening k
  pub digits : map (map small) (listed w) ≡ field_words small_digit k
  pub bounded : Bounded k

-- what a way of writing three fields as f of them has to show
abbrev Renders : {Y : Type 0} → Kind → (Block → Y → Block → Known) → (Y → List ℕ) → Type 0
Renders {Y = Y} j f text =
    (a : Block) (b : Y) (c : Block)
    → (kind_word j ∷ [] ≡ opening (f a b c)) × (block_text small_digit a ∷ (text b ∷ (block_text small_digit c ∷ [])) ≡ field_words small_digit (f a b c)) × Bounded (f a b c)

fields_text : {Y : Type 0} (j : Kind) (f : Block → Y → Block → Known) (text : Y → List ℕ) (word : List ℕ → Option Y) (w : Three) (k : Known)
    → ((v : List ℕ) (y : Y) → word v ≡ Some y → map small v ≡ text y)
    → Renders j f text
    → with_all f (block_word w.first) (word w.second) (block_word w.third) ≡ Some k
    → Of j w k
fields_text j f text word w k t s e =
    let p = all_there f (block_word w.first) (word w.second) (block_word w.third) k e in
    let q = s p.first p.second p.third in
    let a = block_word_text w.first p.first p.first_is in
    let b = t w.second p.second p.second_is in
    let c = block_word_text w.third p.third p.third_is in
    record {
      begins = q.0 ∙ ap opening p.whole;
      digits = ap₂ ◌∷◌ a (ap₂ ◌∷◌ b (ap (λ x. x ∷ []) c)) ∙ q.1 ∙ ap (field_words small_digit) p.whole;
      bounded = subst Bounded p.whole q.2;
    }

answer_text : (j : Kind) (w : Three) (k : Known) → answer_of j w ≡ Some k → Of j w k
answer_text Aes w k e = fields_text Aes of_aes (block_text small_digit) block_word w k block_word_text (λ a b c. (refl, refl, tt)) e
answer_text Speck w k e = fields_text Speck of_speck (block_text small_digit) block_word w k block_word_text (λ a b c. (refl, refl, tt)) e
answer_text Product w k e = fields_text Product of_product (block_text small_digit) block_word w k block_word_text (λ a b c. (refl, refl, tt)) e
answer_text Horner w k e = fields_text Horner of_horner (list_text small_digit) list_word w k list_word_text (λ a b c. (refl, refl, tt)) e
answer_text Brw w k e = fields_text Brw of_brw (list_text small_digit) list_word w k list_word_text (λ a b c. (refl, refl, tt)) e
answer_text Sector w k e = absurd (cc)

-- words that say the answer k
pub record Says (k : Known) (ws : List (List ℕ)) : Type 0 where
  pub fields : List (List ℕ)
  pub whole : ws ≡ opening k ++ fields
  pub digits : map (map small) fields ≡ field_words small_digit k
  pub bounded : Bounded k

said_by : (v : List ℕ) (ws : List (List ℕ)) (k : Known) (o : Option Kind) (t : Option Three)
    → kind_named v ≡ o → three ws ≡ t → answer_if o t ≡ Some k → Says k (v ∷ ws)
said_by v ws k None t p q e = absurd (cc)
said_by v ws k (Some j) None p q e = absurd (cc)
said_by v ws k (Some j) (Some w) p q e =
    let a = answer_text j w k e in
    record {
      fields = ws;
      whole = ap (λ x. x ∷ ws) (named_is v j p) ∙ ap (λ (l : List (List ℕ)). l ++ ws) a.begins;
      digits = ap (map (map small)) (three_is ws w q) ∙ a.digits;
      bounded = a.bounded;
    }

kind_says : (ws : List (List ℕ)) (k : Known) → by_kind ws ≡ Some k → Says k ws
kind_says [] k e = absurd (cc)
kind_says (v ∷ ws) k e = said_by v ws k (kind_named v) (three ws) refl refl e

-- ---- sectors

-- six words in a list
abbrev listed_six : Six → List (List ℕ)
listed_six w = w.cipher ∷ (w.hash ∷ (w.key ∷ listed w.fields))

six_by : (a b c : List ℕ) (ws : List (List ℕ)) (o : Option Three) (w : Six)
    → three ws ≡ o → option_map (λ (t : Three). let s : Six = record { cipher = a; hash = b; key = c; fields = t } in s) o ≡ Some w → a ∷ (b ∷ (c ∷ ws)) ≡ listed_six w
six_by a b c ws None w p e = absurd (cc)
six_by a b c ws (Some t) w p e =
    let s : Six = record { cipher = a; hash = b; key = c; fields = t } in
    let q : s ≡ w = cc in
    ap (λ l. a ∷ (b ∷ (c ∷ l))) (three_is ws t p) ∙ ap listed_six q

six_is : (ws : List (List ℕ)) (w : Six) → six ws ≡ Some w → ws ≡ listed_six w
six_is [] w e = absurd (cc)
six_is (a ∷ []) w e = absurd (cc)
six_is (a ∷ (b ∷ [])) w e = absurd (cc)
six_is (a ∷ (b ∷ (c ∷ ws))) w e = six_by a b c ws (three ws) w refl e

-- the words of ciphers and hashes

cipher_is : (v : List ℕ) (c : Cipher) (o : Option Kind) → kind_named v ≡ o → cipher_by o ≡ Some c → v ≡ kind_word (cipher_kind c)
cipher_is v c None p e = absurd (cc)
cipher_is v c (Some Aes) p e = let s : AesCipher ≡ c = cc in named_is v Aes p ∙ ap (λ x. kind_word (cipher_kind x)) s
cipher_is v c (Some Speck) p e = let s : SpeckCipher ≡ c = cc in named_is v Speck p ∙ ap (λ x. kind_word (cipher_kind x)) s
cipher_is v c (Some Product) p e = absurd (cc)
cipher_is v c (Some Horner) p e = absurd (cc)
cipher_is v c (Some Brw) p e = absurd (cc)
cipher_is v c (Some Sector) p e = absurd (cc)

hash_is : (v : List ℕ) (g : AnyHash) (o : Option Kind) → kind_named v ≡ o → hash_by o ≡ Some g → v ≡ kind_word (hash_kind g)
hash_is v g None p e = absurd (cc)
hash_is v g (Some Aes) p e = absurd (cc)
hash_is v g (Some Speck) p e = absurd (cc)
hash_is v g (Some Product) p e = absurd (cc)
hash_is v g (Some Horner) p e = let s : HornerHash ≡ g = cc in named_is v Horner p ∙ ap (λ x. kind_word (hash_kind x)) s
hash_is v g (Some Brw) p e = let s : BrwHash ≡ g = cc in named_is v Brw p ∙ ap (λ x. kind_word (hash_kind x)) s
hash_is v g (Some Sector) p e = absurd (cc)

cipher_read : (c : Cipher) → cipher_by (kind_named (kind_word (cipher_kind c))) ≡ Some c
cipher_read AesCipher = ap cipher_by (named_word Aes)
cipher_read SpeckCipher = ap cipher_by (named_word Speck)

hash_read : (g : AnyHash) → hash_by (kind_named (kind_word (hash_kind g))) ≡ Some g
hash_read HornerHash = ap hash_by (named_word Horner)
hash_read BrwHash = ap hash_by (named_word Brw)

-- things that are there

pub record There {X R : Type 0} (o : Option X) (f : X → Option R) (r : R) : Type 0 where
  pub value : X
  pub is : o ≡ Some value
  pub rest : f value ≡ Some r

there : {X R : Type 0} (o : Option X) (f : X → Option R) (r : R) → then o f ≡ Some r → There o f r
there None f r e = absurd (cc)
there (Some x) f r e = record { value = x; is = refl; rest = e }

picked : (b : Bool) (j k : Known) → cond b (Some j) None ≡ Some k → (b ≡ true) × (j ≡ k)
picked true j k e = (refl, cc)
picked false j k e = absurd (cc)

sector_says : (w : Six) (k : Known) → sector_of w ≡ Some k → Says k (listed_six w)
sector_says w k e =
    let a = there (cipher_by (kind_named w.cipher)) _ k e in
    let b = there (hash_by (kind_named w.hash)) _ k a.rest in
    let c = there (block_word w.key) _ k b.rest in
    let n = there (number_word w.fields.first) _ k c.rest in
    let p = there (list_word w.fields.second) _ k n.rest in
    let q = there (list_word w.fields.third) _ k p.rest in
    let m = number_word_text w.fields.first n.value n.is in
    let j : Known = of_sector a.value b.value c.value n.value p.value q.value in
    let whole = picked (sector_texts p.value q.value) j k q.rest in
    subst (λ (i : Known). Says i (listed_six w)) whole.1
    (record {
      fields = w.key ∷ listed w.fields;
      whole = ap₂ (λ (x y : List ℕ). x ∷ (y ∷ (w.key ∷ listed w.fields))) (cipher_is w.cipher a.value (kind_named w.cipher) refl a.is)
          (hash_is w.hash b.value (kind_named w.hash) refl b.is);
      digits = ap₂ ◌∷◌ (block_word_text w.key c.value c.is)
          (ap₂ ◌∷◌ (ap (map small) m.0 ∙ small_number_text n.value m.1)
          (ap₂ ◌∷◌ (list_word_text w.fields.second p.value p.is) (ap (λ x. x ∷ []) (list_word_text w.fields.third q.value q.is))));
      bounded = (m.1, whole.0);
    })

says_by : (ws : List (List ℕ)) (k : Known) (o : Option Six) → six ws ≡ o → sector_or o (by_kind ws) ≡ Some k → Says k ws
says_by ws k None p e = kind_says ws k e
says_by ws k (Some w) p e = subst (Says k) (sym (six_is ws w p)) (sector_says w k e)

known_says : (ws : List (List ℕ)) (k : Known) → known ws ≡ Some k → Says k ws
known_says ws k e = says_by ws k (six ws) refl e

found : (remark : Bool) (o : Option Known) (k : Known) → cond remark passed (reading o) ≡ understood k → o ≡ Some k
found true o k e = cc
found false None k e = cc
found false (Some j) k e = cc

pub only : (line : List ℕ) (k : Known) → read line ≡ understood k → Written k line
only line k e =
    let s = known_says (words line) k (found (remark line) (known (words line)) k e) in
    record { fields = s.fields; whole = sym (spaced_words line) ∙ ap spaced s.whole; digits = s.digits; bounded = s.bounded }

-- ---- what is written so is understood

abbrev small_three : Three → Three
small_three w = record { first = map small w.first; second = map small w.second; third = map small w.third }

three_small : (ws : List (List ℕ)) → three (map (map small) ws) ≡ option_map small_three (three ws)
three_small [] = refl
three_small (a ∷ []) = refl
three_small (a ∷ (b ∷ [])) = refl
three_small (a ∷ (b ∷ (c ∷ []))) = refl
three_small (a ∷ (b ∷ (c ∷ (d ∷ ws)))) = refl

with_small : {Y : Type 0} (f : Block → Y → Block → Known) (word : List ℕ → Option Y) → ((v : List ℕ) → word (map small v) ≡ word v) → (w : Three)
    → with_all f (block_word (map small w.first)) (word (map small w.second)) (block_word (map small w.third))
    ≡ with_all f (block_word w.first) (word w.second) (block_word w.third)
with_small f word h w =
    ap₂ (λ x z. with_all f x (word (map small w.second)) z) (block_word_small w.first) (block_word_small w.third)
    ∙ ap (λ y. with_all f (block_word w.first) y (block_word w.third)) (h w.second)

answer_small : (j : Kind) (w : Three) → answer_of j (small_three w) ≡ answer_of j w
answer_small Aes w = with_small of_aes block_word block_word_small w
answer_small Speck w = with_small of_speck block_word block_word_small w
answer_small Product w = with_small of_product block_word block_word_small w
answer_small Horner w = with_small of_horner list_word list_word_small w
answer_small Brw w = with_small of_brw list_word list_word_small w
answer_small Sector w = refl

if_small : (j : Kind) (t : Option Three) → answer_if (Some j) (option_map small_three t) ≡ answer_if (Some j) t
if_small j None = refl
if_small j (Some w) = answer_small j w

with_texts : {Y : Type 0} (f : Block → Y → Block → Known) (word : List ℕ → Option Y) (text : Y → List ℕ) → ((y : Y) → word (text y) ≡ Some y)
    → (a : Block) (b : Y) (c : Block) → with_all f (block_word (block_text small_digit a)) (word (text b)) (block_word (block_text small_digit c)) ≡ Some (f a b c)
with_texts f word text h a b c =
    ap₂ (λ x z. with_all f x (word (text b)) z) (read_block_text a) (read_block_text c) ∙ ap (λ y. with_all f (Some a) y (Some c)) (h b)

-- three words after the first are no sector's
six_none : (v : List ℕ) (fs : List (List ℕ)) → length fs ≡ 3 → six (v ∷ fs) ≡ None
six_none v [] l = refl
six_none v (a ∷ []) l = refl
six_none v (a ∷ (b ∷ [])) l = refl
six_none v (a ∷ (b ∷ (c ∷ []))) l = refl
six_none v (a ∷ (b ∷ (c ∷ (d ∷ fs)))) l = absurd (omega (arith, l))

kind_known : (j : Kind) (k : Known) (fs : List (List ℕ))
    → length (field_words small_digit k) ≡ 3
    → answer_if (Some j) (three (field_words small_digit k)) ≡ Some k
    → map (map small) fs ≡ field_words small_digit k
    → known (kind_word j ∷ fs) ≡ Some k
kind_known j k fs l e d =
    ap (λ o. sector_or o (answer_if (kind_named (kind_word j)) (three fs))) (six_none (kind_word j) fs (sym (length-map fs (map small)) ∙ ap length d ∙ l))
    ∙ ap (λ o. answer_if o (three fs)) (named_word j) ∙ sym (if_small j (three fs))
    ∙ ap (answer_if (Some j)) (sym (three_small fs) ∙ ap three d) ∙ e

-- all six parts of a sector
chain : {X Y Z U V W R : Type 0} (f : X → Y → Z → U → V → W → Option R) (a : Option X) (b : Option Y) (c : Option Z) (d : Option U) (p : Option V) (q : Option W)
    (x : X) (y : Y) (z : Z) (u : U) (v : V) (w : W)
    → a ≡ Some x → b ≡ Some y → c ≡ Some z → d ≡ Some u → p ≡ Some v → q ≡ Some w
    → then a (λ x. then b (λ y. then c (λ z. then d (λ u. then p (λ v. then q (λ w. f x y z u v w)))))) ≡ f x y z u v w
chain f a b c d p q x y z u v w ea eb ec ed ep eq = rw (ea, eb, ec, ed, ep, eq)

sector_known : (c : Cipher) (g : AnyHash) (key : Block) (n : ℕ) (p q : List Block) (fs : List (List ℕ))
    → Bounded (of_sector c g key n p q)
    → map (map small) fs ≡ field_words small_digit (of_sector c g key n p q)
    → known (opening (of_sector c g key n p q) ++ fs) ≡ Some (of_sector c g key n p q)
sector_known c g key n p q [] h d = absurd (cc)
sector_known c g key n p q (x ∷ []) h d = absurd (cc)
sector_known c g key n p q (x ∷ (y ∷ [])) h d = absurd (cc)
sector_known c g key n p q (x ∷ (y ∷ (s ∷ []))) h d = absurd (cc)
sector_known c g key n p q (x ∷ (y ∷ (s ∷ (t ∷ [])))) h d =
    let dx : map small x ≡ block_text small_digit key = cc in
    let dy : map small y ≡ decimal n = cc in
    let ds : map small s ≡ list_text small_digit p = cc in
    let dt : map small t ≡ list_text small_digit q = cc in
    chain (λ c g key n p q. cond (sector_texts p q) (Some (of_sector c g key n p q)) None)
    (cipher_by (kind_named (kind_word (cipher_kind c)))) (hash_by (kind_named (kind_word (hash_kind g)))) (block_word x) (number_word y) (list_word s) (list_word t)
    c g key n p q
    (cipher_read c) (hash_read g)
    (sym (block_word_small x) ∙ ap block_word dx ∙ read_block_text key)
    (ap number_word (number_text_small y n h.0 dy) ∙ read_number_text n h.0)
    (sym (list_word_small s) ∙ ap list_word ds ∙ read_list_text p)
    (sym (list_word_small t) ∙ ap list_word dt ∙ read_list_text q)
    ∙ cond-true (sector_texts p q) (Some (of_sector c g key n p q)) None h.1
sector_known c g key n p q (x ∷ (y ∷ (s ∷ (t ∷ (r ∷ fs))))) h d = absurd (cc)

fields_known : (k : Known) (fs : List (List ℕ)) → Bounded k → map (map small) fs ≡ field_words small_digit k → known (opening k ++ fs) ≡ Some k
fields_known (of_aes a b c) fs h d = kind_known Aes (of_aes a b c) fs refl (with_texts of_aes block_word (block_text small_digit) read_block_text a b c) d
fields_known (of_speck a b c) fs h d = kind_known Speck (of_speck a b c) fs refl (with_texts of_speck block_word (block_text small_digit) read_block_text a b c) d
fields_known (of_product a b c) fs h d = kind_known Product (of_product a b c) fs refl (with_texts of_product block_word (block_text small_digit) read_block_text a b c) d
fields_known (of_horner a b c) fs h d = kind_known Horner (of_horner a b c) fs refl (with_texts of_horner list_word (list_text small_digit) read_list_text a b c) d
fields_known (of_brw a b c) fs h d = kind_known Brw (of_brw a b c) fs refl (with_texts of_brw list_word (list_text small_digit) read_list_text a b c) d
fields_known (of_sector c g key n p q) fs h d = sector_known c g key n p q fs h d

remarkless : (c : ℕ) (v : List ℕ) (ws : List (List ℕ)) → eqb c 35 ≡ false → remark (spaced ((c ∷ v) ∷ ws)) ≡ false
remarkless c v [] e = e
remarkless c v (w ∷ ws) e = e

no_remark : (j : Kind) (ws : List (List ℕ)) → remark (spaced (kind_word j ∷ ws)) ≡ false
no_remark Aes ws = remarkless _ _ ws refl
no_remark Speck ws = remarkless _ _ ws refl
no_remark Product ws = remarkless _ _ ws refl
no_remark Horner ws = remarkless _ _ ws refl
no_remark Brw ws = remarkless _ _ ws refl
no_remark Sector ws = remarkless _ _ ws refl

-- a line that begins as an answer's does has its words, and is no remark
opened_by : (j : Kind) (ws : List (List ℕ)) → AllUnspaced ws → (words (spaced (kind_word j ∷ ws)) ≡ kind_word j ∷ ws) × (remark (spaced (kind_word j ∷ ws)) ≡ false)
opened_by j ws u = (words_spaced (kind_word j) ws (unspaced_kind j, u), no_remark j ws)

opened : (k : Known) (fs : List (List ℕ)) → AllUnspaced fs → (words (spaced (opening k ++ fs)) ≡ opening k ++ fs) × (remark (spaced (opening k ++ fs)) ≡ false)
opened (of_aes a b c) fs u = opened_by Aes fs u
opened (of_speck a b c) fs u = opened_by Speck fs u
opened (of_product a b c) fs u = opened_by Product fs u
opened (of_horner a b c) fs u = opened_by Horner fs u
opened (of_brw a b c) fs u = opened_by Brw fs u
opened (of_sector c g key n p q) fs u = opened_by (cipher_kind c) (kind_word (hash_kind g) ∷ fs) (unspaced_kind (hash_kind g), u)

fields_unspaced : (k : Known) → Bounded k → AllUnspaced (field_words small_digit k)
fields_unspaced (of_aes a b c) h = (unspaced_block a, (unspaced_block b, (unspaced_block c, tt)))
fields_unspaced (of_speck a b c) h = (unspaced_block a, (unspaced_block b, (unspaced_block c, tt)))
fields_unspaced (of_product a b c) h = (unspaced_block a, (unspaced_block b, (unspaced_block c, tt)))
fields_unspaced (of_horner a b c) h = (unspaced_block a, (unspaced_list b, (unspaced_block c, tt)))
fields_unspaced (of_brw a b c) h = (unspaced_block a, (unspaced_list b, (unspaced_block c, tt)))
fields_unspaced (of_sector c g key n p q) h = (unspaced_block key, (unspaced_number n h.0, (unspaced_list p, (unspaced_list q, tt))))

pub every : (line : List ℕ) (k : Known) → Written k line → read line ≡ understood k
every line k w =
    let fs : List (List ℕ) = w.fields in
    let o = opened k fs (all_unspaced_small fs (subst AllUnspaced (sym w.digits) (fields_unspaced k w.bounded))) in
    let here : remark line ≡ false = ap remark w.whole ∙ o.1 in
    let answer : known (words line) ≡ Some k = ap known (ap words w.whole ∙ o.0) ∙ fields_known k fs w.bounded w.digits in
    rw (here, answer)

reading_or : (o : Option Known) → ((k : Known) → reading o ≡ understood k → ⊥) → reading o ≡ not_understood
reading_or None h = refl
reading_or (Some k) h = absurd (h k refl)

others : (line : List ℕ) → remark line ≡ false → ((k : Known) → Written k line → ⊥) → read line ≡ not_understood
others line t h = rw t (reading_or (known (words line)) (λ k e. h k (only line k (rw t e))))

-- ---- renderings

small_fields : (d : ℕ → ℕ) → ((v : ℕ) → v < 16 → small (d v) ≡ small_digit v) → (k : Known) → Bounded k → map (map small) (field_words d k) ≡ field_words small_digit k
small_fields d h (of_aes a b c) u = ap₂ ◌∷◌ (small_block_text d h a) (ap₂ ◌∷◌ (small_block_text d h b) (ap (λ x. x ∷ []) (small_block_text d h c)))
small_fields d h (of_speck a b c) u = ap₂ ◌∷◌ (small_block_text d h a) (ap₂ ◌∷◌ (small_block_text d h b) (ap (λ x. x ∷ []) (small_block_text d h c)))
small_fields d h (of_product a b c) u = ap₂ ◌∷◌ (small_block_text d h a) (ap₂ ◌∷◌ (small_block_text d h b) (ap (λ x. x ∷ []) (small_block_text d h c)))
small_fields d h (of_horner a b c) u = ap₂ ◌∷◌ (small_block_text d h a) (ap₂ ◌∷◌ (small_list_text d h b) (ap (λ x. x ∷ []) (small_block_text d h c)))
small_fields d h (of_brw a b c) u = ap₂ ◌∷◌ (small_block_text d h a) (ap₂ ◌∷◌ (small_list_text d h b) (ap (λ x. x ∷ []) (small_block_text d h c)))
small_fields d h (of_sector c g key n p q) u =
    ap₂ ◌∷◌ (small_block_text d h key)
    (ap₂ ◌∷◌ (small_number_text n u.0) (ap₂ ◌∷◌ (small_list_text d h p) (ap (λ x. x ∷ []) (small_list_text d h q))))

read_back : (d : ℕ → ℕ) → ((v : ℕ) → v < 16 → small (d v) ≡ small_digit v) → (k : Known) → Bounded k → read (line_of d k) ≡ understood k
read_back d h k u = every (line_of d k) k (record { fields = field_words d k; whole = refl; digits = small_fields d h k u; bounded = u })

pub reading_laws : ReadingLaws
reading_laws = record {
  small_back = read_back small_digit small_small;
  capital_back = read_back capital_digit small_capital;
  only = only;
  every = every;
  others = others;
  rejoined = spaced_words;
  unspaced = words_unspaced;
}

-- the same of what a reader gives
pub as_written : (line : List ℕ) (r : Reading) → r ≡ read line → (k : Known) → (r ≡ understood k → Written k line) × (Written k line → r ≡ understood k)
as_written line r v k = ((λ e. only line k (sym v ∙ e)), (λ w. v ∙ every line k w))
