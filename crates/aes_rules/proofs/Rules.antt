-- The tables of AES by their rules. Assumes nothing.
use Rattle.std.proofs.Common.{◌≡◌, ℕ, zero, suc, ◌+◌, ◌-◌, ◌<◌, ◌≤◌, true, false, T, eqb, ltb, List, length, get_or, Some, Option, unwrap_or, sym, refl, ap, ◌∙◌, arith, eqb→eq, rules}
use Rattle.elements.specs.Field.{double, times}
use Rattle.elements.specs.Values.{byte, byte_operations}
use Rattle.elements.specs.declared.values.Byte.{Byte}
use Rattle.elements.specs.Instances.{byte_whole}
use Rattle.aes_rules.specs.Aes.{squares, inverse, affine, Inverse, round_constant}
use Rattle.aes_rules.specs.Tables.{unit, every, substitutes, raises, constant_of}
use Rattle.aes_rules.proofs.Table.{both_left, both_right, at_each}

-- bytes of one value are one
pub same : (x y : Byte) → x.value ≡ y.value → x ≡ y
same x y p = sym (byte_whole x) ∙ ap byte p ∙ byte_whole y

-- ---- the S-box

-- where x is not 0
inverts_at : (x : Byte) (k : ℕ) → x.value ≡ k → (x ≡ byte 0 → ⊥) → T (eqb (byte_operations.product (byte k) (inverse (byte k))).value (unit k)) → byte_operations.product x (inverse x) ≡ byte_operations.one
inverts_at x zero e n t = absurd (n (same x (byte 0) e))
inverts_at x (suc k) e n t =
    let whole : byte (suc k) ≡ x = ap byte (sym e) ∙ byte_whole x in
    ap (λ (y : Byte). byte_operations.product y (inverse y)) (sym whole)
    ∙ same (byte_operations.product (byte (suc k)) (inverse (byte (suc k)))) (byte 1) (eqb→eq _ 1 t)

module _ (box : List ℕ) (x y : Byte) (read : y ≡ byte (get_or box x.value 0)) (all : length box ≡ 256) (test : T (every substitutes 0 box)) where
  passes : T (substitutes x.value (get_or box x.value 0))
  passes = let fits = x.fits in at_each substitutes box test x.value (omega arith)

  pub substituted : y ≡ affine (inverse x)
  substituted =
      let k : ℕ = x.value in
      read ∙ ap byte (eqb→eq (get_or box k 0) (affine (inverse (byte k))).value
      (both_left (eqb (get_or box k 0) (affine (inverse (byte k))).value) _ passes))
      ∙ byte_whole (affine (inverse (byte k))) ∙ ap (λ (y : Byte). affine (inverse y)) (byte_whole x)

  pub inverted : Inverse x (inverse x)
  unfolding double times squares inverse
  inverted = record {
    of_zero = λ e. ap inverse e ∙ same (inverse (byte 0)) (byte 0) refl;
    of_others = λ n. inverts_at x x.value refl n
        (both_right (eqb (get_or box x.value 0) (affine (inverse (byte x.value))).value) _ passes);
  }

-- ---- the round constants

pub raised : (table : List ℕ) (j : ℕ) (y : Byte) → y ≡ byte (get_or table (j - 1) 0) → length table ≡ 10 → T (every raises 0 table) → 1 ≤ j → j ≤ 10 → y ≡ round_constant j
raised table j y read all test l u =
    let e : j - 1 + 1 ≡ j = omega arith in
    let h : j - 1 < length table = omega arith in
    read ∙ ap byte (eqb→eq (get_or table (j - 1) 0) (round_constant (j - 1 + 1)).value (at_each raises table test (j - 1) h) ∙ ap (λ (i : ℕ). (round_constant i).value) e)
    ∙ byte_whole (round_constant j)

module _ (j : ℕ) where
  pub constant_some : 1 ≤ j → j ≤ 10 → constant_of j ≡ Some (round_constant j)
  constant_some l u =
      let f : ltb 0 j ≡ true = search rules in
      let g : ltb 10 j ≡ false = search rules in
      rw (f, g)

  -- what is read where there is one
  pub constant_is : (x : Byte) → 1 ≤ j → j ≤ 10 → constant_of j ≡ Some x → x ≡ round_constant j
  constant_is x l u e = ap (λ (o : Option Byte). unwrap_or o x) (sym e ∙ constant_some l u)
