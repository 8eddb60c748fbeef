-- Laws of the values that fit, carried over to a type whose values all fit. Assumes nothing.
use Rattle.std.specs.Prelude.{◌≡◌}
use Rattle.std.proofs.Common.{sym, ap, ap₂, ◌∙◌}
use Rattle.elements.specs.Operations.{Operations, Laws}

-- the laws, of the values that fit
pub record LawsOn {V : Type 0} (Fits : V → Type 0) (o : Operations V) : Type 0 where
  pub sum_fits : (x y : V) → Fits x → Fits y → Fits (o.sum x y)
  pub product_fits : (x y : V) → Fits x → Fits y → Fits (o.product x y)
  pub zero_fits : Fits o.zero
  pub one_fits : Fits o.one
  pub sum_assoc : (x y z : V) → Fits x → Fits y → Fits z → o.sum (o.sum x y) z ≡ o.sum x (o.sum y z)
  pub sum_comm : (x y : V) → Fits x → Fits y → o.sum x y ≡ o.sum y x
  pub sum_zero : (x : V) → Fits x → o.sum o.zero x ≡ x
  pub product_assoc : (x y z : V) → Fits x → Fits y → Fits z → o.product (o.product x y) z ≡ o.product x (o.product y z)
  pub product_comm : (x y : V) → Fits x → Fits y → o.product x y ≡ o.product y x
  pub product_one : (x : V) → Fits x → o.product o.one x ≡ x
  pub product_zero : (x : V) → Fits x → o.product o.zero x ≡ o.zero
  pub distributes : (x y z : V) → Fits x → Fits y → Fits z → o.product x (o.sum y z) ≡ o.sum (o.product x y) (o.product x z)

module _ {V X : Type 0} (Fits : V → Type 0) (value : X → V) (of : V → X)
    (fits : (x : X) → Fits (value x)) (value_of_lem : (v : V) → Fits v → value (of v) ≡ v) (of-value : (x : X) → of (value x) ≡ x)
    (o : Operations V) (laws : LawsOn Fits o) where
  -- the operations of the type
  abbrev pub carried : Operations X
  carried = record {
    zero = of o.zero;
    one = of o.one;
    sum = λ x y. of (o.sum (value x) (value y));
    product = λ x y. of (o.product (value x) (value y));
  }

  at_sum : (x y : X) → value (of (o.sum (value x) (value y))) ≡ o.sum (value x) (value y)
  at_sum x y = value_of_lem _ (laws.sum_fits (value x) (value y) (fits x) (fits y))

  at_product : (x y : X) → value (of (o.product (value x) (value y))) ≡ o.product (value x) (value y)
  at_product x y = value_of_lem _ (laws.product_fits (value x) (value y) (fits x) (fits y))

  pub lawful : Laws carried
  lawful = record {
    sum_assoc = λ x y z. ap of (ap (λ (v : V). o.sum v (value z)) (at_sum x y)
        ∙ laws.sum_assoc (value x) (value y) (value z) (fits x) (fits y) (fits z) ∙ ap (o.sum (value x)) (sym (at_sum y z)));
    sum_comm = λ x y. ap of (laws.sum_comm (value x) (value y) (fits x) (fits y));
    sum_zero = λ x. ap of (ap (λ (v : V). o.sum v (value x)) (value_of_lem o.zero laws.zero_fits) ∙ laws.sum_zero (value x) (fits x)) ∙ of-value x;
    product_assoc = λ x y z. ap of (ap (λ (v : V). o.product v (value z)) (at_product x y)
        ∙ laws.product_assoc (value x) (value y) (value z) (fits x) (fits y) (fits z) ∙ ap (o.product (value x)) (sym (at_product y z)));
    product_comm = λ x y. ap of (laws.product_comm (value x) (value y) (fits x) (fits y));
    product_one = λ x. ap of (ap (λ (v : V). o.product v (value x)) (value_of_lem o.one laws.one_fits) ∙ laws.product_one (value x) (fits x)) ∙ of-value x;
    product_zero = λ x. ap of (ap (λ (v : V). o.product v (value x)) (value_of_lem o.zero laws.zero_fits) ∙ laws.product_zero (value x) (fits x));
    distributes = λ x y z. ap of (ap (o.product (value x)) (at_sum y z)
        ∙ laws.distributes (value x) (value y) (value z) (fits x) (fits y) (fits z)
        ∙ ap₂ o.sum (sym (at_product x y)) (sym (at_product x z)));
  }
