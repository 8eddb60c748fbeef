-- What an element type is. Assumes nothing.
use Rattle.std.specs.Prelude.{◌≡◌}

-- a zero, a one, a sum and a product
pub record Operations (E : Type 0) : Type 0 where
  pub zero : E
  pub one : E
  pub sum : E → E → E
  pub product : E → E → E

-- they form a commutative semiring
pub record Laws {E : Type 0} (o : Operations E) : Type 0 where
  pub sum_assoc : (x y z : E) → o.sum (o.sum x y) z ≡ o.sum x (o.sum y z)
  pub sum_comm : (x y : E) → o.sum x y ≡ o.sum y x
  pub sum_zero : (x : E) → o.sum o.zero x ≡ x
  pub product_assoc : (x y z : E) → o.product (o.product x y) z ≡ o.product x (o.product y z)
  pub product_comm : (x y : E) → o.product x y ≡ o.product y x
  pub product_one : (x : E) → o.product o.one x ≡ x
  pub product_zero : (x : E) → o.product o.zero x ≡ o.zero
  pub distributes : (x y z : E) → o.product x (o.sum y z) ≡ o.sum (o.product x y) (o.product x z)
