-- The rounds of Speck that are left. Assumes nothing.
use Rattle.std.proofs.Common.{◌≡◌, ℕ, suc, ◌+◌, ◌-◌, ◌%◌, ◌^◌, ◌<◌, ◌≤◌, ap, add-one, arith}
use lib.Bits.{bit_xor}
use Rattle.elements.specs.declared.values.Block.{Block}
use Rattle.ciphers.specs.Speck.{Pair, halves, joined, rotated_left, rotated_right, round, round_keys, rounds, speck_with}

-- a round, with its rotations done
pub round_is : (w : Pair) (k right left : ℕ) → right ≡ rotated_right 8 w.u → left ≡ rotated_left 3 w.v
    → ◌≡◌ {A = Pair} (record { u = bit_xor ((right + w.v) % 2 ^ 64) k; v = bit_xor left (bit_xor ((right + w.v) % 2 ^ 64) k) }) (round k w)
unfolding round
round_is w k right left p q = rw (p, q)

-- one round, of the text under k and of the key under its number
pub more : (i : ℕ) (key text key' text' : Pair) → i < 32 → key' ≡ round i key → text' ≡ round key.v text
    → rounds (round_keys (32 - (i + 1)) (i + 1) key') text' ≡ rounds (round_keys (32 - i) i key) text
unfolding round_keys rounds
more i key text key' text' h p q =
    let e : 32 - i ≡ suc (32 - (i + 1)) = omega arith in
    rw (p, q, e, add-one i)

-- none is left
pub all : (i : ℕ) (key text : Pair) → 32 ≤ i → rounds (round_keys (32 - i) i key) text ≡ text
unfolding round_keys rounds
all i key text h =
    let e : 32 - i ≡ 0 = omega arith in
    rw e

pub whole : (key text : Pair) (x : Block) → text ≡ rounds (round_keys 32 0 key) (halves x) → joined text ≡ speck_with key x
unfolding speck_with
whole key text x e = ap joined e
