-- Enciphering layers and windows, stacked on a sector store. Assumes nothing.
use Rattle.std.specs.Prelude.{◌≡◌, ℕ, ◌+◌, ◌%◌, ◌≤◌, min, cond, List, [], ◌∷◌, Some, None, Option, nat_le}
use Rattle.elements.specs.declared.values.Block.{Block}
use Rattle.sector.specs.Texts.{enciphered_bytes, deciphered_bytes}
use Rattle.sector.specs.Transform.{tweak}
use Rattle.stores.specs.declared.fault.Fault.{Fault}
use Rattle.stores.specs.Stores.{Store, put}

-- a layer: one that enciphers, by its block function and its hash, or a window, by its base and its count
pub data Layer : Type 0 where
  enciphering : (Block → Block) → (Block → List Block → Block) → Layer
  window : ℕ → ℕ → Layer

-- layers, the topmost first, and the store on which the lowest of them stands
pub record Stack : Type 0 where
  pub layers : List Layer
  pub lowest : Store

-- the number that sector n of the topmost layer has in the lowest store: each window adds its base
abbrev pub reach : List Layer → ℕ → ℕ
reach [] n = n
reach (enciphering F g ∷ ls) n = reach ls n
reach (window b k ∷ ls) n = reach ls (b + n)

-- what the bytes of sector n become below: each enciphering layer enciphers them with its own number of the sector
abbrev pub down : List Layer → ℕ → List ℕ → List ℕ
down [] n xs = xs
down (enciphering F g ∷ ls) n xs = down ls n (enciphered_bytes F g (tweak n) xs)
down (window b k ∷ ls) n xs = down ls (b + n) xs

-- what bytes of the lowest store are as sector n: deciphered layer over layer, from there up
abbrev pub up : List Layer → ℕ → List ℕ → List ℕ
up [] n xs = xs
up (enciphering F g ∷ ls) n xs = deciphered_bytes F g (tweak n) (up ls n xs)
up (window b k ∷ ls) n xs = up ls (b + n) xs

-- how many sectors there are: as many as below, and as the window says; a window that does not lie within the store
-- below is empty
abbrev pub count_of : List Layer → ℕ → ℕ
count_of [] c = c
count_of (enciphering F g ∷ ls) c = count_of ls c
count_of (window b k ∷ ls) c = cond (nat_le (b + k) (count_of ls c)) k 0

-- the layer number is one more than below, and stops at 65,535
abbrev pub layer_of : List Layer → ℕ → ℕ
layer_of [] l = l
layer_of (x ∷ ls) l = min (layer_of ls l + 1) 65535

-- layers on a sector store are a sector store
abbrev pub stacked : List Layer → Store → Store
stacked ls s = record {
  count = count_of ls s.count;
  size = s.size;
  layer = layer_of ls s.layer;
  bytes = λ n. up ls n (s.bytes (reach ls n));
  failed = λ n. s.failed (reach ls n);
}

-- the store that a stack is
abbrev pub store : Stack → Store
store p = stacked p.layers p.lowest

-- a store with no layer on it
abbrev pub alone : Store → Stack
alone s = record { layers = []; lowest = s }

-- one layer more
abbrev pub over : Layer → Stack → Stack
over l p = record { layers = l ∷ p.layers; lowest = p.lowest }

-- one enciphering layer on a store: its sector n is sector n below, deciphered with n as the sector number
abbrev pub cipher_store : (Block → Block) → (Block → List Block → Block) → Store → Store
cipher_store F g s = record {
  count = s.count;
  size = s.size;
  layer = min (s.layer + 1) 65535;
  bytes = λ n. deciphered_bytes F g (tweak n) (s.bytes n);
  failed = s.failed;
}

-- one window on a store: its sector i is sector base + i below; one that reaches past the store below is empty
abbrev pub window_store : ℕ → ℕ → Store → Store
window_store b k s = record {
  count = cond (nat_le (b + k) s.count) k 0;
  size = s.size;
  layer = min (s.layer + 1) 65535;
  bytes = λ i. s.bytes (b + i);
  failed = λ i. s.failed (b + i);
}

-- the figures that a sector store may have
pub record Sound (s : Store) : Type 0 where
  pub few : s.count ≤ 65536
  pub long : 64 ≤ s.size
  pub short : s.size ≤ 4096
  pub even : s.size % 16 ≡ 0
  pub low : s.layer ≤ 65535

-- what an accepted write makes of a stack: one sector of the lowest store has other bytes
abbrev pub written : Stack → ℕ → List ℕ → Stack
written p n xs = record { layers = p.layers; lowest = put p.lowest (reach p.layers n) (down p.layers n xs) }

-- what a write makes of a stack: where it is refused, nothing changes
abbrev pub after_write : Option Fault → Stack → ℕ → List ℕ → Stack
after_write None p n xs = written p n xs
after_write (Some f) p n xs = p
