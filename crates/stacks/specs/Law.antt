-- The law over runs: what a list of calls, put to a stack in turn, comes to. It speaks of the calls, of the writes
-- accepted among them, and of what a text becomes below; not of how the calls are carried out. Assumes nothing.
use Rattle.std.specs.Prelude.{◌≡◌, ℕ, suc, ◌<◌, ◌≤◌, List, length, take, Some, None, Ok, Err, Option}
use Rattle.std.specs.List.{slice_get}
use Rattle.stores.specs.declared.fault.Fault.{Fault}
use Rattle.stores.specs.Stores.{Store, refusal, state, put}
use Rattle.stores.specs.Layers.{Layer, stacked, reach, down}
use Rattle.stacks.specs.declared.call.Answer.{Answer}
use Rattle.stacks.specs.declared.call.Answer.TheVariants.{Transfer, Number, State}
use Rattle.stacks.specs.declared.call.Entry.{Entry}
use Rattle.stacks.specs.Calls.{Ask, ask, asks, ask_count, ask_length, ask_layer, ask_state, ask_read, ask_write}

-- at place j of the calls stands a write of the bytes xs to sector n, and the store s accepts it
abbrev pub Takes : Store → List Ask → ℕ → ℕ → List ℕ → Type 0
Takes s qs j n xs = (slice_get qs j ≡ Some (ask_write n xs)) × (refusal s n (length xs) ≡ None)

-- xs are the bytes last accepted for sector n among the calls
pub record Last (s : Store) (qs : List Ask) (n : ℕ) (xs : List ℕ) : Type 0 where
  pub at : ℕ
  pub takes : Takes s qs at n xs
  pub none_later : (k : ℕ) (ys : List ℕ) → at < k → Takes s qs k n ys → ⊥

-- no bytes were accepted for sector n among the calls
abbrev pub Never : Store → List Ask → ℕ → Type 0
Never s qs n = (k : ℕ) (ys : List ℕ) → Takes s qs k n ys → ⊥

-- ys are what an accepted read of sector n gives after the calls `before`, of a stack that was the store s at the making:
-- the bytes last accepted, and with none what the sector was
pub record Shown (s : Store) (before : List Ask) (n : ℕ) (ys : List ℕ) : Type 0 where
  pub last : (xs : List ℕ) → Last s before n xs → ys ≡ xs
  pub first : Never s before n → ys ≡ s.bytes n

-- a read of sector n with the buffer xs, by the fault that it draws: refused, its buffer keeps xs; accepted, it is filled
abbrev pub ReadAnswer : Store → List Ask → ℕ → List ℕ → Option Fault → Ask → Option Answer → Type 0
ReadAnswer s before n xs (Some f) q' a = (a ≡ Some (Transfer (Err f))) × (q' ≡ ask_read n xs)
ReadAnswer s before n xs None q' a = (a ≡ Some (Transfer (Ok tt))) × ((ys : List ℕ) × (q' ≡ ask_read n ys) × Shown s before n ys)

-- a write, by the fault that it draws: its buffer keeps its bytes
abbrev pub WriteAnswer : ℕ → List ℕ → Option Fault → Ask → Option Answer → Type 0
WriteAnswer n xs (Some f) q' a = (a ≡ Some (Transfer (Err f))) × (q' ≡ ask_write n xs)
WriteAnswer n xs None q' a = (a ≡ Some (Transfer (Ok tt))) × (q' ≡ ask_write n xs)

-- the answer a to the call q, put after the calls `before` to a stack that was the store s at the making; q' has what the
-- call's buffer then holds
abbrev pub Right : Store → List Ask → Ask → Ask → Option Answer → Type 0
Right s before ask_count q' a = (a ≡ Some (Number s.count)) × (q' ≡ ask_count)
Right s before ask_length q' a = (a ≡ Some (Number s.size)) × (q' ≡ ask_length)
Right s before ask_layer q' a = (a ≡ Some (Number s.layer)) × (q' ≡ ask_layer)
Right s before (ask_state n) q' a = (a ≡ Some (State (state s n))) × (q' ≡ ask_state n)
Right s before (ask_read n xs) q' a = ReadAnswer s before n xs (refusal s n (length xs)) q' a
Right s before (ask_write n xs) q' a = WriteAnswer n xs (refusal s n (length xs)) q' a

-- the store s with an accepted write put into the sector that is reached below, or as it is where the write draws a fault
abbrev pub landed : Option Fault → List Layer → Store → ℕ → List ℕ → Store
landed (Some f) ls u n xs = u
landed None ls u n xs = put u (reach ls n) (down ls n xs)

-- the lowest store u before the call q and u' after it: only an accepted write changes it
abbrev pub Moves : List Layer → Store → Ask → Store → Store → Type 0
Moves ls s ask_count u u' = u' ≡ u
Moves ls s ask_length u u' = u' ≡ u
Moves ls s ask_layer u u' = u' ≡ u
Moves ls s (ask_state n) u u' = u' ≡ u
Moves ls s (ask_read n xs) u u' = u' ≡ u
Moves ls s (ask_write n xs) u u' = u' ≡ landed (refusal s n (length xs)) ls u n xs

-- the lowest store was `low` at the making and is u after the calls qs
pub record Holds (ls : List Layer) (low u : Store) (qs : List Ask) : Type 0 where
  -- its figures and its failed sectors stay
  pub count_same : u.count ≡ low.count
  pub size_same : u.size ≡ low.size
  pub layer_same : u.layer ≡ low.layer
  pub failed_same : (n : ℕ) → u.failed n ≡ low.failed n
  -- for every sector written it holds the bytes last accepted, enciphered layer under layer
  pub written : (n : ℕ) (xs : List ℕ) → Last (stacked ls low) qs n xs → u.bytes (reach ls n) ≡ down ls n xs
  -- every other sector holds what it held
  pub others : (m : ℕ) → ((n : ℕ) → reach ls n ≡ m → Never (stacked ls low) qs n) → u.bytes m ≡ low.bytes m

-- A run of the calls es, which leaves them as es', on the layers ls, which become ls', over a lowest store that is `low`
-- at the making and low' at the end.
pub record Law (ls ls' : List Layer) (low low' : Store) (es es' : List Entry) : Type 0 where
  -- the layers stay, and each call has its answer
  pub layers_same : ls' ≡ ls
  pub as_many : length es' ≡ length es
  -- reads, refusals, questions: each call's answer and buffer, by the stack as it was made and the calls before
  pub answers : (i : ℕ) (e e' : Entry) → slice_get es i ≡ Some e → slice_get es' i ≡ Some e'
      → Right (stacked ls low) (asks (take i es)) (ask e.call) (ask e'.call) e'.answer
  -- store: what the lowest store holds at the end
  pub at_end : Holds ls low low' (asks es)
  -- and at every place of the run: before call i it is `states i`, where a refused call and a question change nothing
  pub states : ℕ → Store
  pub at_making : states 0 ≡ low
  pub last_state : states (length es) ≡ low'
  pub held : (i : ℕ) → i ≤ length es → Holds ls low (states i) (asks (take i es))
  pub moves : (i : ℕ) (e : Entry) → slice_get es i ≡ Some e → Moves ls (stacked ls low) (ask e.call) (states i) (states (suc i))
