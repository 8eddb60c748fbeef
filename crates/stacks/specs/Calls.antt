-- Calls and answers. Assumes nothing.
use Rattle.std.specs.Prelude.{ℕ, List, map, vec_items}
use Rattle.stacks.specs.declared.call.Call.{Call}
use Rattle.stacks.specs.declared.call.Call.TheVariants.{Count, Length, Layer, State, Read, Write}
use Rattle.stacks.specs.declared.call.Entry.{Entry}

-- a call, by its sector and the bytes that its buffer holds
pub data Ask : Type 0 where
  ask_count : Ask
  ask_length : Ask
  ask_layer : Ask
  ask_state : ℕ → Ask
  ask_read : ℕ → List ℕ → Ask
  ask_write : ℕ → List ℕ → Ask

-- what a call asks
abbrev pub ask : Call → Ask
ask Count = ask_count
ask Length = ask_length
ask Layer = ask_layer
ask (State n) = ask_state n
ask (Read n v) = ask_read n (vec_items v)
ask (Write n v) = ask_write n (vec_items v)

-- the calls of a list
abbrev pub asks : List Entry → List Ask
asks es = map (λ e. ask e.call) es
