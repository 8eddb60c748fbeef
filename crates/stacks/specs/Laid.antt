-- A stack on a stack. Assumes nothing.
use Rattle.std.specs.Prelude.{List, ◌++◌}
use Rattle.stores.specs.Layers.{Layer, Stack}

-- layers on what a store shows
abbrev pub laid : List Layer → Stack → Stack
laid ls p = record { layers = ls ++ p.layers; lowest = p.lowest }
