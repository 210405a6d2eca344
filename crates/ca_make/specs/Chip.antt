-- The generated chip of a number: its gates, and its outputs.
use Rattle.std.specs.Prelude.{ℕ, ◌+◌, ◌==◌, Bool, not, ◌||◌, List, length}
use Rattle.std.specs.List.{filter, list_any, range_with_len}
use Rattle.ca_make.specs.declared.gate.Gate.{Gate}
use Rattle.ca_make.specs.declared.gate.Gate.TheVariants as gate
use Rattle.ca_make.specs.declared.gate.TheConstants.{INPUTS}
use Rattle.ca_make.specs.Draw.{gates_from}

-- the gates: as many as the number, which the state begins at; the chip inputs are the first candidates
unfoldable pub gates_of : ℕ → List Gate
gates_of n = gates_from n INPUTS n

-- the gate takes the candidate at this place
abbrev pub takes : ℕ → Gate → Bool
takes place (gate.Inv a) = place == a
takes place (gate.Nand2 a b) = place == a || place == b
takes place (gate.Nor2 a b) = place == a || place == b

-- the candidate at this place has a load
abbrev pub is_loaded : List Gate → ℕ → Bool
is_loaded gates place = list_any (takes place) gates

-- the gates whose outputs have no load, by their numbers: these are the chip outputs, in this order
abbrev pub unloaded : List Gate → List ℕ
unloaded gates = filter (λ k. not (is_loaded gates (INPUTS + k))) (range_with_len 0 (length gates))
