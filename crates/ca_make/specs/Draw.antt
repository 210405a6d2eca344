-- The draws: a linear congruential generator of 64 bits, of which the upper 31 bits are drawn.
use Rattle.std.specs.Prelude.{ℕ, zero, suc, ◌+◌, ◌-◌, ◌*◌, ◌/◌, ◌%◌, ◌^◌, ◌==◌, if◌then◌else◌, min}
use Rattle.std.specs.Prelude.{List, [], ◌∷◌}
use Rattle.ca_make.specs.declared.gate.Gate.{Gate}
use Rattle.ca_make.specs.declared.gate.Gate.TheVariants as gate

-- a draw replaces the state by this one
unfoldable pub next_state : ℕ → ℕ
next_state state = (state * 6364136223846793005 + 1442695040888963407) % 2 ^ 64

-- and gives this, from the new state
unfoldable pub drawn : ℕ → ℕ
drawn state = state / 2 ^ 33

-- the place that the next draw takes among this many candidates: one of the last twelve, counted from the
-- back
abbrev pub place_from : ℕ → ℕ → ℕ
place_from state candidates = candidates - 1 - drawn (next_state state) % min 12 candidates

-- a gate of this kind, 0 for INV, 1 for NAND2 and 2 for NOR2, whose inputs the draws after this state take,
-- in the order of its pins
abbrev pub gate_of_kind : ℕ → ℕ → ℕ → Gate
gate_of_kind kind state candidates =
    if kind == 0 then gate.Inv (place_from state candidates)
    else if kind == 1 then gate.Nand2 (place_from state candidates) (place_from (next_state state) candidates)
    else gate.Nor2 (place_from state candidates) (place_from (next_state state) candidates)

-- the gate that is drawn from this state: its kind, and then its inputs
unfoldable pub gate_from : ℕ → ℕ → Gate
gate_from state candidates = gate_of_kind (drawn (next_state state) % 3) (next_state state) candidates

-- the state after the draws of a gate: one for its kind, and one for each input
abbrev pub state_after : Gate → ℕ → ℕ
state_after (gate.Inv a) state = next_state (next_state state)
state_after (gate.Nand2 a b) state = next_state (next_state (next_state state))
state_after (gate.Nor2 a b) state = next_state (next_state (next_state state))

-- this many gates, drawn one after another; the output of each is a candidate for those after it
abbrev pub gates_from : ℕ → ℕ → ℕ → List Gate
gates_from state candidates zero = []
gates_from state candidates (suc more) =
    gate_from state candidates
    ∷ gates_from (state_after (gate_from state candidates) state) (candidates + 1) more
