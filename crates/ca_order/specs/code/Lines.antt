-- Words of the code beside those of `specs/Lines.antt`. Private functions and proofs cite them.
use Rattle.std.specs.Prelude.{ℕ, suc, ◌==◌, true, false, List, [], ◌∷◌, ◌++◌}
use Rattle.std.specs.Prelude.{Option, Some, None}
use Rattle.ca_net.specs.declared.node.NodeId.{NodeId}

-- the number of bytes before the first space, or of all bytes
unfoldable pub word_len : List ℕ → ℕ
word_len [] = 0
word_len (byte ∷ bytes) = elim (byte == 32) [ true ↦ 0 | false ↦ suc (word_len bytes) ]

-- these nodes, and then those
abbrev pub nodes_before : List NodeId → Option (List NodeId) → Option (List NodeId)
nodes_before nodes None = None
nodes_before nodes (Some more) = Some (nodes ++ more)
