-- The lines of a text, the words of a line, and the nodes and values that words name.
use Rattle.std.specs.Prelude.{ℕ, ◌==◌, nat_lt, Bool, true, false, not, ◌&&◌, List, [], ◌∷◌, length}
use Rattle.std.specs.Prelude.{Option, Some, None, if◌then◌else◌}
use Rattle.std.specs.List.{list_all}
use Rattle.ca_lex.specs.Length.{is_digit, number_of}
use Rattle.ca_lex.specs.Words.{with_byte}
use Rattle.ca_net.specs.declared.trit.Trit.{Trit}
use Rattle.ca_net.specs.declared.trit.Trit.TheVariants.{Zero, One, X}
use Rattle.ca_net.specs.declared.node.NodeId.{NodeId}
use Rattle.ca_order.specs.declared.event.Place.{Place}

-- the words of a line: what is between two spaces, also where that is nothing
unfoldable pub words_of : List ℕ → List (List ℕ)
words_of [] = [] ∷ []
words_of (byte ∷ bytes) = elim (byte == 32) [
  | true ↦ [] ∷ words_of bytes
  | false ↦ with_byte byte (words_of bytes)
]

-- digits without a leading zero
abbrev pub is_number : List ℕ → Bool
is_number [] = false
is_number (digit ∷ []) = is_digit digit
is_number (digit ∷ more ∷ digits) = not (digit == 48) && list_all is_digit (digit ∷ more ∷ digits)

-- the node of this number, if there are more nodes than that
abbrev pub below : ℕ → ℕ → Option NodeId
below number count = if nat_lt number count then Some (record { 0 = number }) else None

-- the node that a word names: there is a place for each node of the network
abbrev pub node_of : List Place → List ℕ → Option NodeId
node_of places word = if is_number word then below (number_of word) (length places) else None

-- a node before others, where both are known
abbrev pub with_node : Option NodeId → Option (List NodeId) → Option (List NodeId)
with_node None nodes = None
with_node (Some node) None = None
with_node (Some node) (Some nodes) = Some (node ∷ nodes)

-- the nodes that words name, if each names one
unfoldable pub nodes_of : List Place → List (List ℕ) → Option (List NodeId)
nodes_of places [] = Some []
nodes_of places (word ∷ words) = with_node (node_of places word) (nodes_of places words)

-- those of one or more words
abbrev pub some_nodes : List Place → List (List ℕ) → Option (List NodeId)
some_nodes places [] = None
some_nodes places (word ∷ words) = nodes_of places (word ∷ words)

-- the value that a word names
abbrev pub value_of : List ℕ → Option Trit
value_of (byte ∷ []) =
    if byte == 48 then Some Zero else (if byte == 49 then Some One else (if byte == 88 then Some X else None))
value_of _ = None
