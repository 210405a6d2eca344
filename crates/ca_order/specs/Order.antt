-- What an order file reads as: its lines, one after another, up to the first that is no event.
use Rattle.std.specs.Prelude.{ℕ, ◌+◌, nat_le, List, [], ◌∷◌, ◌++◌, slice_get, Option, Some, None, Result, Ok}
use Rattle.std.specs.Prelude.{Err, codes, if◌then◌else◌}
use Rattle.std.specs.Str.{bytes_eq}
use Rattle.ca_lex.specs.FirstFault.{steps_from}
use Rattle.ca_net.specs.declared.trit.Trit.{Trit}
use Rattle.ca_net.specs.declared.node.NodeId.{NodeId}
use Rattle.ca_order.specs.declared.event.Event.{Event}
use Rattle.ca_order.specs.declared.event.Event.TheVariants as event
use Rattle.ca_order.specs.declared.event.Place.{Place}
use Rattle.ca_order.specs.declared.event.Place.TheVariants as place
use Rattle.ca_lex.specs.Physical.{lines_of}
use Rattle.ca_order.specs.Lines.{words_of, node_of, some_nodes, value_of}

-- the setting of a node to a value, where the node is free
abbrev pub set_of : List Place → Option NodeId → Option Trit → Option Event
set_of places None value = None
set_of places (Some node) None = None
set_of places (Some node) (Some value) = elim (slice_get places node.0) [
  | None ↦ None
  | Some here ↦ elim here [ place.Free ↦ Some (event.Set node value) | place.Fixed ↦ None ]
]

-- the setting that the words of a node and of a value make
unfoldable pub set_with : List Place → List (List ℕ) → Option Event
set_with places (node ∷ value ∷ []) = set_of places (node_of places node) (value_of value)
set_with places _ = None

-- the event that settles the nodes
abbrev pub settled : Option (List NodeId) → Option Event
settled None = None
settled (Some nodes) = Some (event.Settle nodes)

-- the event that blurs the nodes
abbrev pub blurred : Option (List NodeId) → Option Event
blurred None = None
blurred (Some nodes) = Some (event.Blur nodes)

-- the event of a line's words
unfoldable pub event_of : List Place → List (List ℕ) → Option Event
event_of places [] = None
event_of places (word ∷ words) =
    if bytes_eq word (codes "settle") then settled (some_nodes places words)
    else (if bytes_eq word (codes "blur") then blurred (some_nodes places words)
    else (if bytes_eq word (codes "set") then set_with places words else None))

-- the most lines
abbrev pub most_lines : ℕ
most_lines = 65536

-- a line with its number, counted from 1
pub record Numbered : Type 0 where
  pub line : ℕ
  pub text : List ℕ

-- the lines with their numbers, from a number on
unfoldable pub numbered : ℕ → List (List ℕ) → List Numbered
numbered line [] = []
numbered line (text ∷ texts) = record { line = line; text = text } ∷ numbered (line + 1) texts

-- the event of a line, unless there are too many before it
unfoldable pub event_at : List Place → ℕ → List ℕ → Option Event
event_at places line text = if nat_le line most_lines then event_of places (words_of text) else None

-- what the next line makes of the events before it; a fault is the line's number
abbrev pub line_step : List Place → Numbered → List Event → Result (List Event) ℕ
line_step places here events = elim (event_at places here.line here.text) [
  | None ↦ Err here.line
  | Some event ↦ Ok (events ++ event ∷ [])
]

-- the events of a text, or the number of the first line that is none
unfoldable pub order_of : List Place → List ℕ → Result (List Event) ℕ
order_of places text = steps_from (line_step places) [] (numbered 1 (lines_of text))
