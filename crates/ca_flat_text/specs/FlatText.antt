-- The text of a network: its nodes as comments, and its devices as the cards of a subcircuit.
use Rattle.std.specs.Prelude.{ℕ, ◌+◌, ◌≡◌, ◌≤◌, ◌⊎◌, ◌==◌, if◌then◌else◌, List, [], ◌∷◌, ◌++◌, flat_map}
use Rattle.std.specs.Prelude.{codes}
use Rattle.std.specs.Prelude.{decimal}
use Rattle.ca_net.specs.declared.scale.TheConstants.{WEAKEST, STRONGEST, BRIDGE}
use Rattle.ca_net.specs.declared.node.NodeKind.{NodeKind}
use Rattle.ca_net.specs.declared.node.NodeKind.TheVariants as node
use Rattle.ca_net.specs.declared.device.DeviceKind.{DeviceKind}
use Rattle.ca_net.specs.declared.device.DeviceKind.TheVariants as kind
use Rattle.ca_net.specs.declared.device.Device.{Device}
use Rattle.ca_net.specs.Circuit.{Circuit}

-- a word with the space before it
abbrev pub spaced : List ℕ → List ℕ
spaced word = 32 ∷ word

-- these words with one space between two, and a line feed
abbrev pub line_of : List ℕ → List (List ℕ) → List ℕ
line_of first words = first ++ (flat_map spaced words ++ codes "\n")

-- a letter and a number, as N3
abbrev pub numbered : List ℕ → ℕ → List ℕ
numbered letter number = letter ++ decimal number

-- what a node is: an input, or a storage node of its size
abbrev pub kind_words : NodeKind → List (List ℕ)
kind_words node.Input = codes "input" ∷ []
kind_words (node.Storage size) = codes "storage" ∷ decimal size ∷ []

-- the line of the node of this number, which is a comment
abbrev pub node_line : ℕ → NodeKind → List ℕ
node_line n kind = line_of (codes "*") (decimal n ∷ kind_words kind)

-- the lines of these, of which the first has this number
abbrev pub lines_from : {X : Type 0} → (ℕ → X → List ℕ) → ℕ → List X → List ℕ
lines_from line k [] = []
lines_from line k (x ∷ xs) = line k x ++ lines_from line (k + 1) xs

-- the width and the length of a channel: the ratios 1/4, 1/2, 1, 2, 4 and 8, weakest first, which under the
-- default strength table are six strengths
abbrev pub size_words : ℕ → List (List ℕ)
size_words strength =
    if strength == WEAKEST then codes "W=1u" ∷ codes "L=4u" ∷ []
    else (if strength == WEAKEST + 1 then codes "W=1u" ∷ codes "L=2u" ∷ []
    else (if strength == WEAKEST + 2 then codes "W=1u" ∷ codes "L=1u" ∷ []
    else (if strength == WEAKEST + 3 then codes "W=2u" ∷ codes "L=1u" ∷ []
    else (if strength == WEAKEST + 4 then codes "W=4u" ∷ codes "L=1u" ∷ []
    else codes "W=8u" ∷ codes "L=1u" ∷ []))))

-- drain, gate, source, bulk and model of a transistor, and the size of its channel
abbrev pub transistor_words : ℕ → List ℕ → Device → List (List ℕ)
transistor_words bulk model device =
    numbered (codes "N") device.a.0 ∷ numbered (codes "N") device.gate.0 ∷ numbered (codes "N") device.b.0
    ∷ numbered (codes "N") bulk ∷ model ∷ size_words device.strength

-- the two ends of a resistor or a bridge, and its strength
abbrev pub end_words : Device → List (List ℕ)
end_words device = numbered (codes "N") device.a.0 ∷ numbered (codes "N") device.b.0 ∷ decimal device.strength
    ∷ []

-- the line of the device of this number and kind: the bulk of a p-device is power, that of an n-device ground
abbrev pub line_by : DeviceKind → ℕ → Device → List ℕ
line_by kind.P k device = line_of (numbered (codes "M") k) (transistor_words 0 (codes "PCH") device)
line_by kind.N k device = line_of (numbered (codes "M") k) (transistor_words 1 (codes "NCH") device)
line_by kind.D k device = line_of (numbered (codes "R") k) (end_words device)

-- the line of the device of this number
abbrev pub device_line : ℕ → Device → List ℕ
device_line k device = line_by device.kind k device

-- the text of a network
unfoldable pub flat_text : Circuit → List ℕ
flat_text net =
    lines_from node_line 0 net.nodes
    ++ (codes ".SUBCKT FLAT N0 N1\n" ++ (lines_from device_line 0 net.devices ++ codes ".ENDS\n"))

-- a device of this kind has the strength of some transistor, or is a resistor or a bridge, whose gate is its
-- first end
abbrev pub HasLineBy : DeviceKind → Device → Type 0
HasLineBy kind.P device = (WEAKEST ≤ device.strength) × (device.strength ≤ STRONGEST)
HasLineBy kind.N device = (WEAKEST ≤ device.strength) × (device.strength ≤ STRONGEST)
HasLineBy kind.D device =
    ((device.strength ≡ STRONGEST) ⊎ (device.strength ≡ BRIDGE)) × (device.gate ≡ device.a)

-- the line of the device says all of it
abbrev pub HasLine : Device → Type 0
HasLine device = HasLineBy device.kind device
