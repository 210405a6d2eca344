-- The control pins and the inverted outputs of scan instances, and which of them breaks its rule first.
use Rattle.std.specs.Prelude.{ℕ, ◌+◌, Bool, true, false, not, ◌||◌, eqb, List, [], ◌∷◌, Option, Some, None}
use Rattle.std.specs.Prelude.{if◌then◌else◌}
use Rattle.ca_linked.specs.declared.controls.Misused.{Misused}
use Rattle.ca_linked.specs.Linked.{ScanNets, Body, Gate, Scan, Part, LinkedChip, input_nets}
use Rattle.ca_linked.specs.Paths.{is_among, is_on_port}

-- a control pin is on no input port, or on another net than the same pin of the first scan instance
abbrev pub is_misplaced : LinkedChip → ℕ → ℕ → Bool
is_misplaced chip first net = not (is_on_port chip true net) || not (eqb net first)

-- an input pin or a bit of an output port is on the net
abbrev pub is_loaded : LinkedChip → ℕ → Bool
is_loaded chip net = is_among input_nets chip.parts net || is_on_port chip false net

-- the net of an inverted output, if there is one, has a load
abbrev pub is_used : LinkedChip → Option ℕ → Bool
is_used chip None = false
is_used chip (Some net) = is_loaded chip net

-- the first pin of a scan instance that breaks its rule: 0, 1 and 2 are the scan enable, the clock and the
-- hold, each of which is misplaced or on the net of an earlier one; 3 is the inverted output
abbrev pub pin_fault : LinkedChip → ScanNets → ScanNets → Option ℕ
pin_fault chip first nets =
    if is_misplaced chip first.se nets.se then Some 0
    else (if is_misplaced chip first.ck nets.ck || eqb nets.ck nets.se then Some 1
    else (if is_misplaced chip first.hold nets.hold || (eqb nets.hold nets.se || eqb nets.hold nets.ck)
    then Some 2
    else (if is_used chip nets.qn then Some 3 else None)))

-- the nets of a scan instance, or else those of a later one
abbrev pub scan_or : Body → Option ScanNets → Option ScanNets
scan_or (Gate cell inputs outputs) later = later
scan_or (Scan nets) later = Some nets

-- the nets of the first scan instance
abbrev pub first_scan : List Part → Option ScanNets
first_scan [] = None
first_scan (part ∷ more) = scan_or part.body (first_scan more)

-- the first pin of an instance that breaks its rule, beside the first scan instance
abbrev pub body_fault : LinkedChip → Option ScanNets → Body → Option ℕ
body_fault chip first (Gate cell inputs outputs) = None
body_fault chip None (Scan nets) = None
body_fault chip (Some first) (Scan nets) = pin_fault chip first nets

-- the instance with its pin, or else a later one
abbrev pub misused_or : ℕ → Option ℕ → Option Misused → Option Misused
misused_or u None later = later
misused_or u (Some pin) later = Some (record { instance = u; pin = pin })

-- the first of these instances, of which the first is the instance u, that has such a pin
abbrev pub misused_from : LinkedChip → Option ScanNets → ℕ → List Part → Option Misused
misused_from chip first u [] = None
misused_from chip first u (part ∷ more) =
    misused_or u (body_fault chip first part.body) (misused_from chip first (u + 1) more)

-- the first scan instance with a pin that breaks its rule, and the first such pin
abbrev pub misused_of : LinkedChip → Option Misused
misused_of chip = misused_from chip (first_scan chip.parts) 0 chip.parts
