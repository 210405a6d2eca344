-- The scan path, and marks of nets.
use Rattle.std.specs.Prelude.{ℕ, ◌≡◌, ◌<◌, Bool, true, false, not, ◌&&◌, ◌||◌, eqb, List, length}
use Rattle.std.specs.Prelude.{slice_index_or, if◌then◌else◌}
use Rattle.std.specs.List.{list_any}
use Rattle.ca_linked.specs.Linked.{Body, Part, PortBit, LinkedChip, net_count, has, is_scan_path, data_nets}

-- whether the net is on a data pin
abbrev pub is_on_data : LinkedChip → ℕ → Bool
is_on_data chip net = list_any (λ part. has (data_nets part.body) net) chip.parts

-- whether a bit of a port of this direction is on the net
abbrev pub is_port_on : Bool → ℕ → PortBit → Bool
is_port_on input net port = (if port.is_input then input else not input) && eqb net port.net

-- whether some port bit of this direction is on the net
abbrev pub is_on_port : LinkedChip → Bool → ℕ → Bool
is_on_port chip input net = list_any (is_port_on input net) chip.ports

-- whether a net of the scan path is on a data pin, or leads from an input port to an output port
abbrev pub is_observed : LinkedChip → ℕ → Bool
is_observed chip net =
    is_scan_path chip net && (is_on_data chip net || (is_on_port chip true net && is_on_port chip false net))

-- the first net that is observed although it is on the scan path; or there is none
pub record IsFirstObserved (chip : LinkedChip) (net : ℕ) : Type 0 where
  pub within : net < net_count chip
  pub here : is_observed chip net ≡ true
  pub none_before : (before : ℕ) → before < net → is_observed chip before ≡ false

-- the mark of a net
abbrev pub mark_at : List Bool → ℕ → Bool
mark_at marks net = slice_index_or marks net false

-- the nets of a list are marked, and no other net is
pub record Marks (nets : List ℕ) (old new : List Bool) : Type 0 where
  pub count : length new ≡ length old
  pub each : (net : ℕ) → net < length old → mark_at new net ≡ (mark_at old net || has nets net)

-- each of `count` nets is marked where it passes the test
pub record AreMarks (count : ℕ) (test : ℕ → Bool) (marks : List Bool) : Type 0 where
  pub room : length marks ≡ count
  pub each : (net : ℕ) → net < count → mark_at marks net ≡ test net

-- whether one of the instances has the net among these of its nets
abbrev pub is_among : (Body → List ℕ) → List Part → ℕ → Bool
is_among nets parts net = list_any (λ part. has (nets part.body) net) parts
