-- What only proofs of code cite: which vectors the values of an instance's input pins allow.
use Rattle.std.specs.Prelude.{ℕ, Bool, false, ◌&&◌, ◌==◌, if◌then◌else◌, List, [], ◌∷◌, ◌++◌, map, get_or}
use Rattle.ca_cell.specs.declared.row.Row.{Row}
use Rattle.ca_lanes.specs.declared.plane.Plane.{Plane}
use Rattle.ca_lanes.specs.Plane.{lane_of}
use Rattle.ca_lanes.specs.Choice.{Choice}

-- one lane of several planes
abbrev pub lanes_of : List Plane → ℕ → List Bool
lanes_of planes lane = map (λ plane. lane_of plane lane) planes

-- from the vectors of the later pins those with this one before them: first with 0, and then with 1
abbrev pub doubled : Choice → List Bool → List Bool
doubled pin later =
    map (λ allowed. pin.zero && allowed) later ++ map (λ allowed. pin.one && allowed) later

-- for each vector of the pins, by its number, whether each pin may be its digit; in a lane that isn't loaded
-- none is
abbrev pub allowed_by : Bool → List Choice → List Bool
allowed_by loaded [] = loaded ∷ []
allowed_by loaded (pin ∷ pins) = doubled pin (allowed_by loaded pins)

-- whether the row's vectors are allowed; of a row of one vector to be allowed first is enough
abbrev pub is_row_allowed : List Bool → List Bool → Row → Bool
is_row_allowed firsts lasts row =
    if row.first == row.last then get_or firsts row.first false
    else get_or firsts row.first false && get_or lasts row.last false
