-- Instances with what is on their pins.
use Rattle.std.specs.Prelude.{ℕ, Bool, List, map}
use Rattle.ca_verilog.specs.declared.instance.Use.{Use}
use Rattle.ca_verilog.specs.declared.instance.Instance.{Instance}
use Rattle.ca_names.specs.Names.{has_name}

-- a pin of this name is among them
abbrev pub has_pin : List ℕ → List Use → Bool
has_pin name uses = has_name name (map (λ used. used.pin) uses)

-- an instance of this name is among them
abbrev pub has_instance : List ℕ → List Instance → Bool
has_instance name instances = has_name name (map (λ instance. instance.name) instances)
