-- The sites of a chip, and their nets.
use Rattle.std.proofs.Common.{◌≡◌, ℕ, ◌+◌, Bool, true, false, not, ◌&&◌, cond, List, [], ◌∷◌, ◌++◌, map}
use Rattle.std.proofs.Common.{length, length-append, refl, sym, ap, ap₂, ◌∙◌, arith, if◌then◌else◌}
use Rattle.std.specs.Prelude.{Some, slice_get}
use Rattle.std.specs.List.{flat_map}
use Rattle.std.proofs.lemmas.List.{append_assoc, map-append, length-map}
use Rattle.ca_linked.specs.declared.parts.Body.{Body}
use Rattle.ca_linked.specs.declared.parts.Body.TheVariants.{Gate, Scan}
use Rattle.ca_linked.specs.declared.parts.Part.{Part}
use Rattle.ca_linked.specs.declared.parts.PortBit.{PortBit}
use Rattle.ca_linked.specs.Linked.{LinkedChip, is_scan_path, port_nets, q_nets, d_nets, inputs_of, outputs_of}
use Rattle.ca_linked.specs.Instances.{if_scan, scans_from, scans_of}
use Rattle.ca_chip_stil.specs.Sites.{AtPort, InScan, if_data_port, data_ports, sites_of, body_net, part_net}
use Rattle.ca_chip_stil.specs.Sites.{site_net}
use Rattle.ca_chip_stil.specs.ChipStil.{names_of}

-- what each gives, all together
mapped : {X Y Z : Type 0} (pick : Y → Z) (items : X → List Y) (picked : X → List Z)
    → ((x : X) → map pick (items x) ≡ picked x) → (xs : List X) → map pick (flat_map items xs) ≡ flat_map picked xs
mapped pick items picked each [] = refl
mapped pick items picked each (x ∷ xs) =
    map-append pick (items x) (flat_map items xs) ∙ ap₂ (λ first rest. first ++ rest) (each x) (mapped pick items picked each xs)

mapped_twice : {X Y Z : Type 0} (f : Y → Z) (g : X → Y) (xs : List X) → map f (map g xs) ≡ map (λ x. f (g x)) xs
mapped_twice f g [] = refl
mapped_twice f g (x ∷ xs) = ap (λ rest. f (g x) ∷ rest) (mapped_twice f g xs)

-- the nets of the port bits
port_sites : (chip : LinkedChip) (input : Bool)
    → map (site_net chip input) (map AtPort (data_ports chip input)) ≡ port_nets chip input
port_sites chip input =
    mapped_twice (site_net chip input) AtPort (data_ports chip input)
    ∙ mapped (λ (port : PortBit). port.net) (if_data_port chip input) _ each chip.ports
  where
    by : (port : PortBit) (test : Bool) → map (λ (bit : PortBit). bit.net) (cond test (port ∷ []) []) ≡ cond test (port.net ∷ []) []
    by port true = refl
    by port false = refl

    each : (port : PortBit) → map (λ (bit : PortBit). bit.net) (if_data_port chip input port)
        ≡ (if (if port.is_input then input else not input) && not (is_scan_path chip port.net) then port.net ∷ [] else [])
    each port = by port ((if port.is_input then input else not input) && not (is_scan_path chip port.net))

-- the net that a scan instance has there
end_nets : Bool → Body → List ℕ
end_nets input (Gate cell inputs outputs) = []
end_nets input (Scan nets) = body_net input (Scan nets) ∷ []

at_end : (before : List Part) (part : Part) (more : List Part) → slice_get (before ++ part ∷ more) (length before) ≡ Some part
at_end [] part more = refl
at_end (first ∷ before) part more = at_end before part more

scan_nets : (input : Bool) (before rest : List Part)
    → map (λ u. part_net input (slice_get (before ++ rest) u)) (scans_from (length before) rest)
    ≡ flat_map (λ (part : Part). end_nets input part.body) rest
unfolding end_nets
scan_nets input before [] = refl
scan_nets input before (part ∷ more) = by part.body refl
    ((λ j. map (λ u. part_net input (slice_get (sym (append_assoc before (part ∷ []) more) j) u))
    (scans_from (sym (length-append before (part ∷ [])) j) more))
    ∙ scan_nets input (before ++ part ∷ []) more)
  where
    by : (body : Body) → part.body ≡ body
        → map (λ u. part_net input (slice_get (before ++ part ∷ more) u)) (scans_from (length before + 1) more)
        ≡ flat_map (λ (p : Part). end_nets input p.body) more
        → map (λ u. part_net input (slice_get (before ++ part ∷ more) u))
        (if_scan (length before) body ++ scans_from (length before + 1) more)
        ≡ end_nets input part.body ++ flat_map (λ (p : Part). end_nets input p.body) more
    by (Gate cell inputs outputs) is later = later ∙ (λ j. end_nets input (sym is j) ++ flat_map (λ (p : Part). end_nets input p.body) more)
    by (Scan nets) is later =
        (λ j. part_net input (at_end before part more j) ∷ later j)
        ∙ (λ j. body_net input (is j) ∷ flat_map (λ (p : Part). end_nets input p.body) more)
        ∙ (λ j. end_nets input (sym is j) ++ flat_map (λ (p : Part). end_nets input p.body) more)

each_same : (one other : Body → List ℕ) → ((body : Body) → one body ≡ other body) → (parts : List Part)
    → flat_map (λ (part : Part). one part.body) parts ≡ flat_map (λ (part : Part). other part.body) parts
each_same one other same [] = refl
each_same one other same (part ∷ parts) =
    ap₂ (λ first rest. first ++ rest) (same part.body) (each_same one other same parts)

-- the nets of the sites, by direction
sites_nets : (chip : LinkedChip) (input : Bool) (nets : Body → List ℕ) → ((body : Body) → end_nets input body ≡ nets body)
    → map (site_net chip input) (sites_of chip input) ≡ port_nets chip input ++ flat_map (λ (part : Part). nets part.body) chip.parts
sites_nets chip input nets same =
    map-append (site_net chip input) (map AtPort (data_ports chip input)) (map InScan (scans_of chip))
    ∙ ap₂ (λ first rest. first ++ rest) (port_sites chip input)
    (mapped_twice (site_net chip input) InScan (scans_of chip)
    ∙ (scan_nets input [] chip.parts ∙ each_same (end_nets input) nets same chip.parts))

pub set_are_inputs : (chip : LinkedChip) → map (site_net chip true) (sites_of chip true) ≡ inputs_of chip
unfolding end_nets
set_are_inputs chip = sites_nets chip true q_nets same
  where
    same : (body : Body) → end_nets true body ≡ q_nets body
    same (Gate cell inputs outputs) = refl
    same (Scan nets) = refl

pub seen_are_outputs : (chip : LinkedChip) → map (site_net chip false) (sites_of chip false) ≡ outputs_of chip
unfolding end_nets
seen_are_outputs chip = sites_nets chip false d_nets same
  where
    same : (body : Body) → end_nets false body ≡ d_nets body
    same (Gate cell inputs outputs) = refl
    same (Scan nets) = refl

-- how many sites there are
site_count : (chip : LinkedChip) (input : Bool) (nets : List ℕ) → map (site_net chip input) (sites_of chip input) ≡ nets
    → length (names_of (data_ports chip input)) + length (scans_of chip) ≡ length nets
site_count chip input nets are =
    let both = length-append (map AtPort (data_ports chip input)) (map InScan (scans_of chip)) in
    let ports = length-map (data_ports chip input) AtPort in
    let scans = length-map (scans_of chip) InScan in
    let named = length-map (data_ports chip input) (λ (port : PortBit). port.name) in
    let all = length-map (sites_of chip input) (site_net chip input) in
    let counted = ap length are in
    omega (arith, both, ports, scans, named, all, counted)

pub input_count : (chip : LinkedChip) → length (names_of (data_ports chip true)) + length (scans_of chip) ≡ length (inputs_of chip)
input_count chip = site_count chip true (inputs_of chip) (set_are_inputs chip)

pub output_count : (chip : LinkedChip) → length (names_of (data_ports chip false)) + length (scans_of chip) ≡ length (outputs_of chip)
output_count chip = site_count chip false (outputs_of chip) (seen_are_outputs chip)
