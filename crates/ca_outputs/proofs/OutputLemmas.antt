-- The named outputs and their nets.
use Rattle.std.proofs.Common.{◌≡◌, ℕ, ◌+◌, ◌≤◌, Bool, true, false, not, ◌&&◌, cond, List, [], ◌∷◌, ◌++◌, map}
use Rattle.std.proofs.Common.{length, refl, sym, ap, ap₂, ◌∙◌, if◌then◌else◌}
use Rattle.std.specs.Prelude.{Option, Some, None, IsSomeAnd, slice_get, take}
use Rattle.std.specs.List.{flat_map}
use Rattle.std.proofs.lemmas.List.{take_all, append_assoc, append-nil, map-append, length-map}
use Rattle.std.proofs.lemmas.Grind.{flat_map-append}
use Rattle.ca_linked.specs.declared.parts.Body.{Body}
use Rattle.ca_linked.specs.declared.parts.Body.TheVariants.{Gate, Scan}
use Rattle.ca_linked.specs.declared.parts.PortBit.{PortBit}
use Rattle.ca_linked.specs.Linked.{LinkedChip, is_scan_path, d_nets, outputs_of}
use Rattle.ca_linked.proofs.EndLemmas.{take_more}
use Rattle.ca_outputs.specs.Outputs.{Output, port_outputs, pin_outputs, part_outputs, observed_ports}
use Rattle.ca_outputs.specs.Outputs.{observed_pins, named_outputs, names_of, output_names}

-- the nets of outputs
abbrev pub nets_of : List Output → List ℕ
nets_of outputs = map (λ (output : Output). output.net) outputs

-- what each gives, all together
mapped : {X Y : Type 0} (outputs_at : X → List Output) (pick : Output → Y) (picked_at : X → List Y)
    → ((x : X) → map pick (outputs_at x) ≡ picked_at x)
    → (xs : List X) → map pick (flat_map outputs_at xs) ≡ flat_map picked_at xs
mapped outputs_at pick picked_at each [] = refl
mapped outputs_at pick picked_at each (x ∷ xs) =
    map-append pick (outputs_at x) (flat_map outputs_at xs)
    ∙ ap₂ (λ first rest. first ++ rest) (each x) (mapped outputs_at pick picked_at each xs)

port_net : (chip : LinkedChip) (port : PortBit) → nets_of (port_outputs chip port)
    ≡ (if (if port.is_input then false else not false) && not (is_scan_path chip port.net) then port.net ∷ [] else [])
port_net chip port = by port.is_input (is_scan_path chip port.net)
  where
    by : (input path : Bool)
        → nets_of (cond (not input && not path) (record { name = port.name; net = port.net } ∷ []) [])
        ≡ cond ((cond input false (not false)) && not path) (port.net ∷ []) []
    by true path = refl
    by false true = refl
    by false false = refl

part_net : (name : List ℕ) (body : Body) → nets_of (pin_outputs name body) ≡ d_nets body
part_net name (Gate cell inputs outputs) = refl
part_net name (Scan nets) = refl

-- the nets of the named outputs are those of the observed outputs
pub outputs_named : (chip : LinkedChip) → nets_of (named_outputs chip) ≡ outputs_of chip
outputs_named chip =
    map-append (λ (output : Output). output.net) (observed_ports chip) (observed_pins chip)
    ∙ ap₂ (λ first rest. first ++ rest)
    (mapped (port_outputs chip) (λ output. output.net) _ (port_net chip) chip.ports)
    (mapped part_outputs (λ output. output.net) _ (λ part. part_net (part.name ++ 47 ∷ part.data) part.body) chip.parts)

pub as_many : (chip : LinkedChip) → length (output_names chip) ≡ length (outputs_of chip)
as_many chip =
    length-map (named_outputs chip) (λ (output : Output). output.name)
    ∙ sym (length-map (named_outputs chip) (λ (output : Output). output.net)) ∙ ap length (outputs_named chip)

-- the outputs of the first of a list, with those of the next
outputs_more : {X : Type 0} (outputs_at : X → List Output) (xs : List X) (k : ℕ) (x : X) → slice_get xs k ≡ Some x
    → names_of (flat_map outputs_at (take (k + 1) xs))
    ≡ names_of (flat_map outputs_at (take k xs)) ++ names_of (outputs_at x)
outputs_more outputs_at xs k x at =
    ap (λ front. names_of (flat_map outputs_at front)) (take_more xs k x at)
    ∙ ap names_of (flat_map-append outputs_at (take k xs) (x ∷ []))
    ∙ map-append (λ (output : Output). output.name) (flat_map outputs_at (take k xs)) (flat_map outputs_at (x ∷ []))
    ∙ ap (λ last. names_of (flat_map outputs_at (take k xs)) ++ names_of last) (append-nil (outputs_at x))

-- names after others, with those of the next
pub names_more : {X : Type 0} (outputs_at : X → List Output) (xs : List X) (k : ℕ) (others before after : List (List ℕ))
    → before ≡ others ++ names_of (flat_map outputs_at (take k xs))
    → IsSomeAnd (slice_get xs k) (λ x. after ≡ before ++ names_of (outputs_at x))
    → after ≡ others ++ names_of (flat_map outputs_at (take (k + 1) xs))
names_more {X} outputs_at xs k others before after so_far grown = by (slice_get xs k) refl grown
  where
    by : (there : Option X) → slice_get xs k ≡ there → IsSomeAnd there (λ x. after ≡ before ++ names_of (outputs_at x))
        → after ≡ others ++ names_of (flat_map outputs_at (take (k + 1) xs))
    by None at grown = elim grown [ ]
    by (Some x) at grown =
        grown ∙ ap (λ names. names ++ names_of (outputs_at x)) so_far
        ∙ append_assoc others (names_of (flat_map outputs_at (take k xs))) (names_of (outputs_at x))
        ∙ ap (λ names. others ++ names) (sym (outputs_more outputs_at xs k x at))

-- the names of all instances' outputs, after those of port bits
pub all_names : (chip : LinkedChip) (u : ℕ) (names : List (List ℕ))
    → names ≡ names_of (observed_ports chip) ++ names_of (flat_map part_outputs (take u chip.parts))
    → length chip.parts ≤ u → names ≡ output_names chip
all_names chip u names so_far over =
    so_far ∙ ap (λ parts. names_of (observed_ports chip) ++ names_of (flat_map part_outputs parts)) (take_all u chip.parts over)
    ∙ sym (map-append (λ (output : Output). output.name) (observed_ports chip) (observed_pins chip))

pub all_counted : (chip : LinkedChip) (u : ℕ) (names : List (List ℕ))
    → names ≡ names_of (observed_ports chip) ++ names_of (flat_map part_outputs (take u chip.parts))
    → length chip.parts ≤ u → length names ≡ length (outputs_of chip)
all_counted chip u names so_far over = ap length (all_names chip u names so_far over) ∙ as_many chip
