-- The list of a cell's defects has exactly these.
use Rattle.std.proofs.Common.{◌≡◌, ℕ, zero, suc, ◌+◌, ◌-◌, ◌<◌, List, Bool, true, false, [], ◌∷◌, ◌++◌}
use Rattle.std.proofs.Common.{length, refl, sym, ap, subst, arith, add-zero, zero-add}
use Rattle.std.specs.Prelude.{cond, Contains, Option, Some, None, slice_get}
use Rattle.std.proofs.lemmas.Option.{slice_get_within}
use Rattle.ca_net.specs.declared.device.Device.{Device}
use Rattle.std.specs.List.{All}
use Rattle.std.proofs.lemmas.List.Elements.{All-nil, All-cons, All-append, Contains-append_left}
use Rattle.std.proofs.lemmas.List.Elements.{Contains-append_right}
use Rattle.ca_net.specs.Circuit.{Circuit}
use Rattle.ca_cell.specs.declared.defect.Defect.{Defect}
use Rattle.ca_cell.specs.declared.defect.Defect.TheVariants.{OpenDrain, OpenSource, OpenGate, OpenPin}
use Rattle.ca_cell.specs.declared.defect.Defect.TheVariants.{Short}
use Rattle.ca_cell.specs.Defect.{gated_in, gated_at, is_short, IsDefect}
use Rattle.ca_cell.specs.List.{each_from, opens_of, device_opens, pin_open, short_of, shorts_of, listed_defects}
use Rattle.ca_cell.proofs.CircuitWithLemmas.{short_ordered}

-- what holds of what each place gives holds of all
All-each_from : (P : Defect → Type 0) (give : ℕ → List Defect) (place count : ℕ) → ((k : ℕ) → k < count → All P (give (place + k))) → All P (each_from give place count)
All-each_from P give place zero each = All-nil P
All-each_from P give place (suc count) each =
    All-append P (give place) (each_from give (place + 1) count) (subst (λ at. All P (give at)) (add-zero place) (each 0 (omega arith)))
    (All-each_from P give (place + 1) count (λ k within.
    let same : place + suc k ≡ place + 1 + k = omega arith in subst (λ at. All P (give at)) same (each (suc k) (omega arith))))

-- from the first place on
All-each : (P : Defect → Type 0) (give : ℕ → List Defect) (count : ℕ) → ((k : ℕ) → k < count → All P (give k)) → All P (each_from give 0 count)
All-each P give count each = All-each_from P give 0 count (λ k within. subst (λ at. All P (give at)) (sym (zero-add k)) (each k within))

-- what a place gives is in the list
Contains-each_from : (give : ℕ → List Defect) (place count k : ℕ) (x : Defect) → k < count → Contains (give (place + k)) x → Contains (each_from give place count) x
Contains-each_from give place zero k x within has = absurd (omega arith)
Contains-each_from give place (suc count) zero x within has =
    Contains-append_left (give place) (each_from give (place + 1) count) x (subst (λ at. Contains (give at) x) (add-zero place) has)
Contains-each_from give place (suc count) (suc k) x within has =
    let same : place + suc k ≡ place + 1 + k = omega arith in
    Contains-append_right (give place) (each_from give (place + 1) count) x
    (Contains-each_from give (place + 1) count k x (omega arith) (subst (λ at. Contains (give at) x) same has))

Contains-each : (give : ℕ → List Defect) (count k : ℕ) (x : Defect) → k < count → Contains (give k) x → Contains (each_from give 0 count) x
Contains-each give count k x within has = Contains-each_from give 0 count k x within (subst (λ at. Contains (give at) x) (sym (zero-add k)) has)

-- the short of two nodes is one of the cell's, where there is one
short_listed : (net : Circuit) (inputs low high : ℕ) → high < length net.nodes → All (IsDefect net inputs) (short_of inputs low high)
short_listed net inputs low high within = by (is_short inputs low high) refl
  where
    by : (b : Bool) → is_short inputs low high ≡ b → All (IsDefect net inputs) (cond b (Short (record { 0 = low }) (record { 0 = high }) ∷ []) [])
    by true is = All-cons (IsDefect net inputs) (Short (record { 0 = low }) (record { 0 = high })) [] (within, is) (All-nil (IsDefect net inputs))
    by false is = All-nil (IsDefect net inputs)

-- a device that has a gate is one
pub gated_within : (devices : List Device) (place : ℕ) → gated_at devices place ≡ true → place < length devices
gated_within devices place gated = by (slice_get devices place) refl gated
  where
    by : (found : Option Device) → slice_get devices place ≡ found → gated_in found ≡ true → place < length devices
    by None there is = absurd cc
    by (Some device) there is = slice_get_within devices place device there

-- the opens of a device are of the cell's
opens_listed : (net : Circuit) (inputs k : ℕ) → k < length net.devices → All (IsDefect net inputs) (device_opens net.devices k)
opens_listed net inputs k within = by (gated_at net.devices k) refl
  where
    P : Defect → Type 0
    P = IsDefect net inputs

    by : (b : Bool) → gated_at net.devices k ≡ b → All P (opens_of b k)
    by true is =
        All-cons P (OpenDrain (record { 0 = k })) (OpenSource (record { 0 = k }) ∷ OpenGate (record { 0 = k }) ∷ []) within
        (All-cons P (OpenSource (record { 0 = k })) (OpenGate (record { 0 = k }) ∷ []) within
        (All-cons P (OpenGate (record { 0 = k })) [] is (All-nil P)))
    by false is =
        All-cons P (OpenDrain (record { 0 = k })) (OpenSource (record { 0 = k }) ∷ []) within
        (All-cons P (OpenSource (record { 0 = k })) [] within (All-nil P))

-- each defect of the list is one of the cell's
pub all_listed : (net : Circuit) (inputs : ℕ) → All (IsDefect net inputs) (listed_defects net inputs)
all_listed net inputs =
    let P : Defect → Type 0 = IsDefect net inputs in
    let nodes : ℕ = length net.nodes in
    All-append P (each_from (device_opens net.devices) 0 (length net.devices)) (each_from pin_open 0 inputs ++ each_from (shorts_of nodes inputs) 0 nodes)
    (All-each P (device_opens net.devices) (length net.devices) (opens_listed net inputs))
    (All-append P (each_from pin_open 0 inputs) (each_from (shorts_of nodes inputs) 0 nodes)
    (All-each P pin_open inputs (λ k within. All-cons P (OpenPin (record { 0 = 2 + k })) [] (omega arith, omega arith) (All-nil P)))
    (All-each P (shorts_of nodes inputs) nodes (λ low within. All-each P (short_of inputs low) nodes (λ high below. short_listed net inputs low high below))))

-- each defect of the cell is in the list
open_of_device : (net : Circuit) (inputs k : ℕ) (defect : Defect) → k < length net.devices → Contains (device_opens net.devices k) defect → Contains (listed_defects net inputs) defect
open_of_device net inputs k defect within has =
    Contains-append_left (each_from (device_opens net.devices) 0 (length net.devices)) _ defect (Contains-each (device_opens net.devices) (length net.devices) k defect within has)

pub contained : (net : Circuit) (inputs : ℕ) (defect : Defect) → IsDefect net inputs defect → Contains (listed_defects net inputs) defect
contained net inputs (OpenDrain opened) within = open_of_device net inputs opened.0 (OpenDrain opened) within (0, omega arith, refl)
contained net inputs (OpenSource opened) within = open_of_device net inputs opened.0 (OpenSource opened) within (1, omega arith, refl)
contained net inputs (OpenGate opened) is =
    open_of_device net inputs opened.0 (OpenGate opened) (gated_within net.devices opened.0 is)
    (subst (λ (b : Bool). Contains (opens_of b opened.0) (OpenGate opened)) (sym is) (2, omega arith, refl))
contained net inputs (OpenPin pin) is =
    let low = is.0 in
    let high = is.1 in
    let same : 2 + (pin.0 - 2) ≡ pin.0 = omega arith in
    Contains-append_right (each_from (device_opens net.devices) 0 (length net.devices)) _ (OpenPin pin)
    (Contains-append_left (each_from pin_open 0 inputs) _ (OpenPin pin)
    (Contains-each pin_open inputs (pin.0 - 2) (OpenPin pin) (omega arith) (0, omega arith, ap (λ n. OpenPin (record { 0 = n })) same)))
contained net inputs (Short low high) is =
    let within = is.0 in
    let ordered = short_ordered inputs low.0 high.0 is.1 in
    let nodes : ℕ = length net.nodes in
    let bridge : List Defect = Short low high ∷ [] in
    Contains-append_right (each_from (device_opens net.devices) 0 (length net.devices)) _ (Short low high)
    (Contains-append_right (each_from pin_open 0 inputs) _ (Short low high)
    (Contains-each (shorts_of nodes inputs) nodes low.0 (Short low high) (omega arith)
    (Contains-each (short_of inputs low.0) nodes high.0 (Short low high) within
    (subst (λ (b : Bool). Contains (cond b bridge []) (Short low high)) (sym is.1) (0, omega arith, refl)))))
