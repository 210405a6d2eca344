-- No defect occurs twice in the list of a cell's defects.
use Rattle.std.proofs.Common.{◌≡◌, ℕ, zero, suc, ◌+◌, ◌-◌, ◌<◌, ◌≤◌, ◌⊎◌, inl, inr, List, Bool, true, false}
use Rattle.std.proofs.Common.{[], ◌∷◌, ◌++◌, length, refl, sym, ◌∙◌, ap, subst, arith}
use Rattle.std.specs.Prelude.{cond, Some, None, slice_get, option_map, Option}
use Rattle.std.specs.List.{All, AllByRecursion}
use Rattle.std.proofs.lemmas.Option.{slice_get-map}
use Rattle.std.proofs.lemmas.List.Elements.{recursion_from_All}
use Rattle.ca_net.specs.Circuit.{Circuit}
use Rattle.ca_cell.specs.declared.raw.RawCell.{RawCell}
use Rattle.ca_cell.specs.Raw.{is_input, role_count, circuit_of}
use Rattle.ca_cell.specs.Rules.{KeepsRules}
use Rattle.ca_cell.specs.PlainNames.{HasPlainNames}
use Rattle.ca_cell.specs.declared.defect.Defect.{Defect}
use Rattle.ca_cell.specs.declared.defect.Defect.TheVariants.{OpenDrain, OpenSource, OpenGate, OpenPin}
use Rattle.ca_cell.specs.declared.defect.Defect.TheVariants.{Short}
use Rattle.ca_cell.specs.Defect.{gated_at, is_short}
use Rattle.ca_net.specs.declared.device.Device.{Device}
use Rattle.ca_cell.specs.List.{each_from, opens_of, device_opens, pin_open, short_of, shorts_of, listed_defects}
use Rattle.ca_cell.specs.List.{defects_of, IsDefectOf}
use Rattle.ca_cell.specs.Name.{name_of, names_of}
use Rattle.ca_cell.specs.Laws.{DefectsDiffer}
use Rattle.ca_cell.proofs.MemberLemmas.{all_listed}
use Rattle.ca_cell.proofs.DifferLemmas.{one_defect}

-- a defect is at one place
abbrev AreDistinct : List Defect → Type 0
AreDistinct xs = (one other : ℕ) (x : Defect) → slice_get xs one ≡ Some x → slice_get xs other ≡ Some x → one ≡ other

-- where an entry of two lists is
record IsAfter (xs ys : List Defect) (at : ℕ) (x : Defect) : Type 0 where
  place : ℕ
  there : slice_get ys place ≡ Some x
  following : at ≡ length xs + place

in_either : (xs ys : List Defect) (at : ℕ) (x : Defect) → slice_get (xs ++ ys) at ≡ Some x → (slice_get xs at ≡ Some x) ⊎ IsAfter xs ys at x
in_either [] ys at x there = inr (record { place = at; there = there; following = omega arith })
in_either (first ∷ xs) ys zero x there = inl there
in_either (first ∷ xs) ys (suc at) x there = elim (in_either xs ys at x there) [
  | inl here ↦ inl here
  | inr later ↦ inr (record { place = later.place; there = later.there; following = let following = later.following in omega (arith, following) })
]

-- two such lists with no entry in common
distinct-append : (xs ys : List Defect) → AreDistinct xs → AreDistinct ys
    → ((one other : ℕ) (x : Defect) → slice_get xs one ≡ Some x → slice_get ys other ≡ Some x → ⊥) → AreDistinct (xs ++ ys)
distinct-append xs ys here there apart one other x is is_too = by (in_either xs ys one x is) (in_either xs ys other x is_too)
  where
    by : (slice_get xs one ≡ Some x) ⊎ IsAfter xs ys one x → (slice_get xs other ≡ Some x) ⊎ IsAfter xs ys other x → one ≡ other
    by (inl first) (inl second) = here one other x first second
    by (inl first) (inr second) = absurd (apart one second.place x first second.there)
    by (inr first) (inl second) = absurd (apart other first.place x second first.there)
    by (inr first) (inr second) =
        let same = there first.place second.place x first.there second.there in
        first.following ∙ ap (λ k. length xs + k) same ∙ sym second.following

-- the place whose list gives an entry
record IsGiven (give : ℕ → List Defect) (from at : ℕ) (x : Defect) : Type 0 where
  of : ℕ
  place : ℕ
  there : slice_get (give of) place ≡ Some x
  following : from ≤ of

given : (give : ℕ → List Defect) (from count at : ℕ) (x : Defect) → slice_get (each_from give from count) at ≡ Some x → IsGiven give from at x
given give from zero at x there = absurd cc
given give from (suc count) at x there =
    by (in_either (give from) (each_from give (from + 1) count) at x there) (λ place following. given give (from + 1) count place x following)
  where
    by : (slice_get (give from) at ≡ Some x) ⊎ IsAfter (give from) (each_from give (from + 1) count) at x
        → ((place : ℕ) → slice_get (each_from give (from + 1) count) place ≡ Some x → IsGiven give (from + 1) place x) → IsGiven give from at x
    by (inl here) next = record { of = from; place = at; there = here; following = omega arith }
    by (inr later) next =
        let rest = next later.place later.there in
        record { of = rest.of; place = rest.place; there = rest.there; following = let following = rest.following in omega (arith, following) }

-- lists that places give, where an entry determines its place
distinct-each : (give : ℕ → List Defect) (key : Defect → ℕ) → ((k place : ℕ) (x : Defect) → slice_get (give k) place ≡ Some x → key x ≡ k)
    → ((k : ℕ) → AreDistinct (give k)) → (from count : ℕ) → AreDistinct (each_from give from count)
distinct-each give key reports each from zero = λ one other x is is_too. absurd cc
distinct-each give key reports each from (suc count) =
    distinct-append (give from) (each_from give (from + 1) count) (each from) (distinct-each give key reports each (from + 1) count)
    (λ one other x here there.
    let rest = given give (from + 1) count other x there in
    let place = reports from one x here in
    let further = reports rest.of rest.place x rest.there in
    let following = rest.following in
    omega (arith, place, further, following))

-- the first place that an entry names, and the kind of its change
abbrev key_of : Defect → ℕ
key_of (OpenDrain opened) = opened.0
key_of (OpenSource opened) = opened.0
key_of (OpenGate opened) = opened.0
key_of (OpenPin pin) = pin.0
key_of (Short low high) = low.0

abbrev kind_of : Defect → ℕ
kind_of (OpenDrain opened) = 0
kind_of (OpenSource opened) = 1
kind_of (OpenGate opened) = 2
kind_of (OpenPin pin) = 3
kind_of (Short low high) = 4

-- the second place of a short
abbrev high_of : Defect → ℕ
high_of (Short low high) = high.0
high_of _ = 0

-- an entry of a device's opens determines its place in them
open_place : (b : Bool) (k place : ℕ) (x : Defect) → slice_get (opens_of b k) place ≡ Some x → (key_of x ≡ k) × (kind_of x ≡ place) × (place < 3)
open_place b k zero x there =
    let same : OpenDrain (record { 0 = k }) ≡ x = cc in subst (λ d. (key_of d ≡ k) × (kind_of d ≡ 0) × (0 < 3)) same (refl, refl, omega arith)
open_place b k (suc zero) x there =
    let same : OpenSource (record { 0 = k }) ≡ x = cc in subst (λ d. (key_of d ≡ k) × (kind_of d ≡ 1) × (1 < 3)) same (refl, refl, omega arith)
open_place false k (suc (suc place)) x there = absurd cc
open_place true k (suc (suc zero)) x there =
    let same : OpenGate (record { 0 = k }) ≡ x = cc in subst (λ d. (key_of d ≡ k) × (kind_of d ≡ 2) × (2 < 3)) same (refl, refl, omega arith)
open_place true k (suc (suc (suc place))) x there = absurd cc

opens_distinct : (devices : List Device) (k : ℕ) → AreDistinct (device_opens devices k)
opens_distinct devices k one other x is is_too =
    sym (open_place (gated_at devices k) k one x is).1 ∙ (open_place (gated_at devices k) k other x is_too).1

-- the open of a pin is alone
alone : (first : Defect) (place : ℕ) (x : Defect) → slice_get (first ∷ []) place ≡ Some x → (place ≡ 0) × (first ≡ x)
alone first zero x there = (refl, cc)
alone first (suc place) x there = absurd cc

pin_place : (k place : ℕ) (x : Defect) → slice_get (pin_open k) place ≡ Some x → (place ≡ 0) × (OpenPin (record { 0 = 2 + k }) ≡ x)
pin_place k place x there = alone (OpenPin (record { 0 = 2 + k })) place x there

pins_distinct : (k : ℕ) → AreDistinct (pin_open k)
pins_distinct k one other x is is_too = (pin_place k one x is).0 ∙ sym (pin_place k other x is_too).0

-- the short of two nodes is alone
short_place : (inputs low high place : ℕ) (x : Defect) → slice_get (short_of inputs low high) place ≡ Some x
    → (place ≡ 0) × (Short (record { 0 = low }) (record { 0 = high }) ≡ x)
short_place inputs low high place x there = by (is_short inputs low high) there
  where
    by : (b : Bool) → slice_get (cond b (Short (record { 0 = low }) (record { 0 = high }) ∷ []) []) place ≡ Some x
        → (place ≡ 0) × (Short (record { 0 = low }) (record { 0 = high }) ≡ x)
    by true there = alone (Short (record { 0 = low }) (record { 0 = high })) place x there
    by false there = absurd cc

short_distinct : (inputs low high : ℕ) → AreDistinct (short_of inputs low high)
short_distinct inputs low high one other x is is_too =
    (short_place inputs low high one x is).0 ∙ sym (short_place inputs low high other x is_too).0

shorts_distinct : (nodes inputs low : ℕ) → AreDistinct (shorts_of nodes inputs low)
shorts_distinct nodes inputs low =
    distinct-each (short_of inputs low) high_of (λ high place x there. ap high_of (sym (short_place inputs low high place x there).1))
    (short_distinct inputs low) 0 nodes

shorts_place : (nodes inputs low place : ℕ) (x : Defect) → slice_get (shorts_of nodes inputs low) place ≡ Some x → (key_of x ≡ low) × (kind_of x ≡ 4)
shorts_place nodes inputs low place x there =
    let it = given (short_of inputs low) 0 nodes place x there in
    let same = (short_place inputs low it.of it.place x it.there).1 in
    (ap key_of (sym same), ap kind_of (sym same))

-- the kinds of the three parts of the list
open_kind : (devices : List Device) (count at : ℕ) (x : Defect) → slice_get (each_from (device_opens devices) 0 count) at ≡ Some x → kind_of x < 3
open_kind devices count at x there =
    let it = given (device_opens devices) 0 count at x there in
    let place = open_place (gated_at devices it.of) it.of it.place x it.there in
    let kind = place.1 in let few = place.2 in omega (arith, kind, few)

pin_kind : (count at : ℕ) (x : Defect) → slice_get (each_from pin_open 0 count) at ≡ Some x → kind_of x ≡ 3
pin_kind count at x there =
    let it = given pin_open 0 count at x there in ap kind_of (sym (pin_place it.of it.place x it.there).1)

short_kind : (nodes inputs count at : ℕ) (x : Defect) → slice_get (each_from (shorts_of nodes inputs) 0 count) at ≡ Some x → kind_of x ≡ 4
short_kind nodes inputs count at x there =
    let it = given (shorts_of nodes inputs) 0 count at x there in (shorts_place nodes inputs it.of it.place x it.there).1

-- the pins and the shorts
rest_distinct : (nodes inputs : ℕ) → AreDistinct (each_from pin_open 0 inputs ++ each_from (shorts_of nodes inputs) 0 nodes)
rest_distinct nodes inputs =
    distinct-append (each_from pin_open 0 inputs) (each_from (shorts_of nodes inputs) 0 nodes)
    (distinct-each pin_open (λ x. key_of x - 2)
    (λ k place x there. let same = (pin_place k place x there).1 in let key = ap key_of (sym same) in omega (arith, key)) pins_distinct 0 inputs)
    (distinct-each (shorts_of nodes inputs) key_of (λ low place x there. (shorts_place nodes inputs low place x there).0) (shorts_distinct nodes inputs) 0 nodes)
    (λ one other x pin short. let three = pin_kind inputs one x pin in let four = short_kind nodes inputs nodes other x short in omega (arith, three, four))

rest_kind : (nodes inputs at : ℕ) (x : Defect) → slice_get (each_from pin_open 0 inputs ++ each_from (shorts_of nodes inputs) 0 nodes) at ≡ Some x
    → 3 ≤ kind_of x
rest_kind nodes inputs at x there = elim (in_either (each_from pin_open 0 inputs) (each_from (shorts_of nodes inputs) 0 nodes) at x there) [
  | inl pin ↦ let three = pin_kind inputs at x pin in omega (arith, three)
  | inr short ↦ let four = short_kind nodes inputs nodes short.place x short.there in omega (arith, four)
]

listed_distinct : (net : Circuit) (inputs : ℕ) → AreDistinct (listed_defects net inputs)
listed_distinct net inputs =
    let nodes : ℕ = length net.nodes in
    distinct-append (each_from (device_opens net.devices) 0 (length net.devices)) (each_from pin_open 0 inputs ++ each_from (shorts_of nodes inputs) 0 nodes)
    (distinct-each (device_opens net.devices) key_of (λ k place x there. (open_place (gated_at net.devices k) k place x there).0)
    (opens_distinct net.devices) 0 (length net.devices))
    (rest_distinct nodes inputs)
    (λ one other x open_there rest_there.
    let few = open_kind net.devices (length net.devices) one x open_there in
    let many = rest_kind nodes inputs other x rest_there in
    omega (arith, few, many))

-- what holds of all defects of a list holds of the one at a place
all_at : (P : Defect → Type 0) (xs : List Defect) (place : ℕ) (x : Defect) → All P xs → slice_get xs place ≡ Some x → P x
all_at P xs place x all there = by xs place (recursion_from_All P xs all) there
  where
    by : (xs : List Defect) (place : ℕ) → AllByRecursion P xs → slice_get xs place ≡ Some x → P x
    by [] place all there = absurd cc
    by (first ∷ xs) zero all there =
        let same : first ≡ x = cc in subst P same all.0
    by (first ∷ xs) (suc place) all there = by xs place all.1 there

-- the defect that has the name at a place
record HasDefect (raw : RawCell) (place : ℕ) (name : List ℕ) : Type 0 where
  defect : Defect
  there : slice_get (defects_of raw) place ≡ Some defect
  named : name_of raw defect ≡ name

defect_at : (raw : RawCell) (place : ℕ) (name : List ℕ) → slice_get (names_of raw) place ≡ Some name → HasDefect raw place name
defect_at raw place name there = by (slice_get (defects_of raw) place) refl (sym (slice_get-map (name_of raw) (defects_of raw) place) ∙ there)
  where
    by : (found : Option Defect) → slice_get (defects_of raw) place ≡ found → option_map (name_of raw) found ≡ Some name → HasDefect raw place name
    by None there is = absurd cc
    by (Some defect) there is = record { defect = defect; there = there; named = cc }

-- the defects of a cell with plain names have names that differ
pub defects_differ : (raw : RawCell) → KeepsRules raw → HasPlainNames raw → DefectsDiffer raw
defects_differ raw keeps plain = record {
  defects = one_defect raw keeps plain;
  listed = λ one other name there there_too.
      let here = defect_at raw one name there in
      let again = defect_at raw other name there_too in
      let all = all_listed (circuit_of raw) (role_count is_input raw.pins) in
      let same = one_defect raw keeps plain here.defect again.defect
      (all_at (IsDefectOf raw) (defects_of raw) one here.defect all here.there)
      (all_at (IsDefectOf raw) (defects_of raw) other again.defect all again.there)
      (here.named ∙ sym again.named) in
      listed_distinct (circuit_of raw) (role_count is_input raw.pins) one other again.defect
      (here.there ∙ ap Some same) again.there;
}
