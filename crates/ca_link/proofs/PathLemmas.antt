-- The scan path: a linked chip has its first observed net where its wiring has it.
use Rattle.std.proofs.Common.{◌≡◌, ℕ, zero, suc, ◌<◌, List, [], ◌∷◌, ◌++◌, true, false, inl, inr, refl, sym}
use Rattle.std.proofs.Common.{◌∙◌, ap, arith, true≢false}
use Rattle.std.specs.Prelude.{Option, Some, None, slice_get, take, drop, ◌||◌, ◌&&◌, ◌⊎◌, ◌↔◌, option_to_list}
use Rattle.std.specs.List.{Contains}
use Rattle.std.proofs.lemmas.Bool.{or_cases, or_left, or_right, and_parts, and_from}
use Rattle.std.proofs.lemmas.List.Elements.{Contains-append_left, Contains-append_cases}
use Rattle.ca_linked.specs.declared.parts.ScanNets.{ScanNets}
use Rattle.ca_linked.specs.declared.parts.Body.{Body}
use Rattle.ca_linked.specs.declared.parts.Body.TheVariants.{Gate, Scan}
use Rattle.ca_linked.specs.declared.parts.Part.{Part}
use Rattle.ca_linked.specs.declared.parts.Source.{Source}
use Rattle.ca_linked.specs.declared.parts.Source.TheVariants.{FromPort, FromConstant, FromPin}
use Rattle.ca_linked.specs.Linked.{LinkedChip, net_count, path_nets, data_nets, input_nets, output_nets, has}
use Rattle.ca_linked.specs.Linked.{is_scan_path, Drives}
use Rattle.ca_linked.specs.Drivers.{instance_of}
use Rattle.ca_linked.specs.Paths.{is_among, is_on_data, is_on_port, is_observed, IsFirstObserved}
use Rattle.ca_linked.specs.Controls.{is_used, pin_fault, first_scan, body_fault, misused_of}
use Rattle.ca_linked.specs.Wired.{AreDriven, AreUnobserved}
use Rattle.ca_wiring.specs.Wiring.{Meaning, Unknown, Broken, Library, ScanCell, Wiring}
use Rattle.ca_wiring.specs.Nets.{IsNetOf, AreNetsOf}
use Rattle.ca_wiring.specs.Linking.{HasMeaning, IsLinkOf}
use Rattle.ca_wiring.specs.Rules.{last_of, path_inputs, path_outputs, path_wires, data_wires_with, data_wires}
use Rattle.ca_wiring.specs.Rules.{IsJoinedWithOne, IsObservedPath}
use Rattle.ca_linked.proofs.DriverLemmas.{some_inj, to_some}
use Rattle.ca_link.proofs.NetsLemmas.{net_of_chip, net_of_wiring, net_within, wire_of_net}
use Rattle.ca_link.proofs.JoinedLemmas.{any_at, at_any, has_contains, contains_has, known_by, list_joined}
use Rattle.ca_link.proofs.JoinedLemmas.{joined_list, Matches, one_joined, joined_one}
use Rattle.ca_link.proofs.LoadLemmas.{only_one, on_input, input_on, on_output, output_on}
use Rattle.ca_link.proofs.ScanLemmas.{some_first, none_misused, no_pin}

-- the nets of the pins that the rule names: those of library instances, and the d and q pins
abbrev pub named_nets : Body → List ℕ
named_nets (Gate cell inputs outputs) = inputs ++ outputs
named_nets (Scan nets) = nets.d ∷ nets.q ∷ []

-- the net is that of an inverted output
pub record IsInverted (body : Body) (net : ℕ) : Type 0 where
  pub nets : ScanNets
  pub is : body ≡ Scan nets
  pub at : nets.qn ≡ Some net

-- the net is that of a scan output
pub record IsScanOut (body : Body) (net : ℕ) : Type 0 where
  pub nets : ScanNets
  pub is : body ≡ Scan nets
  pub at : nets.so ≡ net

-- a data net is one that the rule names, or that of an inverted output
data_cases : (body : Body) (net : ℕ) → Contains (data_nets body) net → Contains (named_nets body) net ⊎ IsInverted body net
data_cases (Gate cell inputs outputs) net contains = inl contains
data_cases (Scan nets) net contains = elim (Contains-append_cases (nets.d ∷ nets.q ∷ []) (option_to_list nets.qn) net contains) [
  | inl named ↦ inl named
  | inr inverted ↦ inr (record { nets = nets; is = refl; at = by nets.qn inverted })
]
  where
    by : (qn : Option ℕ) → Contains (option_to_list qn) net → qn ≡ Some net
    by None none = absurd (let lt = none.1 in omega (arith, lt))
    by (Some qn) one = ap Some (only_one qn net one)

-- and a net that the rule names is one
named_data : (body : Body) (net : ℕ) → Contains (named_nets body) net → Contains (data_nets body) net
named_data (Gate cell inputs outputs) net contains = contains
named_data (Scan nets) net contains = Contains-append_left (nets.d ∷ nets.q ∷ []) (option_to_list nets.qn) net contains

-- a net of the scan path is on an input pin, or is that of a scan output
path_cases : (body : Body) (net : ℕ) → Contains (path_nets body) net → Contains (input_nets body) net ⊎ IsScanOut body net
path_cases (Gate cell inputs outputs) net contains = absurd (let lt = contains.1 in omega (arith, lt))
path_cases (Scan nets) net (zero, lt, e) = inl (2, omega arith, e)
path_cases (Scan nets) net (suc zero, lt, e) = inl (3, omega arith, e)
path_cases (Scan nets) net (suc (suc zero), lt, e) = inl (4, omega arith, e)
path_cases (Scan nets) net (suc (suc (suc zero)), lt, e) = inl (1, omega arith, e)
path_cases (Scan nets) net (suc (suc (suc (suc zero))), lt, e) = inr (record { nets = nets; is = refl; at = e })
path_cases (Scan nets) net (suc (suc (suc (suc (suc k)))), lt, e) = absurd (omega (arith, lt))

-- the fourth of five, put first
fourth_first : (a b c d e n : ℕ) → Contains (a ∷ b ∷ c ∷ d ∷ e ∷ []) n → Contains (d ∷ a ∷ b ∷ c ∷ e ∷ []) n
fourth_first a b c d e n (zero, lt, is) = (1, omega arith, is)
fourth_first a b c d e n (suc zero, lt, is) = (2, omega arith, is)
fourth_first a b c d e n (suc (suc zero), lt, is) = (3, omega arith, is)
fourth_first a b c d e n (suc (suc (suc zero)), lt, is) = (0, omega arith, is)
fourth_first a b c d e n (suc (suc (suc (suc zero))), lt, is) = (4, omega arith, is)
fourth_first a b c d e n (suc (suc (suc (suc (suc k)))), lt, is) = absurd (omega (arith, lt))

first_fourth : (a b c d e n : ℕ) → Contains (d ∷ a ∷ b ∷ c ∷ e ∷ []) n → Contains (a ∷ b ∷ c ∷ d ∷ e ∷ []) n
first_fourth a b c d e n (zero, lt, is) = (3, omega arith, is)
first_fourth a b c d e n (suc zero, lt, is) = (0, omega arith, is)
first_fourth a b c d e n (suc (suc zero), lt, is) = (1, omega arith, is)
first_fourth a b c d e n (suc (suc (suc zero)), lt, is) = (2, omega arith, is)
first_fourth a b c d e n (suc (suc (suc (suc zero))), lt, is) = (4, omega arith, is)
first_fourth a b c d e n (suc (suc (suc (suc (suc k)))), lt, is) = absurd (omega (arith, lt))

module _ (wiring : Wiring) (nets : List ℕ) where
  -- one list of nets after another
  nets_append : (wires others list more : List ℕ) → AreNetsOf wiring nets wires list → AreNetsOf wiring nets others more
      → AreNetsOf wiring nets (wires ++ others) (list ++ more)
  nets_append [] others [] more are rest = rest
  nets_append [] others (net ∷ list) more are rest = absurd are
  nets_append (wire ∷ wires) others [] more are rest = absurd are
  nets_append (wire ∷ wires) others (net ∷ list) more are rest = (are.0, nets_append wires others list more are.1 rest)

  -- the nets after the first, and the first
  nets_after : (wires list : List ℕ) (net : ℕ) → AreNetsOf wiring nets wires (net ∷ list) → AreNetsOf wiring nets (drop 1 wires) list
  nets_after [] list net are = absurd are
  nets_after (wire ∷ wires) list net are = are.1

  nets_first : (wires list : List ℕ) (net : ℕ) → AreNetsOf wiring nets wires (net ∷ list) → AreNetsOf wiring nets (take 1 wires) (net ∷ [])
  nets_first [] list net are = absurd are
  nets_first (wire ∷ wires) list net are = (are.0, tt)

  -- the net of the scan output is the last
  nets_last : (wires : List ℕ) (q so : ℕ) (qn : Option ℕ) → AreNetsOf wiring nets wires (q ∷ (option_to_list qn ++ so ∷ []))
      → AreNetsOf wiring nets (last_of wires) (so ∷ [])
  nets_last [] q so qn are = absurd are
  nets_last (a ∷ []) q so None are = absurd are.1
  nets_last (a ∷ b ∷ []) q so None are = are.1
  nets_last (a ∷ b ∷ c ∷ more) q so None are = absurd are.1.1
  nets_last (a ∷ []) q so (Some qn) are = absurd are.1
  nets_last (a ∷ b ∷ []) q so (Some qn) are = absurd are.1.1
  nets_last (a ∷ b ∷ c ∷ []) q so (Some qn) are = are.1.1
  nets_last (a ∷ b ∷ c ∷ d ∷ more) q so (Some qn) are = absurd are.1.1.1

module _ (wiring : Wiring) (chip : LinkedChip) (link : IsLinkOf wiring chip) where
  abbrev IsOn : ℕ → ℕ → Type 0
  IsOn wire net = IsNetOf wiring link.nets wire net

  -- an instance puts a net on the scan path where its wiring puts the wires of that net there
  path_with : (meaning : Meaning) (body : Body) (inputs outputs : List ℕ) → HasMeaning chip.cells meaning body
      → AreNetsOf wiring link.nets inputs (input_nets body) → AreNetsOf wiring link.nets outputs (output_nets body)
      → (net wire : ℕ) → IsOn wire net
      → Contains (path_nets body) net ↔ IsJoinedWithOne wiring (path_inputs meaning inputs ++ path_outputs meaning outputs) wire
  path_with Unknown body inputs outputs has ins outs net wire is = absurd has
  path_with (Broken rule) body inputs outputs has ins outs net wire is = absurd has
  path_with (Library raw) (Gate cell ins_of outs_of) inputs outputs has ins outs net wire is = (
    λ contains. absurd (let lt = contains.1 in omega (arith, lt)),
    λ joined. absurd (let lt = joined.1.1 in omega (arith, lt)),
  )
  path_with (Library raw) (Scan nets) inputs outputs has ins outs net wire is = absurd has
  path_with (ScanCell row) (Gate cell ins_of outs_of) inputs outputs has ins outs net wire is = absurd has
  path_with (ScanCell row) (Scan nets) inputs outputs has ins outs net wire is =
      let of = nets_append wiring link.nets (drop 1 inputs) (last_of outputs) (nets.si ∷ nets.se ∷ nets.ck ∷ nets.hold ∷ []) (nets.so ∷ [])
      (nets_after wiring link.nets inputs (nets.si ∷ nets.se ∷ nets.ck ∷ nets.hold ∷ []) nets.d ins)
      (nets_last wiring link.nets outputs nets.q nets.so nets.qn outs) in
      let all = nets.si ∷ nets.se ∷ nets.ck ∷ nets.hold ∷ nets.so ∷ [] in (
        λ contains. list_joined wiring link.nets (drop 1 inputs ++ last_of outputs) all net wire of is
            (fourth_first nets.se nets.ck nets.hold nets.si nets.so net contains),
        λ joined. first_fourth nets.se nets.ck nets.hold nets.si nets.so net
            (joined_list wiring link.nets link.are (drop 1 inputs ++ last_of outputs) all net wire of is joined),
      )

  path_matches : Matches wiring chip link path_nets path_wires
  path_matches wired part of net wire is =
      path_with wired.meaning part.body wired.inputs wired.outputs of.meaning of.inputs of.outputs net wire is

  -- and it has a net on a data pin that the rule names where its wiring has the wires of that net on one
  data_with : (meaning : Meaning) (body : Body) (inputs outputs : List ℕ) → HasMeaning chip.cells meaning body
      → AreNetsOf wiring link.nets inputs (input_nets body) → AreNetsOf wiring link.nets outputs (output_nets body)
      → (net wire : ℕ) → IsOn wire net
      → Contains (named_nets body) net ↔ IsJoinedWithOne wiring (data_wires_with meaning inputs outputs) wire
  data_with Unknown body inputs outputs has ins outs net wire is = absurd has
  data_with (Broken rule) body inputs outputs has ins outs net wire is = absurd has
  data_with (Library raw) (Gate cell ins_of outs_of) inputs outputs has ins outs net wire is =
      let of = nets_append wiring link.nets inputs outputs ins_of outs_of ins outs in (
        list_joined wiring link.nets (inputs ++ outputs) (ins_of ++ outs_of) net wire of is,
        joined_list wiring link.nets link.are (inputs ++ outputs) (ins_of ++ outs_of) net wire of is,
      )
  data_with (Library raw) (Scan nets) inputs outputs has ins outs net wire is = absurd has
  data_with (ScanCell row) (Gate cell ins_of outs_of) inputs outputs has ins outs net wire is = absurd has
  data_with (ScanCell row) (Scan nets) inputs outputs has ins outs net wire is =
      let of = nets_append wiring link.nets (take 1 inputs) (take 1 outputs) (nets.d ∷ []) (nets.q ∷ [])
      (nets_first wiring link.nets inputs (nets.si ∷ nets.se ∷ nets.ck ∷ nets.hold ∷ []) nets.d ins)
      (nets_first wiring link.nets outputs (option_to_list nets.qn ++ nets.so ∷ []) nets.q outs) in (
        list_joined wiring link.nets (take 1 inputs ++ take 1 outputs) (nets.d ∷ nets.q ∷ []) net wire of is,
        joined_list wiring link.nets link.are (take 1 inputs ++ take 1 outputs) (nets.d ∷ nets.q ∷ []) net wire of is,
      )

  data_matches : Matches wiring chip link named_nets data_wires
  data_matches wired part of net wire is =
      data_with wired.meaning part.body wired.inputs wired.outputs of.meaning of.inputs of.outputs net wire is

-- the place of the scan output among the output pins
abbrev last_place : Option ℕ → ℕ
last_place None = 1
last_place (Some qn) = 2

-- the scan output is there
last_output : (nets : ScanNets) → slice_get (output_nets (Scan nets)) (last_place nets.qn) ≡ Some nets.so
last_output nets = by nets.qn
  where
    by : (qn : Option ℕ) → slice_get (nets.q ∷ (option_to_list qn ++ nets.so ∷ [])) (last_place qn) ≡ Some nets.so
    by None = refl
    by (Some qn) = refl

-- the output pin that drives
abbrev pin_of : Source → ℕ
pin_of (FromPort p) = 0
pin_of (FromConstant value) = 0
pin_of (FromPin u pin) = pin

module _ (chip : LinkedChip) (driven : AreDriven chip) (used : misused_of chip ≡ None) (net : ℕ) (within : net < net_count chip) where
  module _ (u : ℕ) (part : Part) (at : slice_get chip.parts u ≡ Some part) (inverted : IsInverted part.body net) where
    -- an inverted output's net has no load
    no_input : is_among input_nets chip.parts net ≡ true → ⊥
    no_input on =
        let first = some_first chip.parts u part inverted.nets at inverted.is in
        let none = none_misused chip (first_scan chip.parts) chip.parts 0 u part used at in
        let fault : pin_fault chip first.0 inverted.nets ≡ None =
        sym (ap (λ first. body_fault chip first part.body) first.1 ∙ ap (body_fault chip (Some first.0)) inverted.is) ∙ none in
        let loaded : is_used chip inverted.nets.qn ≡ true =
        ap (is_used chip) inverted.at ∙ or_left (is_among input_nets chip.parts net) (is_on_port chip false net) on in
        true≢false (sym loaded ∙ no_pin chip first.0 inverted.nets fault 3)

    -- and no other driver
    no_scan_out : (v : ℕ) (other : Part) → slice_get chip.parts v ≡ Some other → IsScanOut other.body net → ⊥
    no_scan_out v other there out =
        let one = driven net within in
        let from_out : Drives chip net (FromPin v (last_place out.nets.qn)) =
        to_some (λ (p : Part). slice_get (output_nets p.body) (last_place out.nets.qn) ≡ Some net) (slice_get chip.parts v) other there
        (ap (λ body. slice_get (output_nets body) (last_place out.nets.qn)) out.is ∙ last_output out.nets ∙ ap Some out.at) in
        let from_inverted : Drives chip net (FromPin u 1) =
        to_some (λ (p : Part). slice_get (output_nets p.body) 1 ≡ Some net) (slice_get chip.parts u) part at
        (ap (λ body. slice_get (output_nets body) 1) inverted.is
        ∙ ap (λ qn. slice_get (inverted.nets.q ∷ (option_to_list qn ++ inverted.nets.so ∷ [])) 1) inverted.at) in
        let same : FromPin v (last_place out.nets.qn) ≡ FromPin u 1 =
        one.only.none_other (FromPin v (last_place out.nets.qn)) from_out ∙ sym (one.only.none_other (FromPin u 1) from_inverted) in
        let place : v ≡ u = some_inj v u (ap instance_of same) in
        let parts : other ≡ part = some_inj other part (sym there ∙ ap (slice_get chip.parts) place ∙ at) in
        let bodies : Scan out.nets ≡ Scan inverted.nets = sym out.is ∙ ap (λ (p : Part). p.body) parts ∙ inverted.is in
        let nets : out.nets ≡ inverted.nets = cc in
        let pin : last_place out.nets.qn ≡ 1 = ap pin_of same in
        let two : last_place out.nets.qn ≡ 2 = ap last_place (ap (λ (n : ScanNets). n.qn) nets ∙ inverted.at) in
        omega (arith, pin, two)

    -- so it is no net of the scan path
    off_path : is_scan_path chip net ≡ true → ⊥
    off_path on =
        let found = any_at (λ (p : Part). has (path_nets p.body) net) chip.parts on in
        elim (path_cases found.1.body net (has_contains (path_nets found.1.body) net found.3)) [
          | inl input ↦ no_input (at_any (λ (p : Part). has (input_nets p.body) net) chip.parts found.0 found.1 found.2
              (contains_has (input_nets found.1.body) net input))
          | inr out ↦ no_scan_out found.0 found.1 found.2 out
        ]

  -- so a data net of the scan path is one that the rule names
  pub named_on_path : is_scan_path chip net ≡ true → is_on_data chip net ≡ true → is_among named_nets chip.parts net ≡ true
  named_on_path path on_data =
      let found = any_at (λ (p : Part). has (data_nets p.body) net) chip.parts on_data in
      elim (data_cases found.1.body net (has_contains (data_nets found.1.body) net found.3)) [
        | inl named ↦ at_any (λ (p : Part). has (named_nets p.body) net) chip.parts found.0 found.1 found.2
            (contains_has (named_nets found.1.body) net named)
        | inr inverted ↦ absurd (off_path found.0 found.1 found.2 inverted path)
      ]

-- the first net that is observed is observed in the wiring
pub observed_path : (wiring : Wiring) (chip : LinkedChip) (link : IsLinkOf wiring chip) (driven : AreDriven chip) (used : misused_of chip ≡ None)
    (net : ℕ) → IsFirstObserved chip net → IsObservedPath wiring net
observed_path wiring chip link driven used net first =
    let known = wire_of_net wiring chip link net first.within in
    let wire = known.0 in
    let is = known_by wiring link.nets link.are net wire known.1 in
    let both = and_parts (is_scan_path chip net) (is_on_data chip net || (is_on_port chip true net && is_on_port chip false net)) first.here in
    record {
      wire = wire;
      is_net = net_of_wiring wiring chip link net wire known.1;
      path = one_joined wiring chip link path_nets path_wires (path_matches wiring chip link) net wire is both.0;
      observed = elim (or_cases (is_on_data chip net) (is_on_port chip true net && is_on_port chip false net) both.1) [
        | inl on_data ↦ inl (one_joined wiring chip link named_nets data_wires (data_matches wiring chip link) net wire is
            (named_on_path chip driven used net first.within both.0 on_data))
        | inr through ↦
            let ports = and_parts (is_on_port chip true net) (is_on_port chip false net) through in
            inr (on_input wiring chip link net wire is ports.0, on_output wiring chip link net wire is ports.1)
      ];
    }

-- a net that is observed in the wiring is in the chip
path_observed : (wiring : Wiring) (chip : LinkedChip) (link : IsLinkOf wiring chip) (net : ℕ) → IsObservedPath wiring net
    → (net < net_count chip) × (is_observed chip net ≡ true)
path_observed wiring chip link net observed =
    let at = net_of_chip wiring chip link net observed.wire observed.is_net in
    let is = known_by wiring link.nets link.are net observed.wire at in
    let through = is_on_port chip true net && is_on_port chip false net in (
      net_within wiring chip link net observed.wire at,
      and_from (is_scan_path chip net) (is_on_data chip net || through)
          (joined_one wiring chip link path_nets path_wires (path_matches wiring chip link) net observed.wire is observed.path)
          (elim observed.observed [
            | inl on_data ↦
                let named = any_at (λ (p : Part). has (named_nets p.body) net) chip.parts
                (joined_one wiring chip link named_nets data_wires (data_matches wiring chip link) net observed.wire is on_data) in
                or_left (is_on_data chip net) through
                (at_any (λ (p : Part). has (data_nets p.body) net) chip.parts named.0 named.1 named.2
                (contains_has (data_nets named.1.body) net (named_data named.1.body net (has_contains (named_nets named.1.body) net named.3))))
            | inr ports ↦ or_right (is_on_data chip net) through
                (and_from (is_on_port chip true net) (is_on_port chip false net)
                (input_on wiring chip link net observed.wire is ports.0) (output_on wiring chip link net observed.wire is ports.1))
          ]),
    )

-- and none before it is
pub none_observed_before : (wiring : Wiring) (chip : LinkedChip) (link : IsLinkOf wiring chip) (net : ℕ) → IsFirstObserved chip net
    → (before : ℕ) → before < net → IsObservedPath wiring before → ⊥
none_observed_before wiring chip link net first before lt observed =
    true≢false (sym (path_observed wiring chip link before observed).1 ∙ first.none_before before lt)

-- where none is observed, none is in the wiring
pub unobserved : (wiring : Wiring) (chip : LinkedChip) (link : IsLinkOf wiring chip) → AreUnobserved chip → (net : ℕ)
    → IsObservedPath wiring net → ⊥
unobserved wiring chip link none net observed =
    let here = path_observed wiring chip link net observed in
    true≢false (sym here.1 ∙ none net here.0)
