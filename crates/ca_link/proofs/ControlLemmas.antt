-- Control pins and inverted outputs: a linked chip has the first that breaks its rule where its wiring has
-- it.
use Rattle.std.proofs.Common.{◌≡◌, ℕ, ◌+◌, ◌<◌, List, [], ◌∷◌, ◌++◌, true, inl, inr, refl, sym, ◌∙◌, ap}
use Rattle.std.proofs.Common.{subst, arith, true≢false}
use Rattle.std.specs.Prelude.{Option, Some, None, IsSomeAnd, slice_get, eqb, not, ◌⊎◌, option_to_list}
use Rattle.std.proofs.lemmas.Bool.{cases_lt, cases_Bool, or_cases, or_left, or_right, eqb-true, eq-eqb}
use Rattle.ca_base.specs.First.{IsFirst}
use Rattle.ca_linked.specs.declared.controls.Misused.{Misused}
use Rattle.ca_linked.specs.declared.parts.ScanNets.{ScanNets}
use Rattle.ca_linked.specs.declared.parts.Body.{Body}
use Rattle.ca_linked.specs.declared.parts.Body.TheVariants.{Gate, Scan}
use Rattle.ca_linked.specs.declared.parts.Part.{Part}
use Rattle.ca_linked.specs.Linked.{LinkedChip, input_nets, output_nets, IsGate}
use Rattle.ca_linked.specs.Instances as instances
use Rattle.ca_linked.specs.Paths.{is_on_port}
use Rattle.ca_linked.specs.Controls.{is_used, pin_fault, first_scan, body_fault, misused_of}
use Rattle.ca_wiring.specs.declared.scan_row.ScanRow.{ScanRow}
use Rattle.ca_cell.specs.Library.{Named}
use Rattle.ca_verilog.specs.declared.raw.RawNetlist.{RawNetlist}
use Rattle.ca_wiring.specs.Wiring.{ScanCell, WiredPart, Wiring, row_of, wiring_of}
use Rattle.ca_wiring.specs.Nets.{IsNetOf, AreNetsOf}
use Rattle.ca_wiring.specs.Linking.{IsPartOf, IsLinkOf}
use Rattle.ca_wiring.specs.Rules.{control_names, IsScan, IsControl, BreaksControl, UsesInverted}
use Rattle.ca_linked.proofs.DriverLemmas.{some_inj, to_some}
use Rattle.ca_linked.proofs.FeedingLemmas.{item_of}
use Rattle.ca_link.proofs.NetsLemmas.{wire_at, net_at, one_net_joined, joined_one_net, also_there}
use Rattle.ca_link.proofs.LoadLemmas.{on_input, input_on, loaded_wire, wire_loaded}
use Rattle.ca_link.proofs.RowLemmas.{row_means, means_row}
use Rattle.ca_link.proofs.ScanLemmas.{all_before, before_all, scan_body, body_scan, is_scan, first_scan_at}
use Rattle.ca_link.proofs.ScanLemmas.{some_first, IsMisusedAt, misused_at, none_misused, control_net}
use Rattle.ca_link.proofs.ScanLemmas.{control_input, breaks_pin, IsFirstPin, first_pin, no_pin, breaks_cases}
use Rattle.ca_link.proofs.ScanLemmas.{misplaced_breaks, shared_breaks}

module _ (wiring : Wiring) (chip : LinkedChip) (link : IsLinkOf wiring chip) where
  -- the instance is of a scan cell, with these nets
  pub record IsScanAt (u : ℕ) (nets : ScanNets) : Type 0 where
    pub part : Part
    pub wired : WiredPart
    pub is_part : slice_get chip.parts u ≡ Some part
    pub is_wired : slice_get wiring.parts u ≡ Some wired
    pub of : IsPartOf wiring link.nets chip.cells wired part
    pub body : part.body ≡ Scan nets
    pub row : ScanRow
    pub meaning : wired.meaning ≡ ScanCell row

  -- so is one with such a body, and one with such a meaning
  pub scan_of_part : (u : ℕ) (part : Part) (nets : ScanNets) → slice_get chip.parts u ≡ Some part → part.body ≡ Scan nets → IsScanAt u nets
  scan_of_part u part nets at is =
      let wired = also_there wiring.parts chip.parts u part link.same_parts at in
      let of = link.parts u wired.0 part wired.1 at in
      let row = body_scan chip.cells wired.0.meaning part.body nets of.meaning is in
      record { part = part; wired = wired.0; is_part = at; is_wired = wired.1; of = of; body = is; row = row.0; meaning = row.1 }

  pub scan_of_wired : (u : ℕ) (wired : WiredPart) → slice_get wiring.parts u ≡ Some wired → IsScan wired.meaning
      → (nets : ScanNets) × IsScanAt u nets
  scan_of_wired u wired at is =
      let part = also_there chip.parts wiring.parts u wired (sym link.same_parts) at in
      let of = link.parts u wired part.0 at part.1 in
      let nets = scan_body chip.cells wired.meaning part.0.body of.meaning is in
      (nets.0, scan_of_part u part.0 nets.0 part.1 nets.1)

  -- the control pins of the instance are on wires of their nets
  module _ (u : ℕ) (nets : ScanNets) (scan : IsScanAt u nets) where
    pub record HasControl (k : ℕ) : Type 0 where
      pub wire : ℕ
      pub control : IsControl wiring u k wire
      pub same : control.part ≡ scan.wired
      pub is_net : IsNetOf wiring link.nets wire (control_net nets k)

    pub control_of : (k : ℕ) → k < 3 → HasControl k
    control_of k few =
        let at : slice_get (input_nets scan.part.body) (2 + k) ≡ Some (control_net nets k) =
        ap (λ body. slice_get (input_nets body) (2 + k)) scan.body ∙ control_input nets k few in
        let found = wire_at wiring link.nets scan.wired.inputs (input_nets scan.part.body) (2 + k) (control_net nets k) scan.of.inputs at in
        record {
          wire = found.wire;
          control = record {
            part = scan.wired;
            is_part = scan.is_wired;
            scan = is_scan scan.wired.meaning scan.row scan.meaning;
            few = few;
            at = found.at;
          };
          same = refl;
          is_net = found.is_net;
        }

    pub net_of_control : (k wire : ℕ) → IsControl wiring u k wire → IsNetOf wiring link.nets wire (control_net nets k)
    net_of_control k wire control =
        let same : control.part ≡ scan.wired = some_inj control.part scan.wired (sym control.is_part ∙ scan.is_wired) in
        let at : slice_get scan.wired.inputs (2 + k) ≡ Some wire = subst (λ (p : WiredPart). slice_get p.inputs (2 + k) ≡ Some wire) same control.at in
        let found = net_at wiring link.nets scan.wired.inputs (input_nets scan.part.body) (2 + k) wire scan.of.inputs at in
        let there : slice_get (input_nets scan.part.body) (2 + k) ≡ Some (control_net nets k) =
        ap (λ body. slice_get (input_nets body) (2 + k)) scan.body ∙ control_input nets k control.few in
        subst (IsNetOf wiring link.nets wire) (some_inj found.net (control_net nets k) (sym found.at ∙ there)) found.is_net

  -- the first scan instance is the same in both
  pub record IsFirstAt (place : ℕ) (first : ScanNets) : Type 0 where
    pub reported : first_scan chip.parts ≡ Some first
    pub scan : IsScanAt place first
    pub is_first : IsFirst (λ (part : WiredPart). IsScan part.meaning) wiring.parts place

  -- a library instance is no scan instance
  gate_unscanned : (u : ℕ) (nets : ScanNets) (part : Part) → IsScanAt u nets → slice_get chip.parts u ≡ Some part → IsGate part.body → ⊥
  gate_unscanned u nets part scan at is =
      let same : part ≡ scan.part = some_inj part scan.part (sym at ∙ scan.is_part) in
      subst IsGate scan.body (subst (λ (p : Part). IsGate p.body) same is)

  -- where there is a scan instance, there is a first
  pub first_of : (u : ℕ) (nets : ScanNets) → IsScanAt u nets → (place : ℕ) × (first : ScanNets) × IsFirstAt place first
  first_of u nets scan =
      let some = some_first chip.parts u scan.part nets scan.is_part scan.body in
      let found = first_scan_at chip.parts some.0 some.1 in
      let place = found.0 in
      let first = found.1 in
      let here = scan_of_part place first.part some.0 first.at first.body in (
        place,
        some.0,
        record {
          reported = some.1;
          scan = here;
          is_first = record {
            here = to_some (λ (part : WiredPart). IsScan part.meaning) (slice_get wiring.parts place) here.wired here.is_wired
                (is_scan here.wired.meaning here.row here.meaning);
            none_before = all_before (λ (part : WiredPart). IsScan part.meaning → ⊥) wiring.parts place
                (λ k wired lt at is.
                let other = scan_of_wired k wired at is in
                gate_unscanned k other.0 other.1.part other.1 other.1.is_part (first.none_before k other.1.part lt other.1.is_part));
          };
        },
      )

  -- and no other is the first
  pub one_first : (place other : ℕ) (first : ScanNets) → IsFirstAt place first
      → IsFirst (λ (part : WiredPart). IsScan part.meaning) wiring.parts other → other ≡ place
  one_first place other first is_first is =
      let there = item_of wiring.parts other (λ (part : WiredPart). IsScan part.meaning) is.here in
      let here = is_first.scan in
      elim (cases_lt other place) [
        | inl less ↦ absurd (before_all (λ (part : WiredPart). IsScan part.meaning → ⊥) wiring.parts place other there.item
            is_first.is_first.none_before less there.at there.has)
        | inr ge ↦ elim (cases_lt place other) [
          | inl less ↦ absurd (before_all (λ (part : WiredPart). IsScan part.meaning → ⊥) wiring.parts other place here.wired
              is.none_before less here.is_wired (is_scan here.wired.meaning here.row here.meaning))
          | inr le ↦ omega (arith, ge, le)
        ]
      ]

  module _ (u : ℕ) (nets : ScanNets) (scan : IsScanAt u nets) (place : ℕ) (first : ScanNets) (is_first : IsFirstAt place first) where
    -- a pin that breaks its rule in the chip breaks it in the wiring
    pub control_reported : (k : ℕ) → k < 3 → breaks_pin chip first nets k ≡ true → (pin : List ℕ)
        → slice_get (control_names scan.wired.meaning) k ≡ Some pin → BreaksControl wiring u k pin
    control_reported k few broken pin named =
        let own = control_of u nets scan k few in
        record {
          wire = own.wire;
          control = own.control;
          named = subst (λ (p : WiredPart). slice_get (control_names p.meaning) k ≡ Some pin) (sym own.same) named;
          broken = elim (breaks_cases chip first nets k few broken) [
            | inl misplaced ↦ elim (or_cases (not (is_on_port chip true (control_net nets k))) (not (eqb (control_net nets k) (control_net first k))) misplaced) [
              | inl off ↦ inl (λ on. true≢false (sym off ∙ ap not (input_on wiring chip link (control_net nets k) own.wire own.is_net on)))
              | inr differs ↦
                  let other = control_of place first is_first.scan k few in
                  inr (inl (
                    place,
                    other.wire,
                    is_first.is_first,
                    other.control,
                    λ joined.
                        let same = joined_one_net wiring link.nets link.are.ascending own.wire other.wire (control_net nets k) (control_net first k) own.is_net other.is_net joined in
                        true≢false (sym differs ∙ ap not (eq-eqb (control_net nets k) (control_net first k) same)),
                  ))
            ]
            | inr (j, before, same) ↦
                let other = control_of u nets scan j (omega (arith, few, before)) in
                inr (inr (
                  j,
                  other.wire,
                  before,
                  other.control,
                  one_net_joined wiring link.nets own.wire other.wire (control_net nets j)
                      (subst (IsNetOf wiring link.nets own.wire) (eqb-true (control_net nets k) (control_net nets j) same) own.is_net) other.is_net,
                ))
          ];
        }

    -- and the other way round
    pub reported_control : (k : ℕ) (pin : List ℕ) → BreaksControl wiring u k pin → breaks_pin chip first nets k ≡ true
    reported_control k pin breaks =
        let few = breaks.control.few in
        let own = net_of_control u nets scan k breaks.wire breaks.control in
        elim breaks.broken [
          | inl off ↦ misplaced_breaks chip first nets k few
              (or_left (not (is_on_port chip true (control_net nets k))) (not (eqb (control_net nets k) (control_net first k)))
              (elim (cases_Bool (is_on_port chip true (control_net nets k))) [
                | inl on ↦ absurd (off (on_input wiring chip link (control_net nets k) breaks.wire own on))
                | inr none ↦ ap not none
              ]))
          | inr (inl (at, other, is, control, apart)) ↦
              let same : at ≡ place = one_first place at first is_first is in
              let there = net_of_control place first is_first.scan k other (subst (λ p. IsControl wiring p k other) same control) in
              misplaced_breaks chip first nets k few
              (or_right (not (is_on_port chip true (control_net nets k))) (not (eqb (control_net nets k) (control_net first k)))
              (elim (cases_Bool (eqb (control_net nets k) (control_net first k))) [
                | inl equal ↦ absurd (apart (one_net_joined wiring link.nets breaks.wire other (control_net first k)
                    (subst (IsNetOf wiring link.nets breaks.wire) (eqb-true (control_net nets k) (control_net first k) equal) own) there))
                | inr differs ↦ ap not differs
              ]))
          | inr (inr (j, other, before, control, joined)) ↦
              let there = net_of_control u nets scan j other control in
              shared_breaks chip first nets k j few before
              (eq-eqb (control_net nets k) (control_net nets j)
              (joined_one_net wiring link.nets link.are.ascending breaks.wire other (control_net nets k) (control_net nets j) own there joined))
        ]

    -- an inverted output with a load has one in the wiring
    three_wires : (wires : List ℕ) (q qn so : ℕ) → AreNetsOf wiring link.nets wires (q ∷ qn ∷ so ∷ [])
        → (a b c : ℕ) × (wires ≡ a ∷ b ∷ c ∷ []) × IsNetOf wiring link.nets b qn
    three_wires [] q qn so are = absurd are
    three_wires (a ∷ []) q qn so are = absurd are.1
    three_wires (a ∷ b ∷ []) q qn so are = absurd are.1.1
    three_wires (a ∷ b ∷ c ∷ []) q qn so are = (a, b, c, refl, are.1.0)
    three_wires (a ∷ b ∷ c ∷ d ∷ more) q qn so are = absurd are.1.1.1

    pub inverted_reported : is_used chip nets.qn ≡ true → UsesInverted wiring u
    inverted_reported used = by nets.qn used (subst (λ body. AreNetsOf wiring link.nets scan.wired.outputs (output_nets body)) scan.body scan.of.outputs)
      where
        by : (qn : Option ℕ) → is_used chip qn ≡ true
            → AreNetsOf wiring link.nets scan.wired.outputs (nets.q ∷ (option_to_list qn ++ nets.so ∷ [])) → UsesInverted wiring u
        by None used are = absurd (true≢false (sym used))
        by (Some qn) used are =
            let three = three_wires scan.wired.outputs nets.q qn nets.so are in
            record {
              part = scan.wired;
              q = three.0;
              qn = three.1;
              so = three.2;
              is_part = scan.is_wired;
              scan = is_scan scan.wired.meaning scan.row scan.meaning;
              outputs = three.3;
              loaded = loaded_wire wiring chip link qn three.1 three.4 used;
            }

    pub reported_inverted : UsesInverted wiring u → is_used chip nets.qn ≡ true
    reported_inverted uses =
        let same : uses.part ≡ scan.wired = some_inj uses.part scan.wired (sym uses.is_part ∙ scan.is_wired) in
        by nets.qn
        (subst (λ wires. AreNetsOf wiring link.nets wires (nets.q ∷ (option_to_list nets.qn ++ nets.so ∷ [])))
        (ap (λ (p : WiredPart). p.outputs) (sym same) ∙ uses.outputs)
        (subst (λ body. AreNetsOf wiring link.nets scan.wired.outputs (output_nets body)) scan.body scan.of.outputs))
      where
        by : (qn : Option ℕ) → AreNetsOf wiring link.nets (uses.q ∷ uses.qn ∷ uses.so ∷ []) (nets.q ∷ (option_to_list qn ++ nets.so ∷ []))
            → is_used chip qn ≡ true
        by None are = absurd are.1.1
        by (Some qn) are = wire_loaded wiring chip link qn uses.qn are.1.0 uses.loaded

-- the instance that is reported, and the pin
module _ (chip : LinkedChip) (misused : Misused) (reported : misused_of chip ≡ Some misused) where
  pub reported_at : IsMisusedAt chip (first_scan chip.parts) chip.parts misused.instance misused.pin
  reported_at =
      let found = misused_at chip (first_scan chip.parts) chip.parts 0 misused reported in
      let same = found.1 in
      subst (λ u. IsMisusedAt chip (first_scan chip.parts) chip.parts u misused.pin)
      (let there : found.0 ≡ misused.instance = omega (arith, same) in there) found.2

-- the body of an instance with such a pin
pub record HasPin (chip : LinkedChip) (body : Body) (pin : ℕ) : Type 0 where
  pub nets : ScanNets
  pub is : body ≡ Scan nets
  pub first : ScanNets
  pub is_first : first_scan chip.parts ≡ Some first
  pub broken : IsFirstPin chip first nets pin

-- an instance with such a pin is a scan instance, beside a first one
pub has_pin : (chip : LinkedChip) (body : Body) (pin : ℕ) → body_fault chip (first_scan chip.parts) body ≡ Some pin → HasPin chip body pin
has_pin chip body pin e = by body (first_scan chip.parts) refl refl e
  where
    by : (other : Body) (first : Option ScanNets) → body ≡ other → first_scan chip.parts ≡ first → body_fault chip first other ≡ Some pin
        → HasPin chip body pin
    by (Gate cell inputs outputs) first is is_first reported = absurd (let clash : None ≡ Some pin = reported in cc)
    by (Scan nets) None is is_first reported = absurd (let clash : None ≡ Some pin = reported in cc)
    by (Scan nets) (Some first) is is_first reported =
        record { nets = nets; is = is; first = first; is_first = is_first; broken = first_pin chip first nets pin reported }

-- the pin is one of four
pub misused_pin : (chip : LinkedChip) (misused : Misused) → misused_of chip ≡ Some misused → misused.pin < 4
misused_pin chip misused reported =
    let at = reported_at chip misused reported in
    (has_pin chip at.part.body misused.pin at.broken).broken.few

-- of a scan instance
pub misused_scan : (chip : LinkedChip) (misused : Misused) → misused_of chip ≡ Some misused
    → IsSomeAnd (slice_get chip.parts misused.instance) (λ part. instances.IsScan part.body)
misused_scan chip misused reported =
    let at = reported_at chip misused reported in
    let has = has_pin chip at.part.body misused.pin at.broken in
    to_some (λ (part : Part). instances.IsScan part.body) (slice_get chip.parts misused.instance) at.part at.at
    (subst instances.IsScan (sym has.is) tt)

module _ (wiring : Wiring) (chip : LinkedChip) (link : IsLinkOf wiring chip) where
  -- a scan instance of the chip, beside the first
  pub record IsJudged (u : ℕ) : Type 0 where
    pub nets : ScanNets
    pub scan : IsScanAt wiring chip link u nets
    pub place : ℕ
    pub first : ScanNets
    pub is_first : IsFirstAt wiring chip link place first
    pub fault : body_fault chip (first_scan chip.parts) scan.part.body ≡ pin_fault chip first nets

  -- each is
  pub judged : (u : ℕ) (nets : ScanNets) → IsScanAt wiring chip link u nets → IsJudged u
  judged u nets scan =
      let found = first_of wiring chip link u nets scan in
      let is_first = found.2 in
      record {
        nets = nets;
        scan = scan;
        place = found.0;
        first = found.1;
        is_first = is_first;
        fault = ap (λ first. body_fault chip first scan.part.body) is_first.reported ∙ ap (body_fault chip (Some found.1)) scan.body;
      }

  judged_wired : (u : ℕ) (wired : WiredPart) → slice_get wiring.parts u ≡ Some wired → IsScan wired.meaning → IsJudged u
  judged_wired u wired at is = let found = scan_of_wired wiring chip link u wired at is in judged u found.0 found.1

  -- a control pin that breaks its rule in the wiring does in the chip
  control_breaks : (u k : ℕ) (pin : List ℕ) → BreaksControl wiring u k pin → (here : IsJudged u) × (breaks_pin chip here.first here.nets k ≡ true)
  control_breaks u k pin breaks =
      let here = judged_wired u breaks.control.part breaks.control.is_part breaks.control.scan in
      (here, reported_control wiring chip link u here.nets here.scan here.place here.first here.is_first k pin breaks)

  -- and so does an inverted output with a load
  inverted_breaks : (u : ℕ) → UsesInverted wiring u → (here : IsJudged u) × (breaks_pin chip here.first here.nets 3 ≡ true)
  inverted_breaks u uses =
      let here = judged_wired u uses.part uses.is_part uses.scan in
      (here, reported_inverted wiring chip link u here.nets here.scan here.place here.first here.is_first uses)

  module _ (misused : Misused) (reported : misused_of chip ≡ Some misused) where
    -- the pin that is reported is the first of its instance that breaks its rule
    first_reported : (u : ℕ) (here : IsJudged u) → u ≡ misused.instance → IsFirstPin chip here.first here.nets misused.pin
    first_reported u here same =
        let at = reported_at chip misused reported in
        let one : here.scan.part ≡ at.part = some_inj here.scan.part at.part
        (sym here.scan.is_part ∙ ap (slice_get chip.parts) same ∙ at.at) in
        first_pin chip here.first here.nets misused.pin
        (sym here.fault ∙ ap (λ (p : Part). body_fault chip (first_scan chip.parts) p.body) one ∙ at.broken)

    -- the instance that is reported
    reported_here : (here : IsJudged misused.instance) × IsFirstPin chip here.first here.nets misused.pin
    reported_here =
        let at = reported_at chip misused reported in
        let has = has_pin chip at.part.body misused.pin at.broken in
        let here = judged misused.instance has.nets (scan_of_part wiring chip link misused.instance at.part has.nets at.at has.is) in
        (here, first_reported misused.instance here refl)

    -- no pin of an earlier instance breaks its rule, and no earlier one of this instance
    none_earlier : (u k : ℕ) (here : IsJudged u) → (u < misused.instance) ⊎ ((u ≡ misused.instance) × (k < misused.pin))
        → breaks_pin chip here.first here.nets k ≡ true → ⊥
    none_earlier u k here (inl before) broken =
        let none = (reported_at chip misused reported).none_before u here.scan.part before here.scan.is_part in
        true≢false (sym broken ∙ no_pin chip here.first here.nets (sym here.fault ∙ none) k)
    none_earlier u k here (inr (same, before)) broken = true≢false (sym broken ∙ (first_reported u here same).none_before k before)

  -- where none is reported, none breaks its rule
  none_at_all : misused_of chip ≡ None → (u k : ℕ) (here : IsJudged u) → breaks_pin chip here.first here.nets k ≡ true → ⊥
  none_at_all none u k here broken =
      let fault = none_misused chip (first_scan chip.parts) chip.parts 0 u here.scan.part none here.scan.is_part in
      true≢false (sym broken ∙ no_pin chip here.first here.nets (sym here.fault ∙ fault) k)

-- the control pin that is reported breaks its rule in the wiring
pub control_broken : (wiring : Wiring) (chip : LinkedChip) (link : IsLinkOf wiring chip) (misused : Misused) → misused_of chip ≡ Some misused
    → misused.pin < 3 → (part : WiredPart) → slice_get wiring.parts misused.instance ≡ Some part
    → (pin : List ℕ) → slice_get (control_names part.meaning) misused.pin ≡ Some pin → BreaksControl wiring misused.instance misused.pin pin
control_broken wiring chip link misused reported few part at pin named =
    let found = reported_here wiring chip link misused reported in
    let here = found.0 in
    let first = found.1 in
    let same : part ≡ here.scan.wired = some_inj part here.scan.wired (sym at ∙ here.scan.is_wired) in
    control_reported wiring chip link misused.instance here.nets here.scan here.place here.first here.is_first misused.pin few first.here pin
    (subst (λ (p : WiredPart). slice_get (control_names p.meaning) misused.pin ≡ Some pin) same named)

-- and so does the inverted output that is reported
pub inverted_used : (wiring : Wiring) (chip : LinkedChip) (link : IsLinkOf wiring chip) (misused : Misused) → misused_of chip ≡ Some misused
    → misused.pin ≡ 3 → UsesInverted wiring misused.instance
inverted_used wiring chip link misused reported last =
    let found = reported_here wiring chip link misused reported in
    let here = found.0 in
    let first = found.1 in
    inverted_reported wiring chip link misused.instance here.nets here.scan here.place here.first here.is_first
    (subst (λ pin. breaks_pin chip here.first here.nets pin ≡ true) last first.here)

-- no control pin before what is reported breaks its rule in the wiring
pub no_earlier_control : (wiring : Wiring) (chip : LinkedChip) (link : IsLinkOf wiring chip) (misused : Misused) → misused_of chip ≡ Some misused
    → (u k : ℕ) (pin : List ℕ) → (u < misused.instance) ⊎ ((u ≡ misused.instance) × (k < misused.pin)) → BreaksControl wiring u k pin → ⊥
no_earlier_control wiring chip link misused reported u k pin before breaks =
    let found = control_breaks wiring chip link u k pin breaks in
    none_earlier wiring chip link misused reported u k found.0 before found.1

-- and no inverted output before it has a load
pub no_earlier_inverted : (wiring : Wiring) (chip : LinkedChip) (link : IsLinkOf wiring chip) (misused : Misused) → misused_of chip ≡ Some misused
    → (u : ℕ) → u < misused.instance → UsesInverted wiring u → ⊥
no_earlier_inverted wiring chip link misused reported u before uses =
    let found = inverted_breaks wiring chip link u uses in
    none_earlier wiring chip link misused reported u 3 found.0 (inl before) found.1

-- where none is reported, each control pin keeps its rule in the wiring
pub controls_kept : (wiring : Wiring) (chip : LinkedChip) (link : IsLinkOf wiring chip) → misused_of chip ≡ None
    → (u k : ℕ) (pin : List ℕ) → BreaksControl wiring u k pin → ⊥
controls_kept wiring chip link none u k pin breaks =
    let found = control_breaks wiring chip link u k pin breaks in
    none_at_all wiring chip link none u k found.0 found.1

-- and no inverted output has a load
pub inverted_kept : (wiring : Wiring) (chip : LinkedChip) (link : IsLinkOf wiring chip) → misused_of chip ≡ None
    → (u : ℕ) → UsesInverted wiring u → ⊥
inverted_kept wiring chip link none u uses =
    let found = inverted_breaks wiring chip link u uses in
    none_at_all wiring chip link none u 3 found.0 found.1

-- The instance that is reported has a row in the scan table, and the control pin its name there.
module _ (raw : RawNetlist) (library : List Named) (scan : List ScanRow) (chip : LinkedChip) (link : IsLinkOf (wiring_of raw library scan) chip)
    (misused : Misused) (reported : misused_of chip ≡ Some misused) (part : Part) (at : slice_get chip.parts misused.instance ≡ Some part) where
  reported_scan : (nets : ScanNets) × IsScanAt (wiring_of raw library scan) chip link misused.instance nets
  reported_scan =
      let here = (reported_here (wiring_of raw library scan) chip link misused reported).0 in
      (here.nets, here.scan)

  pub control_row : (row : ScanRow) × (row_of scan part.cell ≡ Some row)
  control_row =
      let here = reported_scan.1 in
      let same : here.part ≡ part = some_inj here.part part (sym here.is_part ∙ at) in (
        here.row,
        ap (λ (p : Part). row_of scan p.cell) (sym same) ∙ ap (row_of scan) here.of.cell
            ∙ means_row raw library scan misused.instance here.wired here.is_wired here.row here.meaning,
      )

  pub control_reported_by : (row : ScanRow) → row_of scan part.cell ≡ Some row → misused.pin < 3
      → (pin : List ℕ) → slice_get (control_names (ScanCell row)) misused.pin ≡ Some pin
      → BreaksControl (wiring_of raw library scan) misused.instance misused.pin pin
  control_reported_by row is few pin named =
      let here = reported_scan.1 in
      let same : here.part ≡ part = some_inj here.part part (sym here.is_part ∙ at) in
      let there : row_of scan here.wired.cell ≡ Some row =
      ap (row_of scan) (sym here.of.cell) ∙ ap (λ (p : Part). row_of scan p.cell) same ∙ is in
      control_broken (wiring_of raw library scan) chip link misused reported few here.wired here.is_wired pin
      (ap (λ meaning. slice_get (control_names meaning) misused.pin)
      (row_means raw library scan misused.instance here.wired here.is_wired row there) ∙ named)
