-- What is reported about a fault is the first rule that is broken; where nothing is, none is.
use Rattle.std.proofs.Common.{◌≡◌, ℕ, ◌+◌, ◌<◌, ◌⊎◌, List, [], ◌∷◌, length, inl, inr, refl, sym, ◌∙◌, ap, ap₂}
use Rattle.std.proofs.Common.{subst, arith}
use Rattle.std.specs.Prelude.{Option, Some, None}
use Rattle.ca_cell.specs.Library.{Named}
use Rattle.ca_verilog.specs.declared.raw.RawNetlist.{RawNetlist}
use Rattle.ca_wiring.specs.declared.scan_row.ScanRow.{ScanRow}
use Rattle.ca_wiring.specs.declared.fault.ChipFault.{ChipFault}
use Rattle.ca_wiring.specs.declared.fault.ChipFault.TheVariants as fault
use Rattle.ca_wiring.specs.InstanceRules.{AreSound}
use Rattle.ca_wiring.specs.Wiring.{Wiring, wiring_of}
use Rattle.ca_wiring.specs.Nets.{FeedsWire}
use Rattle.ca_wiring.specs.Linking.{IsLinkOf}
use Rattle.ca_wiring.specs.Rules.{IsEarlier, KeepsRules, IsCause}
use Rattle.ca_linked.specs.declared.controls.Misused.{Misused}
use Rattle.ca_linked.specs.declared.drivers.Sources.{Sources}
use Rattle.ca_linked.specs.declared.parts.Source.{Source}
use Rattle.ca_linked.specs.declared.wiring.WireFault.{WireFault}
use Rattle.ca_linked.specs.declared.wiring.WireFault.TheVariants as wire_fault
use Rattle.ca_linked.specs.Order.{IsLoop}
use Rattle.ca_linked.specs.Linked.{LinkedChip, IsWired, Drives, inputs_of, outputs_of}
use Rattle.ca_linked.specs.Instances.{gates_of}
use Rattle.ca_linked.specs.Drivers.{AreFirst, IsSingle}
use Rattle.ca_linked.specs.Controls.{misused_of}
use Rattle.ca_linked.specs.Paths.{IsFirstObserved}
use Rattle.ca_linked.specs.Wired.{IsFirstMisdriven, AreDriven, KeepsNetRules, IsWireCause}
use Rattle.ca_link.specs.code.Stages.{IsMisused, PassesLimit}
use Rattle.ca_link.specs.code.Reported.{ReportsMisdriven, ReportsMisused, ReportsFault}
use Rattle.ca_link.specs.code.Limits.{chip_defects, first_limit}
use Rattle.ca_link.proofs.ControlLemmas.{control_broken, inverted_used, misused_pin, no_earlier_control}
use Rattle.ca_link.proofs.ControlLemmas.{no_earlier_inverted, controls_kept, inverted_kept}
use Rattle.ca_link.proofs.DriverLemmas.{driven_keeps, none_misdriven_before, is_undriven, is_double_driven}
use Rattle.ca_link.proofs.LimitLemmas.{instances_are, defects_are, keeps_limits, ReportsLimit, reports_limit}
use Rattle.ca_link.proofs.LoopLemmas.{loop_is, no_loop}
use Rattle.ca_link.proofs.NameLemmas.{reported_driver, reported_control}
use Rattle.ca_link.proofs.PathLemmas.{observed_path, none_observed_before, unobserved}
use Rattle.ca_link.proofs.StageLemmas.{KeepsAt, keeps_rules, first_broken, no_later, earlier_place}
use Rattle.ca_link.proofs.StageLemmas.{earlier_pin, not_earlier_alone}

module _ (raw : RawNetlist) (library : List Named) (scan : List ScanRow) (chip : LinkedChip) (link : IsLinkOf (wiring_of raw library scan) chip) where
  -- a control pin or an inverted output before this place breaks no rule
  none_misused_before : (misused : Misused) → misused_of chip ≡ Some misused → (u k : ℕ) → IsMisused (wiring_of raw library scan) u k
      → (u < misused.instance) ⊎ ((u ≡ misused.instance) × (k < misused.pin)) → ⊥
  none_misused_before misused reported u k (inl (pin, breaks)) before =
      no_earlier_control (wiring_of raw library scan) chip link misused reported u k pin before breaks
  none_misused_before misused reported u k (inr (last, uses)) (inl less) =
      no_earlier_inverted (wiring_of raw library scan) chip link misused reported u less uses
  none_misused_before misused reported u k (inr (last, uses)) (inr (same, less)) =
      let few = misused_pin chip misused reported in omega (arith, few, less, last)

  -- and none does where nothing is reported
  none_misused : misused_of chip ≡ None → (u k : ℕ) → IsMisused (wiring_of raw library scan) u k → ⊥
  none_misused reported u k (inl (pin, breaks)) = controls_kept (wiring_of raw library scan) chip link reported u k pin breaks
  none_misused reported u k (inr (last, uses)) = inverted_kept (wiring_of raw library scan) chip link reported u uses

  module _ (sound : AreSound raw library scan) where
    -- the rules before that on the drivers of a net are kept
    before_net : (net : ℕ) (sources : Sources) → IsFirstMisdriven chip net sources → KeepsAt raw library scan (λ at. IsEarlier at (2 ∷ net ∷ []))
    before_net net sources first = record {
      sound = sound;
      nets = λ n broken earlier.
          none_misdriven_before (wiring_of raw library scan) chip link net sources first n (earlier_place 2 n net earlier) broken;
      scans = λ u k broken earlier. no_later 3 2 (u ∷ k ∷ []) (net ∷ []) (omega arith) earlier;
      paths = λ n broken earlier. no_later 4 2 (n ∷ []) (net ∷ []) (omega arith) earlier;
      loops = λ loop broken earlier. no_later 5 2 [] (net ∷ []) (omega arith) earlier;
      limits = λ k broken earlier. no_later 6 2 (k ∷ []) (net ∷ []) (omega arith) earlier;
    }

    before_pin : AreDriven chip → (misused : Misused) → misused_of chip ≡ Some misused
        → KeepsAt raw library scan (λ at. IsEarlier at (3 ∷ misused.instance ∷ misused.pin ∷ []))
    before_pin driven misused reported = record {
      sound = sound;
      nets = λ n broken earlier. driven_keeps (wiring_of raw library scan) chip link driven n broken;
      scans = λ u k broken earlier. none_misused_before misused reported u k broken (earlier_pin 3 u k misused.instance misused.pin earlier);
      paths = λ n broken earlier. no_later 4 3 (n ∷ []) (misused.instance ∷ misused.pin ∷ []) (omega arith) earlier;
      loops = λ loop broken earlier. no_later 5 3 [] (misused.instance ∷ misused.pin ∷ []) (omega arith) earlier;
      limits = λ k broken earlier. no_later 6 3 (k ∷ []) (misused.instance ∷ misused.pin ∷ []) (omega arith) earlier;
    }

    before_path : AreDriven chip → misused_of chip ≡ None → (net : ℕ) → IsFirstObserved chip net
        → KeepsAt raw library scan (λ at. IsEarlier at (4 ∷ net ∷ []))
    before_path driven used net first = record {
      sound = sound;
      nets = λ n broken earlier. driven_keeps (wiring_of raw library scan) chip link driven n broken;
      scans = λ u k broken earlier. none_misused used u k broken;
      paths = λ n broken earlier.
          none_observed_before (wiring_of raw library scan) chip link net first n (earlier_place 4 n net earlier) broken;
      loops = λ loop broken earlier. no_later 5 4 [] (net ∷ []) (omega arith) earlier;
      limits = λ k broken earlier. no_later 6 4 (k ∷ []) (net ∷ []) (omega arith) earlier;
    }

    before_loop : KeepsNetRules chip → KeepsAt raw library scan (λ at. IsEarlier at (5 ∷ []))
    before_loop kept = record {
      sound = sound;
      nets = λ n broken earlier. driven_keeps (wiring_of raw library scan) chip link kept.driven n broken;
      scans = λ u k broken earlier. none_misused kept.used u k broken;
      paths = λ n broken earlier. unobserved (wiring_of raw library scan) chip link kept.unobserved n broken;
      loops = λ loop broken earlier. not_earlier_alone 5 earlier;
      limits = λ k broken earlier. no_later 6 5 (k ∷ []) [] (omega arith) earlier;
    }

    misdriven_cause : (net : ℕ) (sources : Sources) (first : IsFirstMisdriven chip net sources) (reported : ChipFault) (one two : Option Source)
        → AreFirst (Drives chip net) one two → (IsSingle (record { first = one; second = two }) → ⊥) → ReportsMisdriven chip scan net one two reported
        → IsCause raw library scan reported
    misdriven_cause net sources first reported None None none flawed reports =
        subst (IsCause raw library scan) (sym reports)
        (first_broken raw library scan (2 ∷ net ∷ []) (fault.Undriven (record { 0 = net }))
        (refl, is_undriven (wiring_of raw library scan) chip link net first.within none) (before_net net sources first))
    misdriven_cause net sources first reported None (Some two) none flawed reports = absurd none
    misdriven_cause net sources first reported (Some one) None single flawed reports =
        absurd (flawed (record { some = refl; no_second = refl }))
    misdriven_cause net sources first reported (Some one) (Some two) are flawed (left, right, reports_left, reports_right, reports) =
        subst (IsCause raw library scan) (sym reports)
        (first_broken raw library scan (2 ∷ net ∷ []) (fault.DoubleDriven (record { 0 = net }) left right) (
          refl,
          is_double_driven (wiring_of raw library scan) chip link net first.within one two are left right
              (reported_driver raw library scan chip link net one left reports_left) (reported_driver raw library scan chip link net two right reports_right),
        )
        (before_net net sources first))

    misused_cause : AreDriven chip → (misused : Misused) → misused_of chip ≡ Some misused → (reported : ChipFault) → ReportsMisused chip scan misused reported
        → IsCause raw library scan reported
    misused_cause driven misused is reported (inl (last, reports)) =
        subst (IsCause raw library scan) (sym reports)
        (first_broken raw library scan (3 ∷ misused.instance ∷ misused.pin ∷ []) (fault.QnUsed (record { 0 = misused.instance }))
        (ap (λ k. 3 ∷ misused.instance ∷ k ∷ []) last, inverted_used (wiring_of raw library scan) chip link misused is last)
        (before_pin driven misused is))
    misused_cause driven misused is reported (inr (few, (name, is_name, reports))) =
        let control = reported_control raw library scan chip link misused.instance misused.pin name is_name in
        subst (IsCause raw library scan) (sym reports)
        (first_broken raw library scan (3 ∷ misused.instance ∷ misused.pin ∷ []) (fault.ControlPin (record { 0 = misused.instance }) name)
        (misused.pin, refl, control_broken (wiring_of raw library scan) chip link misused is few control.wired control.at name control.named)
        (before_pin driven misused is))

    -- what is reported about a fault of nets is why the netlist isn't linked
    pub wire_cause : (broken : WireFault) → IsWireCause chip broken → (reported : ChipFault) → ReportsFault chip scan broken reported → IsCause raw library scan reported
    wire_cause (wire_fault.Misdriven net sources) first reported reports =
        misdriven_cause net sources first reported sources.first sources.second first.first first.flawed reports
    wire_cause (wire_fault.Misused misused) (driven, is) reported reports = misused_cause driven misused is reported reports
    wire_cause (wire_fault.Observed net) (driven, used, first) reported reports =
        subst (IsCause raw library scan) (sym reports)
        (first_broken raw library scan (4 ∷ net ∷ []) (fault.ControlObserved (record { 0 = net }))
        (refl, observed_path (wiring_of raw library scan) chip link driven used net first) (before_path driven used net first))
    wire_cause (wire_fault.Loop loop) (kept, (is, once)) reported reports =
        subst (IsCause raw library scan) (sym reports) (
          first_broken raw library scan (5 ∷ []) (fault.Loop loop) (refl, loop_is (wiring_of raw library scan) chip link loop is) (before_loop kept),
          once,
        )
    wire_cause wire_fault.NoMemory cause reported reports = subst (IsCause raw library scan) (sym reports) tt

    module _ (kept : KeepsNetRules chip) (loops : (loop : List ℕ) → IsLoop (FeedsWire (wiring_of raw library scan)) loop → ⊥) where
      -- the rules before a limit are kept
      before_limit : (most : ℕ) → ((k : ℕ) → PassesLimit (wiring_of raw library scan) k → k < most → ⊥)
          → KeepsAt raw library scan (λ at. IsEarlier at (6 ∷ most ∷ []))
      before_limit most limits = record {
        sound = sound;
        nets = λ n broken earlier. driven_keeps (wiring_of raw library scan) chip link kept.driven n broken;
        scans = λ u k broken earlier. none_misused kept.used u k broken;
        paths = λ n broken earlier. unobserved (wiring_of raw library scan) chip link kept.unobserved n broken;
        loops = λ loop broken earlier. loops loop broken;
        limits = λ k broken earlier. limits k broken (earlier_place 6 k most earlier);
      }

      -- the first limit that is passed is why the netlist isn't linked
      pub limit_cause : (reported : Option ChipFault) → ReportsLimit chip (chip_defects chip) reported → (broken : ChipFault) → reported ≡ Some broken
          → IsCause raw library scan broken
      limit_cause reported (inl (is, past)) broken e =
          let same : broken ≡ fault.TooManyInstances (length (gates_of chip)) = cc in
          subst (IsCause raw library scan) (sym same)
          (first_broken raw library scan (6 ∷ 0 ∷ []) (fault.TooManyInstances (length (gates_of chip)))
          (refl, sym (instances_are (wiring_of raw library scan) chip link), past)
          (before_limit 0 (λ k passes lt. omega (arith, lt))))
      limit_cause reported (inr (inl (is, past, instances))) broken e =
          let same : broken ≡ fault.TooManyInputs (length (inputs_of chip)) = cc in
          subst (IsCause raw library scan) (sym same)
          (first_broken raw library scan (6 ∷ 1 ∷ []) (fault.TooManyInputs (length (inputs_of chip)))
          (refl, (chip, link, refl, past))
          (before_limit 1 (keeps_limits (wiring_of raw library scan) chip link 1 (λ lt. instances) (λ lt p. omega (arith, lt)) (λ lt p. omega (arith, lt))
          (λ lt p. omega (arith, lt)))))
      limit_cause reported (inr (inr (inl (is, past, instances, inputs)))) broken e =
          let same : broken ≡ fault.TooManyOutputs (length (outputs_of chip)) = cc in
          subst (IsCause raw library scan) (sym same)
          (first_broken raw library scan (6 ∷ 2 ∷ []) (fault.TooManyOutputs (length (outputs_of chip)))
          (refl, (chip, link, refl, past))
          (before_limit 2 (keeps_limits (wiring_of raw library scan) chip link 2 (λ lt. instances) (λ lt. inputs) (λ lt p. omega (arith, lt))
          (λ lt p. omega (arith, lt)))))
      limit_cause reported (inr (inr (inr (inl (is, past, instances, inputs, outputs))))) broken e =
          let same : broken ≡ fault.TooManyDefects (chip_defects chip) = cc in
          subst (IsCause raw library scan) (sym same)
          (first_broken raw library scan (6 ∷ 3 ∷ []) (fault.TooManyDefects (chip_defects chip))
          (refl, sym (defects_are (wiring_of raw library scan) chip link), past)
          (before_limit 3 (keeps_limits (wiring_of raw library scan) chip link 3 (λ lt. instances) (λ lt. inputs) (λ lt. outputs)
          (λ lt p. omega (arith, lt)))))
      limit_cause reported (inr (inr (inr (inr (is, instances, inputs, outputs, defects))))) broken e = absurd (let clash : Some broken ≡ None = sym e ∙ is in cc)

      -- and where none is passed, no rule is broken
      pub limits_kept : (reported : Option ChipFault) → ReportsLimit chip (chip_defects chip) reported → reported ≡ None → KeepsRules raw library scan
      limits_kept reported (inl (is, past)) e = absurd (let clash : Some _ ≡ None = sym is ∙ e in cc)
      limits_kept reported (inr (inl (is, past, instances))) e = absurd (let clash : Some _ ≡ None = sym is ∙ e in cc)
      limits_kept reported (inr (inr (inl (is, past, instances, inputs)))) e = absurd (let clash : Some _ ≡ None = sym is ∙ e in cc)
      limits_kept reported (inr (inr (inr (inl (is, past, instances, inputs, outputs))))) e = absurd (let clash : Some _ ≡ None = sym is ∙ e in cc)
      limits_kept reported (inr (inr (inr (inr (is, instances, inputs, outputs, defects))))) e =
          keeps_rules raw library scan (record {
            sound = sound;
            nets = λ n broken here. driven_keeps (wiring_of raw library scan) chip link kept.driven n broken;
            scans = λ u k broken here. none_misused kept.used u k broken;
            paths = λ n broken here. unobserved (wiring_of raw library scan) chip link kept.unobserved n broken;
            loops = λ loop broken here. loops loop broken;
            limits = λ k broken here. keeps_limits (wiring_of raw library scan) chip link (k + 1) (λ lt. instances) (λ lt. inputs) (λ lt. outputs)
                (λ lt. defects) k broken (omega arith);
          })

-- a chip with an order is a link where it is one without
pub link_ordered : (wiring : Wiring) (chip : LinkedChip) (order : List ℕ) → IsLinkOf wiring chip → IsLinkOf wiring (record chip { order = order })
link_ordered wiring chip order link = record {
  nets = link.nets;
  are = link.are;
  count = link.count;
  constants = link.constants;
  same_parts = link.same_parts;
  parts = link.parts;
  same_ports = link.same_ports;
  ports = link.ports;
}

-- the chip that is made of a draft
module _ (raw : RawNetlist) (library : List Named) (scan : List ScanRow) (draft : LinkedChip) (link : IsLinkOf (wiring_of raw library scan) draft)
    (sound : AreSound raw library scan) (kept : KeepsNetRules draft) (made : LinkedChip) (is : made ≡ record draft { order = made.order }) where
  -- is a link as well
  pub made_link : IsLinkOf (wiring_of raw library scan) made
  made_link = subst (IsLinkOf (wiring_of raw library scan)) (sym is) (link_ordered (wiring_of raw library scan) draft made.order link)

  module _ (wired : IsWired made) (defects : ℕ) (count : defects ≡ chip_defects draft) where
    made_loops : (loop : List ℕ) → IsLoop (FeedsWire (wiring_of raw library scan)) loop → ⊥
    made_loops loop broken = no_loop (wiring_of raw library scan) made made_link wired loop broken

    same_limit : first_limit made defects ≡ first_limit draft (chip_defects draft)
    same_limit = ap₂ first_limit is count

    -- the limit that it passes first is why the netlist isn't linked
    pub made_cause : (broken : ChipFault) → first_limit made defects ≡ Some broken → IsCause raw library scan broken
    made_cause broken reported =
        limit_cause raw library scan draft link sound kept made_loops (first_limit draft (chip_defects draft))
        (reports_limit draft (chip_defects draft)) broken (sym same_limit ∙ reported)

    -- where it passes none, no rule is broken
    pub made_kept : first_limit made defects ≡ None → KeepsRules raw library scan
    made_kept reported =
        limits_kept raw library scan draft link sound kept made_loops (first_limit draft (chip_defects draft))
        (reports_limit draft (chip_defects draft)) (sym same_limit ∙ reported)
