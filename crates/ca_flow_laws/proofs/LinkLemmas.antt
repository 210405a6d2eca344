-- What is reported of inputs that don't link, or give a chip without chains, is one fault; of several loops any
-- may be reported.
use Rattle.std.proofs.Common.{ℕ, ◌≡◌, ◌≢◌, ◌∙◌, inl, inr, refl, sym, ap, subst, List, Option, Some, None}
use Rattle.std.specs.Prelude.{IsSomeAnd, slice_get}
use Rattle.ca_lex.specs.Words.{upper_case}
use Rattle.ca_cell.specs.declared.rule.CellRule.{CellRule}
use Rattle.ca_cell.specs.Library.{Named}
use Rattle.ca_verilog.specs.declared.raw.RawInstance.{RawInstance}
use Rattle.ca_verilog.specs.declared.raw.RawNetlist.{RawNetlist}
use Rattle.ca_linked.specs.declared.instances.InstanceId.{InstanceId}
use Rattle.ca_linked.specs.declared.parts.Part.{Part}
use Rattle.ca_linked.specs.Linked.{LinkedChip}
use Rattle.ca_wiring.specs.declared.scan_row.ScanRow.{ScanRow}
use Rattle.ca_wiring.specs.declared.fault.ChipFault.{ChipFault}
use Rattle.ca_wiring.specs.declared.fault.ChipFault.TheVariants as rule
use Rattle.ca_wiring.specs.Wiring.{wiring_of}
use Rattle.ca_link_laws.specs.Alike.{AreAlike}
use Rattle.ca_link_laws.specs.Laws as link
use Rattle.ca_link_laws.proofs.AlikeLemmas.{item_at}
use Rattle.ca_link_laws.proofs.BrokenLemmas.{first_broken}
use Rattle.ca_link_laws.proofs.DrivingLemmas.{one_wire}
use Rattle.ca_link_laws.proofs.TraceLemmas.{one_trace}
use Rattle.ca_scan.specs.declared.fault.ChainFault.{ChainFault}
use Rattle.ca_scan.specs.declared.fault.ChainFault.TheVariants as chain
use Rattle.ca_scan.specs.ChainFault.{IsChainCause}
use Rattle.ca_scan.proofs.AnswerLemmas.{one_answer}
use Rattle.ca_fault_place.specs.Names.{wire_text}
use Rattle.ca_fault_place.specs.Place.{net_text, double_text, OfNet, ReportsPlace}
use Rattle.ca_fault.specs.declared.fault.LimitKind.TheVariants as limit
use Rattle.ca_fault.specs.declared.fault.Fault.{Fault}
use Rattle.ca_fault.specs.declared.fault.Fault.TheVariants.{Cell, Chain, Limit}
use Rattle.ca_fault.specs.declared.fault.Fault.TheVariants as fault_
use Rattle.ca_load.specs.Texts.{Inputs}
use Rattle.ca_load.specs.Chips.{BreakFirst, IsPlainRule, IsOfCell, IsPlaceOf, IsLinkingCause, IsTracingCause, IsTraced}
use Rattle.ca_flow_laws.specs.Same.{AreLoops, IsSame}

-- the place of a fault of linking is one
module _ (raw : RawNetlist) (library : List Named) (scan : List ScanRow) (text other : List ℕ) where
  one_net : (net : ℕ) (text_of : List ℕ → List ℕ) → OfNet raw library scan net text_of text → OfNet raw library scan net text_of other → text ≡ other
  one_net net text_of (wire, at, is) (also, at_also, is_also) =
      is ∙ ap (λ it. wire_text raw.buses it text_of) (one_wire (wiring_of raw library scan) net wire also at at_also) ∙ sym is_also

  one_place : (broken : ChipFault) → ReportsPlace raw library scan broken text → ReportsPlace raw library scan broken other → text ≡ other
  one_place (rule.UnknownCell u) is also = is ∙ sym also
  one_place (rule.Cell u broken) is also = is ∙ sym also
  one_place (rule.UnknownPin u pin) is also = is ∙ sym also
  one_place (rule.MissingPin u pin) is also = is ∙ sym also
  one_place (rule.DoubleDriven net first second) is also = one_net net.0 (λ name. double_text raw.instances name first second) is also
  one_place (rule.Undriven net) is also = one_net net.0 net_text is also
  one_place (rule.ControlPin u pin) is also = is ∙ sym also
  one_place (rule.ControlObserved net) is also = one_net net.0 net_text is also
  one_place (rule.QnUsed u) is also = is ∙ sym also
  one_place (rule.Loop instances) is also = is ∙ sym also
  one_place (rule.TooManyInstances count) is also = is ∙ sym also
  one_place (rule.TooManyInputs count) is also = is ∙ sym also
  one_place (rule.TooManyOutputs count) is also = is ∙ sym also
  one_place (rule.TooManyDefects count) is also = is ∙ sym also
  one_place rule.NoMemory is also = is ∙ sym also

-- the fault reports the broken rule as it is, with its place
pub record IsPlain (inputs : Inputs) (broken : ChipFault) (fault : Fault) : Type 0 where
  pub place : List ℕ
  pub placed : IsPlaceOf inputs broken place
  pub is : fault ≡ fault_.Chip broken place

-- it reports the rule of a cell, with the cell's name and the place
pub record IsOfRefused (inputs : Inputs) (u : InstanceId) (broken : CellRule) (fault : Fault) : Type 0 where
  pub name : List ℕ
  pub place : List ℕ
  pub named : IsOfCell inputs.netlist u name
  pub placed : IsPlaceOf inputs (rule.Cell u broken) place
  pub is : fault ≡ Cell name broken place

-- the fault reports the broken rule
abbrev pub IsReportedBy : Inputs → ChipFault → Fault → Type 0
IsReportedBy inputs (rule.UnknownCell u) fault = IsPlain inputs (rule.UnknownCell u) fault
IsReportedBy inputs (rule.Cell u broken) fault = IsOfRefused inputs u broken fault
IsReportedBy inputs (rule.UnknownPin u pin) fault = IsPlain inputs (rule.UnknownPin u pin) fault
IsReportedBy inputs (rule.MissingPin u pin) fault = IsPlain inputs (rule.MissingPin u pin) fault
IsReportedBy inputs (rule.DoubleDriven net first second) fault = IsPlain inputs (rule.DoubleDriven net first second) fault
IsReportedBy inputs (rule.Undriven net) fault = IsPlain inputs (rule.Undriven net) fault
IsReportedBy inputs (rule.ControlPin u pin) fault = IsPlain inputs (rule.ControlPin u pin) fault
IsReportedBy inputs (rule.ControlObserved net) fault = IsPlain inputs (rule.ControlObserved net) fault
IsReportedBy inputs (rule.QnUsed u) fault = IsPlain inputs (rule.QnUsed u) fault
IsReportedBy inputs (rule.Loop instances) fault = IsPlain inputs (rule.Loop instances) fault
IsReportedBy inputs (rule.TooManyInstances count) fault = fault ≡ Limit limit.Instances count
IsReportedBy inputs (rule.TooManyInputs count) fault = fault ≡ Limit limit.Inputs count
IsReportedBy inputs (rule.TooManyOutputs count) fault = fault ≡ Limit limit.Outputs count
IsReportedBy inputs (rule.TooManyDefects count) fault = fault ≡ Limit limit.Defects count
IsReportedBy inputs rule.NoMemory fault = ⊥

-- what is reported of inputs that don't link
pub record AtLink (inputs : Inputs) (fault : Fault) : Type 0 where
  pub broken : ChipFault
  pub first : BreakFirst inputs broken
  pub reported : IsReportedBy inputs broken fault

module _ (inputs : Inputs) where
  plain_reported : (broken : ChipFault) (fault : Fault) → IsPlainRule broken → IsPlain inputs broken fault → IsReportedBy inputs broken fault
  plain_reported (rule.UnknownCell u) fault is reported = reported
  plain_reported (rule.Cell u broken) fault is reported = absurd is
  plain_reported (rule.UnknownPin u pin) fault is reported = reported
  plain_reported (rule.MissingPin u pin) fault is reported = reported
  plain_reported (rule.DoubleDriven net first second) fault is reported = reported
  plain_reported (rule.Undriven net) fault is reported = reported
  plain_reported (rule.ControlPin u pin) fault is reported = reported
  plain_reported (rule.ControlObserved net) fault is reported = reported
  plain_reported (rule.QnUsed u) fault is reported = reported
  plain_reported (rule.Loop instances) fault is reported = reported
  plain_reported (rule.TooManyInstances count) fault is reported = absurd is
  plain_reported (rule.TooManyInputs count) fault is reported = absurd is
  plain_reported (rule.TooManyOutputs count) fault is reported = absurd is
  plain_reported (rule.TooManyDefects count) fault is reported = absurd is
  plain_reported rule.NoMemory fault is reported = absurd is

  pub of_link : (fault : Fault) → IsLinkingCause inputs fault → AtLink inputs fault
  of_link (Cell name broken place) (u, (of, (first, placed))) = record {
    broken = rule.Cell u broken;
    first = first;
    reported = record { name = name; place = place; named = of; placed = placed; is = refl };
  }
  of_link (fault_.Chip broken place) (plain, (first, placed)) = record {
    broken = broken;
    first = first;
    reported = plain_reported broken (fault_.Chip broken place) plain (record { place = place; placed = placed; is = refl });
  }
  of_link (Limit limit.Instances count) first = record { broken = rule.TooManyInstances count; first = first; reported = refl }
  of_link (Limit limit.Inputs count) first = record { broken = rule.TooManyInputs count; first = first; reported = refl }
  of_link (Limit limit.Outputs count) first = record { broken = rule.TooManyOutputs count; first = first; reported = refl }
  of_link (Limit limit.Defects count) first = record { broken = rule.TooManyDefects count; first = first; reported = refl }
  of_link fault cause = absurd cause

  one_plain : (broken : ChipFault) (fault other : Fault) → IsPlain inputs broken fault → IsPlain inputs broken other → fault ≡ other
  one_plain broken fault other reported also =
      reported.is ∙ ap (fault_.Chip broken) (one_place inputs.netlist inputs.library inputs.rows reported.place also.place broken reported.placed also.placed)
      ∙ sym also.is

  -- an instance is of one cell
  one_cell_name : (u : InstanceId) (name other : List ℕ) → IsOfCell inputs.netlist u name → IsOfCell inputs.netlist u other → name ≡ other
  one_cell_name u name other of also = by (slice_get inputs.netlist.instances u.0) of also
    where
      by : (found : Option RawInstance) → IsSomeAnd found (λ instance. name ≡ upper_case instance.cell)
          → IsSomeAnd found (λ instance. other ≡ upper_case instance.cell) → name ≡ other
      by None of also = absurd of
      by (Some instance) of also = of ∙ sym also

  one_refused : (u : InstanceId) (broken : CellRule) (fault other : Fault) → IsOfRefused inputs u broken fault → IsOfRefused inputs u broken other
      → fault ≡ other
  one_refused u broken fault other reported also =
      let name = one_cell_name u reported.name also.name reported.named also.named in
      let place = one_place inputs.netlist inputs.library inputs.rows reported.place also.place (rule.Cell u broken) reported.placed also.placed in
      reported.is ∙ (λ j. Cell (name j) broken (place j)) ∙ sym also.is

  -- a broken rule is reported by one fault
  one_reported : (broken : ChipFault) (fault other : Fault) → IsReportedBy inputs broken fault → IsReportedBy inputs broken other → fault ≡ other
  one_reported (rule.UnknownCell u) fault other reported also = one_plain (rule.UnknownCell u) fault other reported also
  one_reported (rule.Cell u broken) fault other reported also = one_refused u broken fault other reported also
  one_reported (rule.UnknownPin u pin) fault other reported also = one_plain (rule.UnknownPin u pin) fault other reported also
  one_reported (rule.MissingPin u pin) fault other reported also = one_plain (rule.MissingPin u pin) fault other reported also
  one_reported (rule.DoubleDriven net first second) fault other reported also = one_plain (rule.DoubleDriven net first second) fault other reported also
  one_reported (rule.Undriven net) fault other reported also = one_plain (rule.Undriven net) fault other reported also
  one_reported (rule.ControlPin u pin) fault other reported also = one_plain (rule.ControlPin u pin) fault other reported also
  one_reported (rule.ControlObserved net) fault other reported also = one_plain (rule.ControlObserved net) fault other reported also
  one_reported (rule.QnUsed u) fault other reported also = one_plain (rule.QnUsed u) fault other reported also
  one_reported (rule.Loop instances) fault other reported also = one_plain (rule.Loop instances) fault other reported also
  one_reported (rule.TooManyInstances count) fault other reported also = reported ∙ sym also
  one_reported (rule.TooManyInputs count) fault other reported also = reported ∙ sym also
  one_reported (rule.TooManyOutputs count) fault other reported also = reported ∙ sym also
  one_reported (rule.TooManyDefects count) fault other reported also = reported ∙ sym also
  one_reported rule.NoMemory fault other reported also = absurd reported

  -- two loops are reported as loops
  both_loops : (broken also : ChipFault) (fault other : Fault) → link.AreLoops broken also → IsReportedBy inputs broken fault → IsReportedBy inputs also other
      → AreLoops fault other
  both_loops (rule.Loop instances) (rule.Loop others) fault other loops reported also =
      let both : AreLoops (fault_.Chip (rule.Loop instances) reported.place) (fault_.Chip (rule.Loop others) also.place) = tt in
      subst (λ it. AreLoops it other) (sym reported.is) (subst (AreLoops (fault_.Chip (rule.Loop instances) reported.place)) (sym also.is) both)
  both_loops broken also fault other loops reported reported_also = absurd loops

  pub one_link : (fault other : Fault) → AtLink inputs fault → AtLink inputs other → IsSame fault other
  one_link fault other here there =
      elim (first_broken inputs.netlist inputs.library inputs.rows here.broken there.broken here.first there.first) [
        | inl same ↦ inl (one_reported there.broken fault other (subst (λ it. IsReportedBy inputs it fault) same here.reported) there.reported)
        | inr loops ↦ inr (both_loops here.broken there.broken fault other loops here.reported there.reported)
      ]

-- the fault says why a chip has no chains
abbrev pub IsTracedBy : LinkedChip → ChainFault → Fault → Type 0
IsTracedBy chip (chain.ChainBroken u) fault =
    (name : List ℕ) × (IsSomeAnd (slice_get chip.parts u.0) (λ part. name ≡ part.name) × (fault ≡ Chain name))
IsTracedBy chip (chain.TooManyChains count) fault = fault ≡ Limit limit.Chains count
IsTracedBy chip chain.NoMemory fault = ⊥

-- what is reported of a chip without chains
pub record AtTrace (chip : LinkedChip) (fault : Fault) : Type 0 where
  pub broken : ChainFault
  pub cause : IsChainCause chip broken
  pub reported : IsTracedBy chip broken fault

pub of_trace : (chip : LinkedChip) (fault : Fault) → IsTracingCause fault chip → AtTrace chip fault
of_trace chip (Chain name) (u, (off, named)) =
    record { broken = chain.ChainBroken (record { 0 = u }); cause = off; reported = (name, (named, refl)) }
of_trace chip (Limit limit.Chains count) many = record { broken = chain.TooManyChains count; cause = many; reported = refl }
of_trace chip fault cause = absurd cause

some_memory : (chip : LinkedChip) (broken : ChainFault) (fault : Fault) → IsTracedBy chip broken fault → broken ≢ chain.NoMemory
some_memory chip (chain.ChainBroken u) fault reported same = cc
some_memory chip (chain.TooManyChains count) fault reported same = cc
some_memory chip chain.NoMemory fault reported same = reported

one_traced : (chip : LinkedChip) (broken : ChainFault) (fault other : Fault) → IsTracedBy chip broken fault → IsTracedBy chip broken other → fault ≡ other
one_traced chip (chain.ChainBroken u) fault other (name, (named, is)) (also, (named_also, is_also)) =
    is ∙ ap Chain (by (slice_get chip.parts u.0) named named_also) ∙ sym is_also
  where
    by : (found : Option Part) → IsSomeAnd found (λ part. name ≡ part.name) → IsSomeAnd found (λ part. also ≡ part.name) → name ≡ also
    by None one other = absurd one
    by (Some part) one other = one ∙ sym other
one_traced chip (chain.TooManyChains count) fault other reported also = reported ∙ sym also
one_traced chip chain.NoMemory fault other reported also = absurd reported

-- of a chip that is alike the same is reported
traced_alike : (chip also : LinkedChip) → AreAlike chip also → (broken : ChainFault) (fault : Fault) → IsTracedBy chip broken fault → IsTracedBy also broken fault
traced_alike chip also alike (chain.ChainBroken u) fault (name, (named, is)) = (name, (by (slice_get chip.parts u.0) refl named, is))
  where
    by : (found : Option Part) → slice_get chip.parts u.0 ≡ found → IsSomeAnd found (λ part. name ≡ part.name)
        → IsSomeAnd (slice_get also.parts u.0) (λ part. name ≡ part.name)
    by None at held = absurd held
    by (Some part) at held =
        let other = item_at chip.parts also.parts u.0 part alike.same_parts at in
        rw other.1 (held ∙ (alike.parts u.0 part other.0 at other.1).name)
traced_alike chip also alike (chain.TooManyChains count) fault reported = reported
traced_alike chip also alike chain.NoMemory fault reported = absurd reported

pub trace_alike : (chip also : LinkedChip) → AreAlike chip also → (fault : Fault) → AtTrace chip fault → AtTrace also fault
trace_alike chip also alike fault at = record {
  broken = at.broken;
  cause = (one_trace chip also alike).cause at.broken at.cause;
  reported = traced_alike chip also alike at.broken fault at.reported;
}

pub one_at_trace : (chip : LinkedChip) (fault other : Fault) → AtTrace chip fault → AtTrace chip other → fault ≡ other
one_at_trace chip fault other here there =
    let same = (one_answer chip).one_cause here.broken there.broken here.cause there.cause
    (some_memory chip here.broken fault here.reported) (some_memory chip there.broken other there.reported) in
    one_traced chip there.broken fault other (subst (λ it. IsTracedBy chip it fault) same here.reported) there.reported

-- a chip with chains has none
pub none_of_traced : (chip : LinkedChip) (fault : Fault) → AtTrace chip fault → IsTraced chip → ⊥
none_of_traced chip fault at (chains, all) =
    some_memory chip at.broken fault at.reported ((one_answer chip).not_both chains at.broken all at.cause)

pub traced_also : (chip also : LinkedChip) → AreAlike chip also → IsTraced chip → IsTraced also
traced_also chip also alike (chains, all) = (chains, (one_trace chip also alike).chains chains all)
