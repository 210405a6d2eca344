-- The chip that a library, a netlist and a table of scan cells give, and why they give none.
use Rattle.std.specs.Prelude.{◌≡◌, ◌⊎◌, ℕ, List, map, IsSomeAnd, slice_get, ⊤}
use Rattle.ca_lex.specs.Words.{upper_case}
use Rattle.ca_cell.specs.Library.{raw_of}
use Rattle.ca_verilog.specs.declared.raw.RawNetlist.{RawNetlist}
use Rattle.ca_linked.specs.declared.instances.InstanceId.{InstanceId}
use Rattle.ca_linked.specs.Linked.{LinkedChip, IsWired}
use Rattle.ca_linked.specs.Order.{IsOnce}
use Rattle.ca_wiring.specs.declared.fault.ChipFault.{ChipFault}
use Rattle.ca_wiring.specs.declared.fault.ChipFault.TheVariants as rule
use Rattle.ca_wiring.specs.Wiring.{wiring_of}
use Rattle.ca_wiring.specs.Linking.{IsLinkOf}
use Rattle.ca_wiring.specs.Rules.{IsFirstBroken, KeepsRules}
use Rattle.ca_scan.specs.Chain.{IsFirstOff}
use Rattle.ca_scan.specs.ChainFault.{AreAllChains, AreTooMany}
use Rattle.ca_fault_place.specs.Place.{ReportsPlace}
use Rattle.ca_fault.specs.declared.fault.LimitKind.TheVariants as limit
use Rattle.ca_fault.specs.declared.fault.Fault.{Fault}
use Rattle.ca_fault.specs.declared.fault.Fault.TheVariants.{Cell, Chain, Limit}
use Rattle.ca_fault.specs.declared.fault.Fault.TheVariants as fault
use Rattle.ca_load.specs.Texts.{Inputs}

-- the chip is wired and the link of the inputs, and they break no rule of linking and pass no limit
pub record IsChipOf (inputs : Inputs) (chip : LinkedChip) : Type 0 where
  pub wired : IsWired chip
  pub kept : KeepsRules inputs.netlist inputs.library inputs.rows
  pub link : IsLinkOf (wiring_of inputs.netlist inputs.library inputs.rows) chip
  pub cells : chip.cells ≡ map (λ named. raw_of named.entry) inputs.library

-- the rule is the first that the inputs break
abbrev pub BreakFirst : Inputs → ChipFault → Type 0
BreakFirst inputs broken = IsFirstBroken inputs.netlist inputs.library inputs.rows broken

-- a rule of linking that is reported as it is: not that of an instance's cell, no limit, and not out of
-- memory; of a loop, with each of its instances once
abbrev pub IsPlainRule : ChipFault → Type 0
IsPlainRule (rule.UnknownCell u) = ⊤
IsPlainRule (rule.Cell u broken) = ⊥
IsPlainRule (rule.UnknownPin u pin) = ⊤
IsPlainRule (rule.MissingPin u pin) = ⊤
IsPlainRule (rule.DoubleDriven net first second) = ⊤
IsPlainRule (rule.Undriven net) = ⊤
IsPlainRule (rule.ControlPin u pin) = ⊤
IsPlainRule (rule.ControlObserved net) = ⊤
IsPlainRule (rule.QnUsed u) = ⊤
IsPlainRule (rule.Loop instances) = IsOnce instances
IsPlainRule (rule.TooManyInstances count) = ⊥
IsPlainRule (rule.TooManyInputs count) = ⊥
IsPlainRule (rule.TooManyOutputs count) = ⊥
IsPlainRule (rule.TooManyDefects count) = ⊥
IsPlainRule rule.NoMemory = ⊥

-- the instance at this place of the netlist is of a cell that is called so in upper case
abbrev pub IsOfCell : RawNetlist → InstanceId → List ℕ → Type 0
IsOfCell netlist u name =
    IsSomeAnd (slice_get netlist.instances u.0) (λ instance. name ≡ upper_case instance.cell)

-- the place names what the broken rule carries
abbrev pub IsPlaceOf : Inputs → ChipFault → List ℕ → Type 0
IsPlaceOf inputs broken place = ReportsPlace inputs.netlist inputs.library inputs.rows broken place

-- why the inputs don't link: the first rule that they break, or the first limit that they pass
abbrev pub IsLinkingCause : Inputs → Fault → Type 0
IsLinkingCause inputs (Cell name broken place) =
    (u : InstanceId) × (IsOfCell inputs.netlist u name × (BreakFirst inputs (rule.Cell u broken)
    × IsPlaceOf inputs (rule.Cell u broken) place))
IsLinkingCause inputs (fault.Chip broken place) =
    IsPlainRule broken × (BreakFirst inputs broken × IsPlaceOf inputs broken place)
IsLinkingCause inputs (Limit limit.Instances count) = BreakFirst inputs (rule.TooManyInstances count)
IsLinkingCause inputs (Limit limit.Inputs count) = BreakFirst inputs (rule.TooManyInputs count)
IsLinkingCause inputs (Limit limit.Outputs count) = BreakFirst inputs (rule.TooManyOutputs count)
IsLinkingCause inputs (Limit limit.Defects count) = BreakFirst inputs (rule.TooManyDefects count)
IsLinkingCause inputs _ = ⊥

-- why a chip has no chains: its first scan instance that is on no whole chain, by its name; or there are too
-- many
abbrev pub IsTracingCause : Fault → LinkedChip → Type 0
IsTracingCause (Chain name) chip =
    (u : ℕ) × (IsFirstOff chip u × IsSomeAnd (slice_get chip.parts u) (λ part. name ≡ part.name))
IsTracingCause (Limit limit.Chains count) chip = AreTooMany chip count
IsTracingCause _ chip = ⊥

-- the chip of the inputs has no chains
pub record LackChains (inputs : Inputs) (fault : Fault) : Type 0 where
  pub chip : LinkedChip
  pub is : IsChipOf inputs chip
  pub cause : IsTracingCause fault chip

-- why the inputs give no chip with chains
abbrev pub IsChipCause : Fault → Inputs → Type 0
IsChipCause fault inputs = IsLinkingCause inputs fault ⊎ LackChains inputs fault

-- each scan instance of the chip is on a whole chain, and there are not too many of these
abbrev pub IsTraced : LinkedChip → Type 0
IsTraced chip = (chains : List (List ℕ)) × AreAllChains chip chains

-- the inputs break no rule of linking, pass no limit, and the chip that they give has chains
pub record GiveChip (inputs : Inputs) : Type 0 where
  pub kept : KeepsRules inputs.netlist inputs.library inputs.rows
  pub chains : (chip : LinkedChip) → IsChipOf inputs chip → IsTraced chip
