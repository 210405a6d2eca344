-- The names of kinds of faults, of rules and of limits, as they are printed.
use Rattle.std.specs.Prelude.{ℕ, List, codes}
use Rattle.ca_cell.specs.declared.rule.CellRule.{CellRule}
use Rattle.ca_cell.specs.declared.rule.CellRule.TheVariants as rule
use Rattle.ca_wiring.specs.declared.fault.ChipFault.{ChipFault}
use Rattle.ca_wiring.specs.declared.fault.ChipFault.TheVariants as chip
use Rattle.ca_spice.specs.declared.fault.SpiceKind.{SpiceKind}
use Rattle.ca_spice.specs.declared.fault.SpiceKind.TheVariants as kind
use Rattle.ca_verilog.specs.declared.fault.VerilogKind.{VerilogKind}
use Rattle.ca_verilog.specs.declared.fault.VerilogKind.TheVariants as token
use Rattle.ca_fault.specs.declared.fault.LimitKind.{LimitKind}
use Rattle.ca_fault.specs.declared.fault.LimitKind.TheVariants as limit

-- the name of a kind of faulty line of a cell netlist
abbrev pub kind_text : SpiceKind → List ℕ
kind_text kind.UnknownCard = codes "UnknownCard"
kind_text kind.BadCard = codes "BadCard"
kind_text kind.NoPinInfo = codes "NoPinInfo"
kind_text kind.BadRole = codes "BadRole"
kind_text kind.BadLength = codes "BadLength"
kind_text kind.DoubleName = codes "DoubleName"
kind_text kind.Unended = codes "Unended"
kind_text kind.NotText = codes "NotText"

-- the name of a kind of faulty token of a gate netlist
abbrev pub netlist_text : VerilogKind → List ℕ
netlist_text token.Syntax = codes "Syntax"
netlist_text token.Undeclared = codes "Undeclared"
netlist_text token.DoubleName = codes "DoubleName"
netlist_text token.BadRange = codes "BadRange"
netlist_text token.Unsupported = codes "Unsupported"
netlist_text token.NotText = codes "NotText"

-- the name of a rule of a used cell
abbrev pub rule_text : CellRule → List ℕ
rule_text rule.NoRail = codes "NoRail"
rule_text (rule.TooManyDevices count) = codes "TooManyDevices"
rule_text (rule.TooManyNodes count) = codes "TooManyNodes"
rule_text (rule.TooManyInputs count) = codes "TooManyInputs"
rule_text rule.NoOutput = codes "NoOutput"
rule_text (rule.TooManyOutputs count) = codes "TooManyOutputs"
rule_text (rule.InputDrivesChannel pin device) = codes "InputDrivesChannel"

-- the name of a rule of linking
abbrev pub chip_text : ChipFault → List ℕ
chip_text (chip.UnknownCell u) = codes "UnknownCell"
chip_text (chip.Cell u rule) = codes "Cell"
chip_text (chip.UnknownPin u pin) = codes "UnknownPin"
chip_text (chip.MissingPin u pin) = codes "MissingPin"
chip_text (chip.DoubleDriven net first second) = codes "DoubleDriven"
chip_text (chip.Undriven net) = codes "Undriven"
chip_text (chip.ControlPin u pin) = codes "ControlPin"
chip_text (chip.ControlObserved net) = codes "ControlObserved"
chip_text (chip.QnUsed u) = codes "QnUsed"
chip_text (chip.Loop instances) = codes "Loop"
chip_text (chip.TooManyInstances count) = codes "TooManyInstances"
chip_text (chip.TooManyInputs count) = codes "TooManyInputs"
chip_text (chip.TooManyOutputs count) = codes "TooManyOutputs"
chip_text (chip.TooManyDefects count) = codes "TooManyDefects"
chip_text chip.NoMemory = codes "NoMemory"

-- the name of what there is too much of
abbrev pub limit_text : LimitKind → List ℕ
limit_text limit.Cells = codes "Cells"
limit_text limit.Nets = codes "Nets"
limit_text limit.Instances = codes "Instances"
limit_text limit.Inputs = codes "Inputs"
limit_text limit.Outputs = codes "Outputs"
limit_text limit.Defects = codes "Defects"
limit_text limit.Chains = codes "Chains"
limit_text limit.Pairs = codes "Pairs"

-- what there is too much of, and how much there may be, after its number
abbrev pub most_text : LimitKind → List ℕ
most_text limit.Cells = codes " cells, at most 1024"
most_text limit.Nets = codes " nets, at most 131072"
most_text limit.Instances = codes " instances, at most 32768"
most_text limit.Inputs = codes " inputs, at most 4096"
most_text limit.Outputs = codes " outputs, at most 8192"
most_text limit.Defects = codes " defects, at most 1048576"
most_text limit.Chains = codes " chains, at most 64"
most_text limit.Pairs = codes " pairs, at most 65536"
