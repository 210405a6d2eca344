-- What the tests of the rules show.
use Rattle.std.proofs.Common.{ℕ, ◌≤◌, length, take, inl, inr, refl, subst, arith}
use Rattle.std.specs.Prelude.{Option, IsSome, IsSomeAnd}
use Rattle.std.specs.List.{All}
use Rattle.std.proofs.Math.Decide.{dec_le}
use Rattle.std.proofs.lemmas.List.{take_all}
use Rattle.std.proofs.lemmas.Option.{slice_get_cases}
use Rattle.ca_cell.specs.declared.raw.RawDevice.{RawDevice}
use Rattle.ca_cell.specs.declared.raw.RawCell.{RawCell}
use Rattle.ca_cell.specs.declared.rule.CellRule.TheVariants.{NoRail, TooManyDevices, TooManyNodes}
use Rattle.ca_cell.specs.declared.rule.CellRule.TheVariants.{TooManyInputs, NoOutput, TooManyOutputs}
use Rattle.ca_cell.specs.declared.rule.CellRule.TheVariants.{InputDrivesChannel}
use Rattle.ca_cell.specs.declared.rule.TheConstants.{MOST_NODES}
use Rattle.ca_cell.specs.Rules.{node_count, channel_pin, DrivesChannel, KeepsRules}
use Rattle.ca_cell.specs.code.Rules.{KeepsCounts}

-- where no device has its drain or its source on an input pin, none is the first that has
pub none_drives : (raw : RawCell) → All (λ d. ¬ (IsSome (channel_pin raw.pins d))) raw.devices → (pin device : ℕ) → DrivesChannel raw pin device → ⊥
none_drives raw none pin device drives = elim (slice_get_cases raw.devices device).1 [
  | inl there ↦
      let on : IsSome (channel_pin raw.pins there.0) =
      subst (λ (found : Option RawDevice). IsSomeAnd found (λ d. IsSome (channel_pin raw.pins d))) there.2 drives.first.here in
      let off = none device there.0 there.1 in
      subst (λ d. ¬ (IsSome (channel_pin raw.pins d))) there.3 off on
  | inr past ↦ subst (λ (found : Option RawDevice). IsSomeAnd found (λ d. IsSome (channel_pin raw.pins d))) past.1 drives.first.here
]

-- a subcircuit that keeps the rules on counts, and of which no device drives an input pin, keeps all rules
pub keeps_all : (raw : RawCell) (devices : ℕ) → length raw.devices ≤ devices → KeepsCounts raw
    → All (λ d. ¬ (IsSome (channel_pin raw.pins d))) (take devices raw.devices) → KeepsRules raw
keeps_all raw devices all counts none NoRail breaks = counts NoRail (omega arith) breaks
keeps_all raw devices all counts none (TooManyDevices count) breaks = counts (TooManyDevices count) (omega arith) breaks
keeps_all raw devices all counts none (TooManyNodes count) breaks = counts (TooManyNodes count) (omega arith) breaks
keeps_all raw devices all counts none (TooManyInputs count) breaks = counts (TooManyInputs count) (omega arith) breaks
keeps_all raw devices all counts none NoOutput breaks = counts NoOutput (omega arith) breaks
keeps_all raw devices all counts none (TooManyOutputs count) breaks = counts (TooManyOutputs count) (omega arith) breaks
keeps_all raw devices all counts none (InputDrivesChannel pin device) breaks =
    none_drives raw (subst (All (λ d. ¬ (IsSome (channel_pin raw.pins d)))) (take_all devices raw.devices all) none) pin.0 device.0 breaks

-- such a subcircuit has few nodes
pub few_nodes : (raw : RawCell) → KeepsCounts raw → node_count raw ≤ MOST_NODES
few_nodes raw counts = elim (dec_le (node_count raw) MOST_NODES) [
  | yes few ↦ few
  | no many ↦ absurd (counts (TooManyNodes (node_count raw)) (omega arith) (refl, omega arith))
]
