-- A subcircuit keeps the rules, or there is a first rule that it breaks.
use Rattle.std.proofs.Common.{ℕ, zero, suc, ◌≡◌, ◌+◌, ◌<◌, ◌≤◌, ◌⊎◌, inl, inr, refl, arith, length}
use Rattle.std.specs.Prelude.{is_some, IsSome}
use Rattle.std.specs.List.{All}
use Rattle.std.proofs.Math.Decide.{dec_le, dec_lt}
use Rattle.ca_cell.specs.declared.raw.RawDevice.{RawDevice}
use Rattle.ca_cell.specs.declared.raw.RawCell.{RawCell}
use Rattle.ca_cell.specs.declared.rule.CellRule.{CellRule}
use Rattle.ca_cell.specs.declared.rule.CellRule.TheVariants.{NoRail, TooManyDevices, TooManyNodes}
use Rattle.ca_cell.specs.declared.rule.CellRule.TheVariants.{TooManyInputs, NoOutput, TooManyOutputs}
use Rattle.ca_cell.specs.declared.rule.CellRule.TheVariants.{InputDrivesChannel}
use Rattle.ca_cell.specs.declared.rule.TheConstants.{MOST_DEVICES, MOST_NODES, MOST_INPUTS, MOST_OUTPUTS}
use Rattle.ca_cell.specs.Raw.{is_input, is_output, is_power, is_ground, role_count}
use Rattle.ca_cell.specs.Rules.{node_count, channel_pin, Breaks, rank_of, IsFirstBroken, KeepsRules}
use Rattle.ca_cell.proofs.NodeLemmas.{none_or_first, breaks_at}
use Rattle.ca_cell.proofs.RuleLemmas.{none_drives}

-- a rule of this rank is broken
record HasBroken (raw : RawCell) (rank : ℕ) : Type 0 where
  rule : CellRule
  ranked : rank_of rule ≡ rank
  broken : Breaks raw rule

-- none of this rank is
abbrev NoneAt : RawCell → ℕ → Type 0
NoneAt raw rank = (rule : CellRule) → rank_of rule ≡ rank → Breaks raw rule → ⊥

-- none of a lower one is
abbrev KeepsBelow : RawCell → ℕ → Type 0
KeepsBelow raw rank = (rule : CellRule) → rank_of rule < rank → Breaks raw rule → ⊥

-- each rank by itself
no_rail : (raw : RawCell) → 0 < role_count is_power raw.pins → 0 < role_count is_ground raw.pins → NoneAt raw 0
no_rail raw powered grounded NoRail ranked (inl none) = omega (arith, powered, none)
no_rail raw powered grounded NoRail ranked (inr none) = omega (arith, grounded, none)
no_rail raw powered grounded rule ranked breaks = absurd (omega (arith, ranked))

few_devices : (raw : RawCell) → length raw.devices ≤ MOST_DEVICES → NoneAt raw 1
few_devices raw few (TooManyDevices count) ranked breaks = let same = breaks.0 in let many = breaks.1 in omega (arith, few, same, many)
few_devices raw few rule ranked breaks = absurd (omega (arith, ranked))

few_nodes : (raw : RawCell) → node_count raw ≤ MOST_NODES → NoneAt raw 2
few_nodes raw few (TooManyNodes count) ranked breaks = let same = breaks.0 in let many = breaks.1 in omega (arith, few, same, many)
few_nodes raw few rule ranked breaks = absurd (omega (arith, ranked))

few_inputs : (raw : RawCell) → role_count is_input raw.pins ≤ MOST_INPUTS → NoneAt raw 3
few_inputs raw few (TooManyInputs count) ranked breaks = let same = breaks.0 in let many = breaks.1 in omega (arith, few, same, many)
few_inputs raw few rule ranked breaks = absurd (omega (arith, ranked))

some_output : (raw : RawCell) → 0 < role_count is_output raw.pins → NoneAt raw 4
some_output raw some NoOutput ranked breaks = omega (arith, some, breaks)
some_output raw some rule ranked breaks = absurd (omega (arith, ranked))

few_outputs : (raw : RawCell) → role_count is_output raw.pins ≤ MOST_OUTPUTS → NoneAt raw 5
few_outputs raw few (TooManyOutputs count) ranked breaks = let same = breaks.0 in let many = breaks.1 in omega (arith, few, same, many)
few_outputs raw few rule ranked breaks = absurd (omega (arith, ranked))

no_driver : (raw : RawCell) → All (λ d. ¬ (IsSome (channel_pin raw.pins d))) raw.devices → NoneAt raw 6
no_driver raw none (InputDrivesChannel pin device) ranked breaks = none_drives raw none pin.0 device.0 breaks
no_driver raw none rule ranked breaks = absurd (omega (arith, ranked))

rank_below : (rule : CellRule) → rank_of rule < 7
rank_below NoRail = omega arith
rank_below rule = omega arith

zero_or_some : (n : ℕ) → (n ≡ 0) ⊎ (0 < n)
zero_or_some zero = inl refl
zero_or_some (suc n) = inr (omega arith)

-- of each rank a rule is broken, or none is
at_rank : (raw : RawCell) (rank : ℕ) → HasBroken raw rank ⊎ NoneAt raw rank
at_rank raw zero = elim (zero_or_some (role_count is_power raw.pins)) [
  | inl none ↦ inl (record { rule = NoRail; ranked = refl; broken = inl none })
  | inr powered ↦ elim (zero_or_some (role_count is_ground raw.pins)) [
    | inl none ↦ inl (record { rule = NoRail; ranked = refl; broken = inr none })
    | inr grounded ↦ inr (no_rail raw powered grounded)
  ]
]
at_rank raw (suc zero) = elim (dec_le (length raw.devices) MOST_DEVICES) [
  | yes few ↦ inr (few_devices raw few)
  | no many ↦ inl (record { rule = TooManyDevices (length raw.devices); ranked = refl; broken = (refl, omega (arith, many)) })
]
at_rank raw (suc (suc zero)) = elim (dec_le (node_count raw) MOST_NODES) [
  | yes few ↦ inr (few_nodes raw few)
  | no many ↦ inl (record { rule = TooManyNodes (node_count raw); ranked = refl; broken = (refl, omega (arith, many)) })
]
at_rank raw (suc (suc (suc zero))) = elim (dec_le (role_count is_input raw.pins) MOST_INPUTS) [
  | yes few ↦ inr (few_inputs raw few)
  | no many ↦ inl (record { rule = TooManyInputs (role_count is_input raw.pins); ranked = refl; broken = (refl, omega (arith, many)) })
]
at_rank raw (suc (suc (suc (suc zero)))) = elim (zero_or_some (role_count is_output raw.pins)) [
  | inl none ↦ inl (record { rule = NoOutput; ranked = refl; broken = none })
  | inr some ↦ inr (some_output raw some)
]
at_rank raw (suc (suc (suc (suc (suc zero))))) = elim (dec_le (role_count is_output raw.pins) MOST_OUTPUTS) [
  | yes few ↦ inr (few_outputs raw few)
  | no many ↦ inl (record { rule = TooManyOutputs (role_count is_output raw.pins); ranked = refl; broken = (refl, omega (arith, many)) })
]
at_rank raw (suc (suc (suc (suc (suc (suc zero)))))) =
    elim (none_or_first (λ (d : RawDevice). is_some (channel_pin raw.pins d)) raw.devices) [
      | inl none ↦ inr (no_driver raw none)
      | inr found ↦
          let broken = breaks_at raw found.0 found.1 in
          inl (record { rule = InputDrivesChannel (record { 0 = broken.0 }) (record { 0 = found.0 }); ranked = refl; broken = broken.1 })
    ]
at_rank raw (suc (suc (suc (suc (suc (suc (suc rank))))))) =
    inr (λ rule ranked. let below = rank_below rule in absurd (omega (arith, ranked, below)))

-- the rules in their order, from a rank on
search_from : (raw : RawCell) (left rank : ℕ) → rank + left ≡ 7 → KeepsBelow raw rank
    → ((rule : CellRule) × IsFirstBroken raw rule) ⊎ KeepsBelow raw 7
search_from raw zero rank all keeps = inr (λ rule below. keeps rule (omega (arith, all, below)))
search_from raw (suc left) rank all keeps = by (at_rank raw rank) (search_from raw left (suc rank) (omega (arith, all)))
  where
    by : HasBroken raw rank ⊎ NoneAt raw rank
        → (KeepsBelow raw (suc rank) → ((rule : CellRule) × IsFirstBroken raw rule) ⊎ KeepsBelow raw 7)
        → ((rule : CellRule) × IsFirstBroken raw rule) ⊎ KeepsBelow raw 7
    by (inl it) later = inl (
      it.rule,
      record {
        broken = it.broken;
        none_before = λ other lower. let ranked = it.ranked in keeps other (omega (arith, lower, ranked));
      },
    )
    by (inr none) later = later (λ rule below. elim (dec_lt (rank_of rule) rank) [
      | yes lower ↦ keeps rule lower
      | no not ↦ none rule (omega (arith, below, not))
    ])

-- a subcircuit breaks a rule first, or keeps the rules
pub broken_or_kept : (raw : RawCell) → ((rule : CellRule) × IsFirstBroken raw rule) ⊎ KeepsRules raw
broken_or_kept raw = elim (search_from raw 7 0 refl (λ rule below. absurd (omega (arith, below)))) [
  | inl found ↦ inl found
  | inr keeps ↦ inr (λ rule. keeps rule (rank_below rule))
]
