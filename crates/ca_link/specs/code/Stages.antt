-- What breaks a rule of a stage at a place. Only the proofs of the code cite this.
use Rattle.std.specs.Prelude.{ℕ, ◌≡◌, ◌<◌, ◌⊎◌, List, length}
use Rattle.std.specs.List.{sum_by}
use Rattle.ca_wiring.specs.declared.fault.Driver.{Driver}
use Rattle.ca_wiring.specs.declared.fault.TheConstants.{MOST_INSTANCES, MOST_CHIP_INPUTS, MOST_CHIP_OUTPUTS}
use Rattle.ca_wiring.specs.declared.fault.TheConstants.{MOST_CHIP_DEFECTS}
use Rattle.ca_wiring.specs.Wiring.{Wiring}
use Rattle.ca_wiring.specs.Linking.{IsLinkOf}
use Rattle.ca_wiring.specs.Rules.{IsDoubleDriven, IsUndriven, BreaksControl, UsesInverted, library_count}
use Rattle.ca_wiring.specs.Rules.{defects_of}
use Rattle.ca_linked.specs.Linked.{LinkedChip, inputs_of, outputs_of}

-- two drive the net, or nothing does
abbrev pub IsMisdriven : Wiring → ℕ → Type 0
IsMisdriven wiring net =
    ((first second : Driver) × IsDoubleDriven wiring net first second) ⊎ IsUndriven wiring net

-- a control pin of a scan instance breaks its rule, or its inverted output, after the three, does
abbrev pub IsMisused : Wiring → ℕ → ℕ → Type 0
IsMisused wiring u k = ((pin : List ℕ) × BreaksControl wiring u k pin) ⊎ ((k ≡ 3) × UsesInverted wiring u)

-- a link of the wiring has more chip inputs, or more observed outputs, than a chip may have
abbrev pub HasTooMany : Wiring → (LinkedChip → ℕ) → ℕ → Type 0
HasTooMany wiring count most = (chip : LinkedChip) × IsLinkOf wiring chip × (most < count chip)

-- the limit at this place is passed
abbrev pub PassesLimit : Wiring → ℕ → Type 0
PassesLimit wiring k =
    ((k ≡ 0) × (MOST_INSTANCES < library_count wiring.parts))
    ⊎ (((k ≡ 1) × HasTooMany wiring (λ chip. length (inputs_of chip)) MOST_CHIP_INPUTS)
    ⊎ (((k ≡ 2) × HasTooMany wiring (λ chip. length (outputs_of chip)) MOST_CHIP_OUTPUTS)
    ⊎ ((k ≡ 3) × (MOST_CHIP_DEFECTS < sum_by (λ part. defects_of part.meaning) wiring.parts))))
