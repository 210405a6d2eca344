-- No rule is broken at an earlier place, where each stage before keeps its rules.
use Rattle.std.proofs.Common.{◌≡◌, ℕ, ◌<◌, ◌⊎◌, List, [], ◌∷◌, inl, inr, refl, sym, ◌∙◌, subst, arith}
use Rattle.ca_cell.specs.Library.{Named}
use Rattle.ca_verilog.specs.declared.raw.RawNetlist.{RawNetlist}
use Rattle.ca_wiring.specs.declared.scan_row.ScanRow.{ScanRow}
use Rattle.ca_wiring.specs.declared.fault.ChipFault.{ChipFault}
use Rattle.ca_wiring.specs.declared.fault.ChipFault.TheVariants as fault
use Rattle.ca_wiring.specs.declared.fault.TheConstants.{MOST_INSTANCES, MOST_CHIP_INPUTS, MOST_CHIP_OUTPUTS}
use Rattle.ca_wiring.specs.declared.fault.TheConstants.{MOST_CHIP_DEFECTS}
use Rattle.ca_wiring.specs.InstanceRules.{AreSound}
use Rattle.ca_wiring.specs.Wiring.{meaning_of, wiring_of}
use Rattle.ca_wiring.specs.Nets.{FeedsWire}
use Rattle.ca_wiring.specs.Rules.{IsEarlier, IsObservedPath, BreaksAt, IsFirstBroken, KeepsRules}
use Rattle.ca_wiring.proofs.JudgeLemmas.{IsAfter, stage_of, sound_keeps}
use Rattle.ca_linked.specs.Order.{IsLoop}
use Rattle.ca_link.specs.code.Stages.{IsMisdriven, IsMisused, PassesLimit}

module _ (raw : RawNetlist) (library : List Named) (scan : List ScanRow) where
  -- no rule is broken at a place that passes the test
  pub record KeepsAt (P : List ℕ → Type 0) : Type 0 where
    pub sound : AreSound raw library scan
    pub nets : (net : ℕ) → IsMisdriven (wiring_of raw library scan) net → P (2 ∷ net ∷ []) → ⊥
    pub scans : (u k : ℕ) → IsMisused (wiring_of raw library scan) u k → P (3 ∷ u ∷ k ∷ []) → ⊥
    pub paths : (net : ℕ) → IsObservedPath (wiring_of raw library scan) net → P (4 ∷ net ∷ []) → ⊥
    pub loops : (loop : List ℕ) → IsLoop (FeedsWire (wiring_of raw library scan)) loop → P (5 ∷ []) → ⊥
    pub limits : (k : ℕ) → PassesLimit (wiring_of raw library scan) k → P (6 ∷ k ∷ []) → ⊥

  -- a rule on instances isn't after them
  not_after : (at tail : List ℕ) → at ≡ 1 ∷ tail → IsAfter raw library scan at → ⊥
  not_after at tail place following =
      let same : 1 ∷ tail ≡ following.stage ∷ following.tail = sym place ∙ following.place in
      let stage : 1 ≡ following.stage = cc in
      let later = following.later in
      omega (arith, stage, later)

  -- sound instances break no rule on instances
  no_part : AreSound raw library scan → (at tail : List ℕ) (other : ChipFault) → at ≡ 1 ∷ tail → BreaksAt raw library scan at other → ⊥
  no_part sound at tail other place breaks = elim (stage_of raw library scan at other breaks) [
    | inl part ↦
        sound_keeps raw library scan (meaning_of library scan part.instance.cell) part.instance.pins part.tail
        (sound part.u part.instance part.is) part.breaks
    | inr following ↦ not_after at tail place following
  ]

  module _ (P : List ℕ → Type 0) (keeps : KeepsAt P) where
    pub none_broken : (at : List ℕ) (other : ChipFault) → P at → BreaksAt raw library scan at other → ⊥
    none_broken at (fault.UnknownCell u) here breaks = no_part keeps.sound at (u.0 ∷ 0 ∷ []) (fault.UnknownCell u) breaks.0 breaks
    none_broken at (fault.Cell u rule) here breaks = no_part keeps.sound at (u.0 ∷ 0 ∷ []) (fault.Cell u rule) breaks.0 breaks
    none_broken at (fault.UnknownPin u pin) here breaks =
        no_part keeps.sound at (u.0 ∷ 1 ∷ breaks.0 ∷ []) (fault.UnknownPin u pin) breaks.1 breaks
    none_broken at (fault.MissingPin u pin) here breaks =
        no_part keeps.sound at (u.0 ∷ 2 ∷ breaks.0 ∷ []) (fault.MissingPin u pin) breaks.1 breaks
    none_broken at (fault.DoubleDriven net first second) here breaks =
        keeps.nets net.0 (inl (first, second, breaks.1)) (subst P breaks.0 here)
    none_broken at (fault.Undriven net) here breaks = keeps.nets net.0 (inr breaks.1) (subst P breaks.0 here)
    none_broken at (fault.ControlPin u pin) here breaks =
        keeps.scans u.0 breaks.0 (inl (pin, breaks.2)) (subst P breaks.1 here)
    none_broken at (fault.ControlObserved net) here breaks = keeps.paths net.0 breaks.1 (subst P breaks.0 here)
    none_broken at (fault.QnUsed u) here breaks = keeps.scans u.0 3 (inr (refl, breaks.1)) (subst P breaks.0 here)
    none_broken at (fault.Loop instances) here breaks = keeps.loops instances breaks.1 (subst P breaks.0 here)
    none_broken at (fault.TooManyInstances count) here breaks =
        keeps.limits 0 (inl (refl, subst (λ n. MOST_INSTANCES < n) breaks.1 breaks.2)) (subst P breaks.0 here)
    none_broken at (fault.TooManyInputs count) here breaks =
        let reported = breaks.1 in
        keeps.limits 1 (inr (inl (refl, (reported.0, reported.1, subst (λ n. MOST_CHIP_INPUTS < n) reported.2 reported.3)))) (subst P breaks.0 here)
    none_broken at (fault.TooManyOutputs count) here breaks =
        let reported = breaks.1 in
        keeps.limits 2 (inr (inr (inl (refl, (reported.0, reported.1, subst (λ n. MOST_CHIP_OUTPUTS < n) reported.2 reported.3))))) (subst P breaks.0 here)
    none_broken at (fault.TooManyDefects count) here breaks =
        keeps.limits 3 (inr (inr (inr (refl, subst (λ n. MOST_CHIP_DEFECTS < n) breaks.1 breaks.2)))) (subst P breaks.0 here)
    none_broken at fault.NoMemory here breaks = breaks

  -- all rules are kept
  pub keeps_rules : KeepsAt (λ at. Unit {0}) → KeepsRules raw library scan
  keeps_rules keeps at other breaks = none_broken (λ at. Unit {0}) keeps at other tt breaks

  -- a rule is the first that is broken
  pub first_broken : (at : List ℕ) (broken : ChipFault) → BreaksAt raw library scan at broken → KeepsAt (λ before. IsEarlier before at)
      → IsFirstBroken raw library scan broken
  first_broken at broken breaks keeps = record {
    at = at;
    breaks = breaks;
    none_before = λ before other earlier breaks_other. none_broken (λ b. IsEarlier b at) keeps before other earlier breaks_other;
  }

-- a later stage doesn't come before
pub no_later : (s t : ℕ) (rest here : List ℕ) → t < s → IsEarlier (s ∷ rest) (t ∷ here) → ⊥
no_later s t rest here lt (inl less) = omega (arith, lt, less)
no_later s t rest here lt (inr same) = let e = same.0 in omega (arith, lt, e)

-- of one stage the places are compared
pub earlier_place : (s m n : ℕ) → IsEarlier (s ∷ m ∷ []) (s ∷ n ∷ []) → m < n
earlier_place s m n (inl less) = absurd (omega (arith, less))
earlier_place s m n (inr (same, inl less)) = less
earlier_place s m n (inr (same, inr rest)) = absurd rest.1

pub earlier_pin : (s u k v l : ℕ) → IsEarlier (s ∷ u ∷ k ∷ []) (s ∷ v ∷ l ∷ []) → (u < v) ⊎ ((u ≡ v) × (k < l))
earlier_pin s u k v l (inl less) = absurd (omega (arith, less))
earlier_pin s u k v l (inr (same, inl less)) = inl less
earlier_pin s u k v l (inr (same, inr (one, inl less))) = inr (one, less)
earlier_pin s u k v l (inr (same, inr (one, inr rest))) = absurd rest.1

pub not_earlier_alone : (s : ℕ) → IsEarlier (s ∷ []) (s ∷ []) → ⊥
not_earlier_alone s (inl less) = omega (arith, less)
not_earlier_alone s (inr rest) = rest.1
