-- What a change keeps: each instance that isn't due afterwards is current.
use Rattle.std.proofs.Common.{◌≡◌, ℕ, zero, suc, ◌+◌, ◌<◌, ◌⊎◌, List, length, Option, None, Some, inl, inr}
use Rattle.std.proofs.Common.{refl, sym, ◌∙◌, ap, subst, arith}
use Rattle.std.proofs.lemmas.Bool.{cases_eq, cases_lt}
use Rattle.std.proofs.lemmas.List.{get_or_past}
use Rattle.ca_net.specs.declared.trit.Trit.{Trit}
use Rattle.ca_net.specs.declared.wave.Wave.{Wave}
use Rattle.ca_net.specs.declared.node.NodeKind.{NodeKind}
use Rattle.ca_net.specs.declared.node.NodeKind.TheVariants.{Input, Storage}
use Rattle.ca_net.specs.Circuit.{Circuit}
use Rattle.ca_net.specs.Wave.{IsWave}
use Rattle.ca_response.proofs.PairLemmas.{pair_is_wave}
use Rattle.ca_cell.specs.declared.raw.RawCell.{RawCell}
use Rattle.ca_flat.specs.declared.chip_defect.ChipDefect.{ChipDefect}
use Rattle.ca_flat.specs.Chip.{Chip, cell_at, inputs_at, outputs_at, net_of, output_net, count_of, net_kind}
use Rattle.ca_flat.specs.Chip.{Drives, IsChip}
use Rattle.ca_flat.specs.Flat.{circuit_in}
use Rattle.ca_flat.specs.Chain.{IsOutputOf}
use Rattle.ca_flat.proofs.Detected.{other_circuit}
use Rattle.ca_response.specs.Gives.{unknown_wave, wave_at, Gives}
use Rattle.ca_sim.specs.Current.{input_waves, output_waves, IsCurrent, IsSimulated}
use Rattle.ca_sim.specs.Changes.{IsWritten, HasReadersDue}
use Rattle.ca_sim.specs.code.Changes.{IsFed}
use Rattle.ca_sim.proofs.WaveLemmas.{length-waves_from, wave_at-waves_from, same-waves_from}

-- a net is an input or none
kind_or : (kind : NodeKind) → (kind ≡ Input → ⊥) ⊎ (kind ≡ Input)
kind_or Input = inr refl
kind_or (Storage size) = inl (λ e. cc)

-- the waves of a cell's output pins may be kept in another list
gives_same : (raw : RawCell) (net : Circuit) (pins a b : List Wave) → length b ≡ length a → ((output : ℕ) → output < length a → wave_at b output ≡ wave_at a output)
    → Gives raw net pins a → Gives raw net pins b
gives_same raw net pins a b count same given = record {
  count = count ∙ given.count;
  each = λ first middle last limits output within. let c = given.count in same output (omega arith) ∙ given.each first middle last limits output within;
}

-- an instance whose nets have the waves that they had is current as it was
current_kept : (chip : Chip) (o : Option ChipDefect) (old new : List Wave) (u : ℕ)
    → ((pin : ℕ) → pin < inputs_at chip u → wave_at new (net_of chip u pin) ≡ wave_at old (net_of chip u pin))
    → ((output : ℕ) → output < outputs_at chip u → wave_at new (output_net chip u output) ≡ wave_at old (output_net chip u output))
    → IsCurrent chip o old u → IsCurrent chip o new u
current_kept chip o old new u pins outputs current =
    let pins_same : input_waves chip new u ≡ input_waves chip old u = same-waves_from (net_of chip u) old new 0 (inputs_at chip u) (λ pin within. pins pin (omega arith)) in
    let outputs_same : output_waves chip new u ≡ output_waves chip old u = same-waves_from (output_net chip u) old new 0 (outputs_at chip u) (λ output within. outputs output (omega arith)) in
    subst (λ x. Gives (cell_at chip u) (circuit_in chip o u) x (output_waves chip new u)) (sym pins_same)
    (subst (Gives (cell_at chip u) (circuit_in chip o u) (input_waves chip old u)) (sym outputs_same) current)

-- a net is an output of the instance or none
is_output_or : (chip : Chip) (u net count : ℕ) → ((output : ℕ) × (output < count) × (output_net chip u output ≡ net))
    ⊎ ((output : ℕ) → output < count → output_net chip u output ≡ net → ⊥)
is_output_or chip u net zero = inr (λ output within. absurd (omega arith))
is_output_or chip u net (suc count) = elim (is_output_or chip u net count) [
  | inl found ↦ inl (found.0, (let k = found.1 in omega arith), found.2)
  | inr none ↦ elim (cases_eq (output_net chip u count) net) [
    | inl here ↦ inl (count, omega arith, here)
    | inr other ↦ inr (λ output within is. elim (cases_lt output count) [
      | inl less ↦ none output less is
      | inr last ↦ other (subst (λ x. output_net chip u x ≡ net) (let e : output ≡ count = omega arith in e) is)
    ])
  ]
]

pub output_or : (chip : Chip) (u net : ℕ) → IsOutputOf chip u net ⊎ (IsOutputOf chip u net → ⊥)
output_or chip u net = elim (is_output_or chip u net (outputs_at chip u)) [
  | inl found ↦ inl (record { output = found.0; within = found.1; on = found.2 })
  | inr none ↦ inr (λ is. none is.output is.within is.on)
]

-- what is written are waves
pub written_waves : (chip : Chip) (u : ℕ) (outputs old new : List Wave) → ((net : ℕ) → IsWave (wave_at old net)) → ((output : ℕ) → IsWave (wave_at outputs output))
    → IsWritten chip u outputs old new → (net : ℕ) → IsWave (wave_at new net)
written_waves chip u outputs old new were are written net = elim (output_or chip u net) [
  | inl out ↦ subst IsWave (sym (ap (wave_at new) (sym out.on) ∙ written.written out.output out.within)) (are out.output)
  | inr none ↦ subst IsWave (sym (written.others net none)) (were net)
]

-- an output pin drives its net
abbrev drives_of : (chip : Chip) (u net : ℕ) → u < count_of chip → IsOutputOf chip u net → Drives chip net
drives_of chip u net lt is = record { instance = u; output = is.output; known = lt; within = is.within; on = is.on }

module _ (chip : Chip) (rank : ℕ → ℕ) (is : IsChip chip rank) where
  -- no input net is an output net of an instance
  not_fed : (u net : ℕ) → u < count_of chip → net_kind chip net ≡ Input → IsOutputOf chip u net → ⊥
  not_fed u net lt kind out = let driven = is.drives net (drives_of chip u net lt out) in let e : Input ≡ net_kind chip net = sym kind in cc

  -- no instance has one of its output nets on an input pin
  not_own : (u pin : ℕ) → u < count_of chip → pin < inputs_at chip u → IsOutputOf chip u (net_of chip u pin) → ⊥
  not_own u pin lt within out = let less : rank u < rank u = is.ranked u pin lt within (drives_of chip u (net_of chip u pin) lt out) in omega arith

  -- an output net of an instance is one of no other
  not_other : (u w output : ℕ) → u < count_of chip → w < count_of chip → output < outputs_at chip w → (w ≡ u → ⊥) → IsOutputOf chip u (output_net chip w output) → ⊥
  not_other u w output lt known within other out = other (is.one_driver (output_net chip w output)
      (record { instance = w; output = output; known = known; within = within; on = refl }) (drives_of chip u (output_net chip w output) lt out)).0

  module _ (o : Option ChipDefect) (pair : List Trit) (due after : ℕ → Type 0) (old new : List Wave) (sim : IsSimulated chip o pair due old) where
    -- An instance is evaluated: it is due no more, and the readers of its output nets whose waves changed
    -- are.
    module _ (u : ℕ) (lt : u < count_of chip) (outputs : List Wave) (given : Gives (cell_at chip u) (circuit_in chip o u) (input_waves chip old u) outputs)
        (are_waves : (output : ℕ) → IsWave (wave_at outputs output)) (written : IsWritten chip u outputs old new)
        (kept : (w : ℕ) → w < count_of chip → (w ≡ u → ⊥) → due w → after w) (readers : HasReadersDue chip after old new) where
      own_current : IsCurrent chip o new u
      own_current =
          let pins_same : input_waves chip new u ≡ input_waves chip old u = same-waves_from (net_of chip u) old new 0 (inputs_at chip u)
          (λ pin within. written.others (net_of chip u pin) (not_own u pin lt (omega arith))) in
          subst (λ x. Gives (cell_at chip u) (circuit_in chip o u) x (output_waves chip new u)) (sym pins_same)
          (gives_same (cell_at chip u) (circuit_in chip o u) (input_waves chip old u) outputs (output_waves chip new u)
          (length-waves_from (output_net chip u) new 0 (outputs_at chip u) ∙ sym given.count)
          (λ output within. let c = given.count in
          wave_at-waves_from (output_net chip u) new 0 (outputs_at chip u) output (omega arith)
          ∙ ap (λ k. wave_at new (output_net chip u k)) (let e : 0 + output ≡ output = omega arith in e)
          ∙ written.written output (omega arith))
          given)

      pub evaluated : IsSimulated chip o pair after new
      evaluated = record {
        count = written.count ∙ sim.count;
        are_waves = written_waves chip u outputs old new sim.are_waves are_waves written;
        inputs = λ net within kind. written.others net (not_fed u net lt kind) ∙ sim.inputs net within kind;
        current = λ w known free. elim (cases_eq w u) [
          | inl e ↦ subst (IsCurrent chip o new) (sym e) own_current
          | inr other ↦ current_kept chip o old new w (λ pin within. readers w pin known free within)
              (λ output within. written.others (output_net chip w output) (not_other u w output lt known within other))
              (sim.current w known (λ is_due. free (kept w known other is_due)))
        ];
      }

    -- the bits are changed: the readers of the input nets whose waves changed are due
    pub fed : (next : List Trit) → IsFed chip next old new → ((w : ℕ) → due w → after w) → HasReadersDue chip after old new → IsSimulated chip o next after new
    fed next is_fed kept readers = record {
      count = is_fed.count ∙ sim.count;
      are_waves = λ net. elim (cases_lt net (length chip.nets)) [
        | inl within ↦ elim (kind_or (net_kind chip net)) [
          | inl storage ↦ subst IsWave (sym (is_fed.others net within storage)) (sim.are_waves net)
          | inr kind ↦ subst IsWave (sym (is_fed.fed net within kind)) (pair_is_wave _ _)
        ]
        | inr past ↦ let a = is_fed.count in let b = sim.count in
            subst IsWave (sym (get_or_past new net unknown_wave (omega arith))) (record { below_first = inl refl; below_last = inl refl })
      ];
      inputs = is_fed.fed;
      current = λ w known free. current_kept chip o old new w (λ pin within. readers w pin known free within)
          (λ output within. is_fed.others (output_net chip w output) (is.on_nets w (inputs_at chip w + output) known (omega arith))
          (λ kind. not_fed w (output_net chip w output) known kind (record { output = output; within = within; on = refl })))
          (sim.current w known (λ is_due. free (kept w is_due)));
    }

-- with a defect, its instance is due
pub aimed_at : (chip : Chip) (defect : ChipDefect) (pair : List Trit) (due after : ℕ → Type 0) (waves : List Wave) → IsSimulated chip None pair due waves
    → ((w : ℕ) → due w → after w) → after defect.instance → IsSimulated chip (Some defect) pair after waves
aimed_at chip defect pair due after waves sim kept here = record {
  count = sim.count;
  are_waves = sim.are_waves;
  inputs = sim.inputs;
  current = λ w known free. subst (λ x. Gives (cell_at chip w) x (input_waves chip waves w) (output_waves chip waves w))
      (other_circuit chip defect w (λ e. free (subst after (sym e) here))) (sim.current w known (λ is_due. free (kept w is_due)));
}

-- where more is due, less is said
pub more_due : (chip : Chip) (o : Option ChipDefect) (pair : List Trit) (due after : ℕ → Type 0) (waves : List Wave) → IsSimulated chip o pair due waves
    → ((w : ℕ) → w < count_of chip → due w → after w) → IsSimulated chip o pair after waves
more_due chip o pair due after waves sim kept = record {
  count = sim.count;
  are_waves = sim.are_waves;
  inputs = sim.inputs;
  current = λ w known free. sim.current w known (λ is_due. free (kept w known is_due));
}

-- the aim is changed: the instances of both defects are due
pub aimed_anew : (chip : Chip) (o p : Option ChipDefect) (pair : List Trit) (due after : ℕ → Type 0) (waves : List Wave) → IsSimulated chip o pair due waves
    → ((w : ℕ) → w < count_of chip → due w → after w) → ((d : ChipDefect) → o ≡ Some d → after d.instance) → ((d : ChipDefect) → p ≡ Some d → after d.instance)
    → IsSimulated chip p pair after waves
aimed_anew chip o p pair due after waves sim kept was is = record {
  count = sim.count;
  are_waves = sim.are_waves;
  inputs = sim.inputs;
  current = λ w known free. subst (λ x. Gives (cell_at chip w) x (input_waves chip waves w) (output_waves chip waves w))
      (sym (good_elsewhere o w (λ d e here. free (subst after (sym here) (was d e)))) ∙ good_elsewhere p w (λ d e here. free (subst after (sym here) (is d e))))
      (sim.current w known (λ is_due. free (kept w known is_due)));
}
  where
    good_elsewhere : (o : Option ChipDefect) (w : ℕ) → ((d : ChipDefect) → o ≡ Some d → w ≡ d.instance → ⊥) → circuit_in chip None w ≡ circuit_in chip o w
    good_elsewhere None w apart = refl
    good_elsewhere (Some d) w apart = other_circuit chip d w (apart d refl)
