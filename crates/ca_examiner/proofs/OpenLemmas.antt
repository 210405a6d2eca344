-- Open chains, by marks of open nets.
use Rattle.std.proofs.Common.{◌≡◌, ℕ, ◌+◌, ◌<◌, List, [], ◌∷◌, length, Bool, false, not, None, Some}
use Rattle.std.proofs.Common.{sym, ◌∙◌, ap, subst, arith}
use native.Mathlib.Decide.{ℕ_discrete}
use Rattle.std.specs.Prelude.{slice_index_or, slice_set}
use Rattle.std.proofs.lemmas.List.{length-set, get_or-set_same, get_or-set_other}
use Rattle.ca_net.specs.declared.wave.Wave.{Wave}
use Rattle.ca_response.specs.Gives.{wave_at}
use Rattle.ca_flat.specs.declared.chip_defect.ChipDefect.{ChipDefect}
use Rattle.ca_flat.specs.Chip.{Chip, IsChip, inputs_at, count_of}
use Rattle.ca_flat.specs.Waves.{FlatWaves, wave_of}
use Rattle.ca_flat.specs.Chain.{IsOutputOf}
use Rattle.ca_flat.specs.RuleOut.{IsOpenNet, IsOpenChain, HasNoOpenChain}
use Rattle.ca_sim.specs.Seen.{Seen, AreNetWaves}
use Rattle.ca_examiner.specs.code.Marks.{IsMarked}
use Rattle.ca_examiner.specs.code.OpenNets.{is_closed_wave, is_closed_net, AreOpenTo, AreOpenNets}
use Rattle.ca_examiner.specs.code.ChipExaminer.{ReachesOutput}
use Rattle.ca_examiner.proofs.WaveTests.{not_closed_to, not_closed_from}

module _ (chip : Chip) (rank : ℕ → ℕ) (is_chip : IsChip chip rank) (u : ℕ) (known : u < count_of chip)
    (narrow wide : ℕ → Type 0) (widen : (net : ℕ) → net < length chip.nets → narrow net → wide net) where
  out_within : (w net : ℕ) → w < count_of chip → IsOutputOf chip w net → net < length chip.nets
  out_within w net known_w out = subst (λ n. n < length chip.nets) out.on
      (is_chip.on_nets w (inputs_at chip w + out.output) known_w (let lt = out.within in omega arith))

  -- a chain of nets that are open in one sense is one in another, where nets of the chip are
  pub other_chain : (nets : List ℕ) → IsOpenChain narrow chip u nets → IsOpenChain wide chip u nets
  other_chain [] chain = absurd chain
  other_chain (net ∷ []) chain = (widen net (out_within u net known chain.1) chain.0, chain.1)
  other_chain (net ∷ (before ∷ nets)) chain =
      let feeds = chain.1 in
      let out : IsOutputOf chip feeds.instance net =
      record { output = feeds.output; within = feeds.output_within; on = feeds.drives } in
      (widen net (out_within feeds.instance net feeds.known out) chain.0, feeds, other_chain (before ∷ nets) chain.2)

-- the waves that are seen are those of the flat networks
module _ (seen : Seen) (rank : ℕ → ℕ) (is_chip : IsChip seen.chip rank) (defect : ChipDefect)
    (known : defect.instance < count_of seen.chip)
    (good_are : AreNetWaves seen.chip None seen.pair seen.good)
    (faulty_are : AreNetWaves seen.chip (Some defect) seen.pair seen.faulty)
    (marks : List Bool) (are : AreOpenNets seen marks)
    (good : FlatWaves seen.chip None seen.pair) (faulty : FlatWaves seen.chip (Some defect) seen.pair) where
  -- a mark is the test for the waves of the limits
  tested : (net : ℕ) → net < length seen.chip.nets
      → slice_index_or marks net false ≡ not (is_closed_wave (wave_of good net) (wave_of faulty net))
  tested net within = are.each net within
      ∙ ap (λ w. not (is_closed_wave w (wave_at seen.faulty net))) (good_are.exact good net within)
      ∙ ap (λ w. not (is_closed_wave (wave_of good net) w)) (faulty_are.exact faulty net within)

  marked_to : (net : ℕ) → net < length seen.chip.nets → IsMarked marks net → IsOpenNet good faulty net
  marked_to net within marked = not_closed_to (wave_of good net) (wave_of faulty net) (sym (tested net within) ∙ marked)

  marked_from : (net : ℕ) → net < length seen.chip.nets → IsOpenNet good faulty net → IsMarked marks net
  marked_from net within opened = tested net within ∙ not_closed_from (wave_of good net) (wave_of faulty net) opened

  -- where no output is reached, there is no open chain
  pub unreached_rules_out : (ReachesOutput seen.chip marks defect.instance → ⊥) → HasNoOpenChain good faulty
  unreached_rules_out none output before observed chain = none (record {
    output = output;
    observed = observed;
    reaches = record {
      before = before;
      chain = other_chain seen.chip rank is_chip defect.instance known (IsOpenNet good faulty) (IsMarked marks)
          marked_from (output ∷ before) chain;
    };
  })

  -- where one is, there is one
  pub reached_is_chain : ReachesOutput seen.chip marks defect.instance → HasNoOpenChain good faulty → ⊥
  reached_is_chain reaches none = none reaches.output reaches.reaches.before reaches.observed
      (other_chain seen.chip rank is_chip defect.instance known (IsMarked marks) (IsOpenNet good faulty)
      marked_to (reaches.output ∷ reaches.reaches.before) reaches.reaches.chain)

-- one more net is tested
pub open_more : (seen : Seen) (count : ℕ) (marks : List Bool) (good faulty : Wave) (closed : Bool) → count < length marks
    → AreOpenTo seen count marks → good ≡ wave_at seen.good count → faulty ≡ wave_at seen.faulty count
    → closed ≡ is_closed_wave good faulty → AreOpenTo seen (count + 1) (slice_set marks count (not closed))
open_more seen count marks good faulty closed within before good_is faulty_is closed_is = record {
  size = length-set marks count (not closed) ∙ before.size;
  each = λ net below. elim (ℕ_discrete net count) [
    | yes same ↦ subst (λ n. slice_index_or (slice_set marks count (not closed)) n false ≡ not (is_closed_net seen n)) (sym same)
        (get_or-set_same marks count (not closed) false within
        ∙ ap not (closed_is ∙ ap (λ w. is_closed_wave w faulty) good_is ∙ ap (is_closed_wave (wave_at seen.good count)) faulty_is))
    | no apart ↦ get_or-set_other marks count net (not closed) false apart
        ∙ before.each net (let far : net ≡ count → ⊥ = apart in omega arith)
  ];
}
