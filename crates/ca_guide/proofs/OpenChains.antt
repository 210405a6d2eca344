-- Floods over open nets are open chains.
use Rattle.std.proofs.Common.{ℕ, ◌+◌, ◌≡◌, ◌<◌, true, not, List, [], ◌∷◌, length, get_or, None, Some, sym}
use Rattle.std.proofs.Common.{◌∙◌, subst, arith}
use Rattle.std.specs.List.{Contains}
use Rattle.ca_flat.specs.declared.chip_defect.ChipDefect.{ChipDefect}
use Rattle.ca_flat.specs.Chip.{Chip, inputs_at, outputs_at, count_of}
use Rattle.ca_flat.specs.Waves.{FlatWaves, wave_of, unknown_wave}
use Rattle.ca_flat.specs.Chain.{Feeds, IsOutputOf}
use Rattle.ca_flat.specs.RuleOut.{IsOpenNet, IsOpenChain, HasNoOpenChain}
use Rattle.ca_guide.specs.code.Flood.{IsPath, IsFlood, EndsFlood}
use Rattle.ca_view.specs.NetLists.{NetLists, output_nets, AreNetsOf}
use Rattle.ca_guide.specs.Seen.{Seen, pair_of, ShowsWaves, is_closed_wave, open_area}
use Rattle.ca_guide.proofs.WaveTests.{not_closed_to, not_closed_from}
use Rattle.std.proofs.lemmas.Grind.{get_or_default_zero}
use Rattle.std.proofs.lemmas.Option.{get_or_from_slice_get}

module _ (chip : Chip) (lists : NetLists) (are : AreNetsOf chip lists) (u : ℕ) (known : u < count_of chip) where
  -- the nets of the output pins are the output nets
  pub pin_to : (net : ℕ) → Contains (output_nets lists u) net → IsOutputOf chip u net
  pin_to net there =
      let places = are.output_pins u known in
      let within : there.0 < outputs_at chip u = subst (λ n. there.0 < n) places.counted there.1 in
      record {
        output = there.0;
        within = within;
        on = sym (places.each there.0 within) ∙ (sym (get_or_default_zero (output_nets lists u) there.0 net there.1) ∙ there.2);
      }

  pub pin_from : (net : ℕ) → IsOutputOf chip u net → Contains (output_nets lists u) net
  pin_from net out =
      let places = are.output_pins u known in
      let within : out.output < length (output_nets lists u) = subst (λ n. out.output < n) (sym places.counted) out.within in
      (out.output, within, get_or_default_zero (output_nets lists u) out.output net within ∙ places.each out.output out.within ∙ out.on)

  pub output_within : (net : ℕ) → IsOutputOf chip u net → net < length chip.nets
  output_within net out = subst (λ n. n < length chip.nets) out.on
      (are.on_nets u (inputs_at chip u + out.output) known (omega (arith, out.within)))

fed_within : (chip : Chip) (lists : NetLists) → AreNetsOf chip lists → (before net : ℕ) → Feeds chip before net → net < length chip.nets
fed_within chip lists are before net feeds = subst (λ n. n < length chip.nets) feeds.drives
    (are.on_nets feeds.instance (inputs_at chip feeds.instance + feeds.output) feeds.known (omega (arith, feeds.output_within)))

module _ (chip : Chip) (defect : ChipDefect) (lists : NetLists) (seen : Seen) (good : FlatWaves chip None (pair_of seen))
    (faulty : FlatWaves chip (Some defect) (pair_of seen)) (are : AreNetsOf chip lists) (waves : ShowsWaves chip defect seen good faulty)
    (known : defect.instance < count_of chip) where
  good_read : (net : ℕ) → net < length chip.nets → get_or seen.good net unknown_wave ≡ wave_of good net
  good_read net within = get_or_from_slice_get seen.good net (wave_of good net) unknown_wave (waves.good_is net within)

  faulty_read : (net : ℕ) → net < length chip.nets → get_or seen.faulty net unknown_wave ≡ wave_of faulty net
  faulty_read net within = get_or_from_slice_get seen.faulty net (wave_of faulty net) unknown_wave (waves.faulty_is net within)

  entered_to : (net : ℕ) → net < length chip.nets → (open_area lists seen).enters net ≡ true → IsOpenNet good faulty net
  entered_to net within enters = not_closed_to (wave_of good net) (wave_of faulty net)
      (subst (λ w. not (is_closed_wave (wave_of good net) w) ≡ true) (faulty_read net within)
      (subst (λ w. not (is_closed_wave w (get_or seen.faulty net unknown_wave)) ≡ true) (good_read net within) enters))

  entered_from : (net : ℕ) → net < length chip.nets → IsOpenNet good faulty net → (open_area lists seen).enters net ≡ true
  entered_from net within is_open =
      subst (λ w. not (is_closed_wave w (get_or seen.faulty net unknown_wave)) ≡ true) (sym (good_read net within))
      (subst (λ w. not (is_closed_wave (wave_of good net) w) ≡ true) (sym (faulty_read net within))
      (not_closed_from (wave_of good net) (wave_of faulty net) is_open))

  chain_of_path : (nets : List ℕ) → IsPath lists.onward (open_area lists seen).enters (output_nets lists defect.instance) nets
      → IsOpenChain (IsOpenNet good faulty) chip defect.instance nets
  chain_of_path [] path = absurd path
  chain_of_path (net ∷ []) path =
      let out = pin_to chip lists are defect.instance known net path.1 in
      (entered_to net (output_within chip lists are defect.instance known net out) path.0, out)
  chain_of_path (net ∷ (before ∷ nets)) path =
      let feeds = (are.onward before net).0 path.1 in
      (entered_to net (fed_within chip lists are before net feeds) path.0, feeds, chain_of_path (before ∷ nets) path.2)

  module _ (members : List ℕ) (flood : IsFlood lists.onward (open_area lists seen) (output_nets lists defect.instance) members) where
    chain_is_flooded : (net : ℕ) (nets : List ℕ) → IsOpenChain (IsOpenNet good faulty) chip defect.instance (net ∷ nets) → Contains members net
    chain_is_flooded net [] chain =
        flood.begin net (pin_from chip lists are defect.instance known net chain.1)
        (entered_from net (output_within chip lists are defect.instance known net chain.1) chain.0)
    chain_is_flooded net (before ∷ nets) chain =
        flood.onward before net (chain_is_flooded before nets chain.2) ((are.onward before net).1 chain.1)
        (entered_from net (fed_within chip lists are before net chain.1) chain.0)

    pub flood_rules_out : HasNoOpenChain good faulty
    flood_rules_out output before observed chain = flood.no_end output (chain_is_flooded output before chain) ((are.observed output).1 observed)

  pub end_is_chain : EndsFlood lists.onward (open_area lists seen) (output_nets lists defect.instance) → HasNoOpenChain good faulty → ⊥
  end_is_chain end none = none end.net end.flooded.before ((are.observed end.net).0 end.ends) (chain_of_path (end.net ∷ end.flooded.before) end.flooded.path)
