use Rattle.std.proofs.Common.{◌≡◌, ◌≢◌, ◌<◌, None, Some, ap, ◌∙◌, subst, sym}
use Rattle.std.specs.List.{All}
use Rattle.ca_net.specs.declared.trit.Trit.TheVariants.{X}
use Rattle.ca_net.specs.declared.wave.Wave.{Wave}
use Rattle.ca_net.specs.Circuit.{IsWellFormed}
use Rattle.ca_net.specs.State.{value_at}
use Rattle.ca_flat.specs.Chip.{IsDefectIn}
use Rattle.ca_flat.specs.Flat.{flat}
use Rattle.ca_flips.specs.Flips.{AreLastsOf}
use Rattle.ca_response.specs.Gives.{unknown_wave}
use Rattle.ca_view.specs.Linked.{place_in}
use Rattle.ca_sim.specs.Seen.{AreNetWaves}
use Rattle.ca_sweep.specs.Seen.{Loaded, IsSeen}
use Rattle.ca_sweep.specs.Found.{IsFound}
use Rattle.ca_sweep.specs.code.Faulty.{AreFlipsOf, AreWavesAt}
use Rattle.ca_sweep.proofs.FoundLemmas.{found_by, good_lasts, faulty_lasts}
use Rattle.ca_sweep.proofs.finder.Finder.find_computed.Goals as goal

pub returns-clause-found : goal.returns-clause-found
returns-clause-found g c =
    let core = c.self.inside.chip.now.core in
    let rank = place_in c.self.inside.chip.now.ranks in
    let pair = (g.V.NetWaves.seen c.args.waves.now).pair in
    let waves = c.self.inside.waves.items in
    let pins = c.in-Some.pins.items in
    let outputs = c.respond-outputs.result.items in
    let goods = value_at c.self.inside.sweep.lasts in
    let flips = c.flips_of-flips.result in
    let is_chip = c.linked.ensures.linked.is_chip in
    let own : c.args.self.now.chip ≡ c.self.inside.chip.now.core = ap (λ (s : Loaded). s.chip) (sym c.self.view_is) ∙ c.self.invariant.chip_is in
    let defect_is = subst (λ chip. IsDefectIn chip c.args.defect) own c.requires.defect.defect_is in
    let good_is = subst (λ chip. IsWellFormed (flat chip None)) own c.requires.good_is in
    let lasts = subst (λ chip. AreLastsOf chip (g.V.NetWaves.seen c.args.waves.now).pair (value_at c.self.inside.sweep.lasts)) c.self.invariant.chip_is
    (subst (λ (s : Loaded). AreLastsOf s.chip (g.V.NetWaves.seen c.args.waves.now).pair (value_at s.lasts)) (sym c.self.view_is) c.requires.lasts) in
    let net_waves = subst (λ chip. AreNetWaves chip None (g.V.NetWaves.seen c.args.waves.now).pair c.self.inside.waves.items) own
    (subst (λ list. AreNetWaves c.args.self.now.chip None (g.V.NetWaves.seen c.args.waves.now).pair list) (ap (λ (s : Loaded). s.waves) (sym c.self.view_is)) c.requires.waves) in
    let pins_are = subst (λ list. AreWavesAt core list c.args.defect.instance c.in-Some.pins.items) c.deref.ensures.value c.in-Some.ensures in
    let seen = subst (λ chip. IsSeen chip (value_at c.self.inside.sweep.lasts) c.args.defect.instance c.flips_of-flips.result c.see-seen.result) c.self.invariant.chip_is c.see-seen.ensures.seen in
    let flips_are = subst (λ list. AreFlipsOf core (value_at c.self.inside.sweep.lasts) c.args.defect.instance list c.flips_of-flips.result) c.as_slice.ensures.value
    (subst (λ chip. AreFlipsOf chip (value_at c.self.inside.sweep.lasts) c.args.defect.instance c.as_slice.result.now c.flips_of-flips.result) c.self.invariant.chip_is c.flips_of-flips.ensures) in
    subst (λ chip. IsFound chip c.args.defect (g.V.NetWaves.seen c.args.waves.now).pair c.reported.result) (sym own)
    (subst (IsFound core c.args.defect (g.V.NetWaves.seen c.args.waves.now).pair) (sym c.reported.ensures)
    (found_by c.swept_are_flipped.ensures c.detected_is_filled_in.ensures c.detected_is_flipped.ensures core rank c.args.defect pair pins (value_at c.self.inside.sweep.lasts) outputs flips
    (record {
      chip_is = is_chip;
      defect_is = defect_is;
      good_is = good_is;
      faulty_is = subst (λ chip. IsWellFormed (flat chip (Some c.args.defect))) own c.requires.faulty_is;
    })
    (good_lasts core rank pair c.args.defect.instance waves pins (value_at c.self.inside.sweep.lasts) is_chip defect_is.known net_waves pins_are lasts)
    (faulty_lasts core c.args.defect pins outputs c.respond-outputs.ensures.gives) flips_are c.are_definite.result c.see-seen.result
    (λ is output within. subst (All (λ (wave : Wave). wave.last ≢ X)) c.as_slice-2.ensures.value (c.are_definite.ensures.0 is) output unknown_wave
    (subst (λ n. output < n) (sym c.respond-outputs.ensures.gives.count) within)) seen))
