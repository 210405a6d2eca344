use Rattle.std.proofs.Common.{◌≡◌, None, Some, ap, ◌∙◌, subst, sym}
use Rattle.ca_net.specs.Circuit.{IsWellFormed}
use Rattle.ca_net.specs.State.{value_at}
use Rattle.ca_flat.specs.Chip.{IsDefectIn}
use Rattle.ca_flat.specs.Flat.{flat}
use Rattle.ca_flips.specs.Flips.{AreLastsOf}
use Rattle.ca_view.specs.Linked.{place_in}
use Rattle.ca_sim.specs.Seen.{AreNetWaves}
use Rattle.ca_sweep.specs.Seen.{Loaded}
use Rattle.ca_sweep.specs.Found.{IsFound}
use Rattle.ca_sweep.specs.code.Coded.{IsSeenCoded}
use Rattle.ca_sweep.specs.code.Hand.{IsCodedAt}
use Rattle.ca_sweep.proofs.CodedLemmas.{code_is_found}
use Rattle.ca_sweep.proofs.finder.Finder.find.Goals as goal

pub find_computed-requires-clause-lasts : goal.find_computed-requires-clause-lasts
find_computed-requires-clause-lasts g c =
    subst (λ (s : Loaded). AreLastsOf s.chip (g.V.NetWaves.seen c.args.waves.now).pair (value_at s.lasts)) (sym c.code_of.ensures.kept) c.requires.lasts

pub returns-in-Some-clause-found : goal.returns-in-Some-clause-found
returns-in-Some-clause-found g c =
    let core = c.self.inside.chip.now.core in
    let rank = place_in c.self.inside.chip.now.ranks in
    let pair = (g.V.NetWaves.seen c.args.waves.now).pair in
    let waves = c.args.self.now.waves in
    let code = c.in-Some.code in
    let is_chip = c.linked.ensures.linked.is_chip in
    let own : c.args.self.now.chip ≡ c.self.inside.chip.now.core = ap (λ (s : Loaded). s.chip) (sym c.self.view_is) ∙ c.self.invariant.chip_is in
    let defect_is = subst (λ chip. IsDefectIn chip c.args.defect) own c.requires.defect.defect_is in
    let good_is = subst (λ chip. IsWellFormed (flat chip None)) own c.requires.good_is in
    let lasts = subst (λ chip. AreLastsOf chip (g.V.NetWaves.seen c.args.waves.now).pair (value_at c.self.inside.sweep.lasts)) c.self.invariant.chip_is
    (subst (λ (s : Loaded). AreLastsOf s.chip (g.V.NetWaves.seen c.args.waves.now).pair (value_at s.lasts)) (sym c.self.view_is) c.requires.lasts) in
    let net_waves = subst (λ chip. AreNetWaves chip None (g.V.NetWaves.seen c.args.waves.now).pair c.args.self.now.waves) own c.requires.waves in
    let seen = subst (λ chip. IsSeenCoded chip (value_at c.self.inside.sweep.lasts) c.args.defect.instance c.in-Some.code c.find_coded.result) c.self.invariant.chip_is
    (subst (λ (s : Loaded). IsSeenCoded s.chip (value_at s.lasts) c.args.defect.instance c.in-Some.code c.find_coded.result)
    (c.code_of.ensures.kept ∙ sym c.self.view_is) c.find_coded.ensures.found) in
    let at = subst (λ chip. IsCodedAt chip c.args.self.now.waves c.args.defect c.in-Some.code) own c.in-Some.ensures.code in
    subst (λ chip. IsFound chip c.args.defect (g.V.NetWaves.seen c.args.waves.now).pair c.find_coded.result) (sym own)
    (code_is_found c.swept_are_flipped.ensures c.detected_is_filled_in.ensures c.detected_is_flipped.ensures core rank c.args.defect pair waves
    (value_at c.self.inside.sweep.lasts) code c.find_coded.result
    (record {
      chip_is = is_chip;
      defect_is = defect_is;
      good_is = good_is;
      faulty_is = subst (λ chip. IsWellFormed (flat chip (Some c.args.defect))) own c.requires.faulty_is;
    }) net_waves lasts at seen)
