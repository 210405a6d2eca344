use Rattle.ca_flat_tests.proofs.WaveLemmas.{pair_is_wave, five_waves}
use Rattle.ca_flat_tests.proofs.tests.ends.Goals as goal

pub three_phase-requires-clause-waves : goal.three_phase-requires-clause-waves
three_phase-requires-clause-waves c = five_waves _ _ _ _ _
    (pair_is_wave _ _ _ c.pair-power.ensures) (pair_is_wave _ _ _ c.pair-ground.ensures)
    (pair_is_wave _ _ _ c.pair-b.ensures) (pair_is_wave _ _ _ c.pair-a.ensures) (pair_is_wave _ _ _ c.pair-c.ensures)
