-- What a simulator beside a finder keeps.
use Rattle.std.proofs.Common.{◌≡◌, List, Bool, None, get_or, sym, ◌∙◌, ap, subst, arith}
use Rattle.std.proofs.lemmas.List.{get_or-map}
use Rattle.ca_net.specs.declared.trit.Trit.{Trit}
use Rattle.ca_net.specs.declared.trit.Trit.TheVariants.{X}
use Rattle.ca_net.specs.declared.wave.Wave.{Wave}
use Rattle.ca_net.specs.Circuit.{IsWellFormed}
use Rattle.ca_net.specs.State.{value_at}
use Rattle.ca_response.specs.Gives.{unknown_wave}
use Rattle.ca_flat.specs.Flat.{flat}
use Rattle.ca_flips.specs.Flips.{AreLastsOf}
use Rattle.ca_sim.specs.Seen.{Seen, AreNetWaves, IsExact}
use Rattle.ca_sim.specs.Simulator.{Simulator}
use Rattle.ca_sweep.specs.Seen.{Loaded, lasts_in}
use Rattle.ca_examiner.specs.code.FlipSim.{IsFlipSim}

-- the same chip and bits, and the same places
pub flip_kept : (old new : Simulator) (finder : Loaded) (loaded : Bool) → new.seen.chip ≡ old.seen.chip → new.seen.places ≡ old.seen.places
    → new.seen.pair ≡ old.seen.pair → IsFlipSim old finder loaded → IsFlipSim new finder loaded
flip_kept old new finder loaded chip_is places_are pair_is is = record {
  chip_is = is.chip_is ∙ sym chip_is;
  places_are = is.places_are ∙ sym places_are;
  lasts = λ on. subst (λ chip. AreLastsOf chip new.seen.pair (value_at finder.lasts)) (sym chip_is)
      (subst (λ pair. AreLastsOf old.seen.chip pair (value_at finder.lasts)) (sym pair_is) (is.lasts on));
  waves = λ on. subst (λ chip. AreNetWaves chip None new.seen.pair finder.waves) (sym chip_is)
      (subst (λ pair. AreNetWaves old.seen.chip None pair finder.waves) (sym pair_is) (is.waves on));
}

-- the last values of the good waves are good last values
pub loaded_lasts : (seen : Seen) (lasts : List Trit) → lasts ≡ lasts_in seen.good → IsExact seen → IsWellFormed (flat seen.chip None)
    → AreLastsOf seen.chip seen.pair (value_at lasts)
loaded_lasts seen lasts is exact formed = λ good net within.
    let waves = exact.good formed in
    let here : value_at lasts net ≡ (get_or seen.good net unknown_wave).last =
    ap (λ list. value_at list net) is ∙ get_or-map (λ (wave : Wave). wave.last) seen.good net unknown_wave X (let c = waves.count in omega arith) in
    sym (ap (λ (wave : Wave). wave.last) (waves.exact good net within)) ∙ sym here

-- the good waves are those of the flat network
pub loaded_waves : (seen : Seen) (waves : List Wave) → waves ≡ seen.good → IsExact seen → IsWellFormed (flat seen.chip None)
    → AreNetWaves seen.chip None seen.pair waves
loaded_waves seen waves is exact formed = subst (AreNetWaves seen.chip None seen.pair) (sym is) (exact.good formed)
