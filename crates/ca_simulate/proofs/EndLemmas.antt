-- The values that the loop over the observed outputs takes are what the flat networks end with.
use Rattle.std.proofs.Common.{◌≡◌, ℕ, ◌+◌, List, [], ◌∷◌, ◌++◌, length, inl, inr, refl, sym, ◌∙◌, ap}
use Rattle.std.proofs.Common.{subst, arith}
use Rattle.std.specs.Prelude.{Option, None, Some, Result, Ok, Err, IfOk, slice_index}
use Rattle.ca_simulate.specs.declared.simulation.OutputEnds.{OutputEnds}
use Rattle.std.proofs.lemmas.List.{length_push, get_or_push, get_or_append_left}
use Rattle.std.proofs.lemmas.Bool.{cases_lt}
use Rattle.std.proofs.lemmas.Option.{slice_get-get_or}
use Rattle.ca_net.specs.declared.trit.Trit.{Trit}
use Rattle.ca_net.specs.declared.trit.Trit.TheVariants.{X}
use Rattle.ca_net.specs.declared.wave.Wave.{Wave}
use Rattle.ca_net.specs.State.{value_at}
use Rattle.ca_response.specs.Gives.{wave_at}
use Rattle.ca_flat.specs.declared.chip_defect.ChipDefect.{ChipDefect}
use Rattle.ca_flat.specs.Chip as flat
use Rattle.ca_flat.specs.Simulation.{IsFlattened}
use Rattle.ca_linked.specs.Linked.{LinkedChip, IsWired}
use Rattle.ca_linked.proofs.OrderLemmas.{contained_at}
use Rattle.ca_view.specs.Core.{core_of, rank_of}
use Rattle.ca_view.proofs.CoreIsChip.{core_is}
use Rattle.ca_flatten.specs.Few.{IsFew}
use Rattle.ca_flatten.proofs.NetworkLemmas.{formed}
use Rattle.ca_view.specs.Linked.{IsAim, place_in}
use Rattle.ca_net.specs.Circuit.{IsWellFormed}
use Rattle.ca_flat.specs.Flat.{flat as flat_of}
use Rattle.ca_sim.specs.Seen.{Seen, AreNetWaves, IsExact}
use Rattle.ca_sim.proofs.Exact.{definite_last_is_end_lem}
use Rattle.ca_view.specs.Places.{AreRanks}
use Rattle.ca_view.proofs.PartFacts.{library_known}
use Rattle.ca_view.proofs.RankLemmas.{library_place}
use Rattle.ca_request.specs.Asked.{IsLibraryDefect}
use Rattle.ca_simulate.specs.Simulated.{AreOutputEnds, AreSimulated}
use Rattle.ca_simulate.specs.code.Lasts.{HaveLasts, AreLasts}
use Rattle.ca_simulate.proofs.RunLemmas.{is_chip_defect}

-- no value yet
pub no_lasts : (outputs : List ℕ) (waves : List Wave) → HaveLasts outputs waves 0 []
no_lasts outputs waves = record { room = refl; each = λ o lt. absurd (omega (arith, lt)) }

-- the next value
pub lasts_more : (outputs : List ℕ) (waves : List Wave) (k : ℕ) (old new : List Trit) (value : Trit) → HaveLasts outputs waves k old
    → value ≡ (wave_at waves (slice_index outputs k)).last → new ≡ old ++ value ∷ [] → HaveLasts outputs waves (k + 1) new
lasts_more outputs waves k old new value before is push = record {
  room = ap length push ∙ (let l = length_push old value in let r = before.room in omega arith);
  each = λ o lt. elim (cases_lt o k) [
    | inl low ↦ ap (λ list. value_at list o) push
        ∙ get_or_append_left old (value ∷ []) X o (let r = before.room in omega arith) ∙ before.each o low
    | inr high ↦
        let same : o ≡ k = omega arith in
        let at : length old ≡ o = let r = before.room in omega arith in
        ap (λ list. value_at list o) push ∙ get_or_push old value X o at ∙ is
        ∙ ap (λ n. (wave_at waves (slice_index outputs n)).last) (sym same)
  ];
}

module _ (chip : LinkedChip) (wired : IsWired chip) where
  -- its instance has a place in the order
  pub aimed_at : (ranks : List ℕ) → AreRanks chip ranks → (given : Option ChipDefect) → IsLibraryDefect chip given
      → IsAim (core_of chip) (place_in ranks) given
  aimed_at ranks are None is = tt
  aimed_at ranks are (Some given) is = record {
    defect_is = is.0;
    placed =
        let rank = (library_place chip wired given.instance is.1).rank in
        let here = are.each given.instance (library_known chip given.instance is.1) in
        omega arith;
  }

  module _ (few : (given : Option ChipDefect) → IsFew (core_of chip) given) where
    flattened : (given : Option ChipDefect) → IsLibraryDefect chip given → IsFlattened (core_of chip) (rank_of chip) given
    flattened given is = record {
      chip_is = core_is chip wired;
      defect_is = is_chip_defect chip given is;
      formed = formed chip given wired (is_chip_defect chip given is) (few given);
    }

    -- the last values of the waves of all observed outputs are what every run ends with
    ends_of : (given : Option ChipDefect) → IsLibraryDefect chip given → (pair : List Trit) (waves : List Wave) (values : List Trit)
        → AreNetWaves (core_of chip) given pair waves
        → HaveLasts (core_of chip).outputs waves (length (core_of chip).outputs) values
        → AreOutputEnds (core_of chip) given pair values
    ends_of given is pair waves values are have = record {
      count = have.room;
      ends = λ o lt v.
          let net = slice_index (core_of chip).outputs o in
          let within = (core_is chip wired).observed net
          (contained_at (core_of chip).outputs o net (slice_get-get_or (core_of chip).outputs o 0 lt)) in
          let end = definite_last_is_end_lem (core_of chip) (rank_of chip) given pair waves net v (flattened given is) are within in
          (λ h. end.0 (h.0, sym (have.each o lt) ∙ h.1), λ ends. let both = end.1 ends in (both.0, have.each o lt ∙ both.1));
    }

    -- what the simulator that holds the pair and is aimed at the defect has at the observed outputs
    pub simulated : (given : Option ChipDefect) → IsLibraryDefect chip given → (seen : Seen) (pair : List Trit) (n : ℕ) (good faulty : List Trit) → seen.chip ≡ core_of chip
        → seen.pair ≡ pair → seen.aim ≡ given → IsExact seen → n ≡ length (core_of chip).outputs
        → HaveLasts (core_of chip).outputs seen.good n good → HaveLasts (core_of chip).outputs seen.faulty n faulty
        → AreSimulated (core_of chip) given pair good faulty
    simulated given is seen pair n good faulty chip_is pair_is aim_is exact count goods faults = record {
      good_ends = by_none (subst (λ p. AreNetWaves (core_of chip) None p seen.good) pair_is
          (subst (λ (c : flat.Chip). IsWellFormed (flat_of c None) → AreNetWaves c None seen.pair seen.good) chip_is exact.good
          (formed chip None wired tt (few None))));
      faulty_ends = ends_of given is pair seen.faulty faulty
          (subst (λ p. AreNetWaves (core_of chip) given p seen.faulty) pair_is
          (subst (λ (o : Option ChipDefect). IsWellFormed (flat_of (core_of chip) o) → AreNetWaves (core_of chip) o seen.pair seen.faulty) aim_is
          (subst (λ (c : flat.Chip). IsWellFormed (flat_of c seen.aim) → AreNetWaves c seen.aim seen.pair seen.faulty) chip_is exact.faulty)
          (flattened given is).formed))
          (subst (λ k. HaveLasts (core_of chip).outputs seen.faulty k faulty) count faults);
    }
      where
        by_none : AreNetWaves (core_of chip) None pair seen.good → AreOutputEnds (core_of chip) None pair good
        by_none are = ends_of None tt pair seen.good good are (subst (λ k. HaveLasts (core_of chip).outputs seen.good k good) count goods)

    -- the same of what the loop over the observed outputs gives, if there is memory for it
    pub simulated_ends : {F : Type 0} (given : Option ChipDefect) → IsLibraryDefect chip given → (seen : Seen) (pair : List Trit) (ends : Result OutputEnds F)
        → seen.chip ≡ core_of chip → seen.pair ≡ pair → seen.aim ≡ given → IsExact seen
        → IfOk ends (AreLasts (core_of chip).outputs seen)
        → IfOk ends (λ ends. AreSimulated (core_of chip) given pair ends.good.items ends.faulty.items)
    simulated_ends given is seen pair (Err none) chip_is pair_is aim_is exact have = tt
    simulated_ends given is seen pair (Ok ends) chip_is pair_is aim_is exact have =
        simulated given is seen pair (length (core_of chip).outputs) ends.good.items ends.faulty.items chip_is pair_is aim_is exact refl have.good have.faulty
