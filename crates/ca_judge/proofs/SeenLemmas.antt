-- What the guide sees is what the simulator shows.
use Rattle.std.proofs.Common.{◌≡◌, ◌<◌, ℕ, zero, suc, Bool, true, false, List, [], ◌∷◌, length, map, Option}
use Rattle.std.proofs.Common.{None, Some, refl, sym, ◌∙◌, ap, subst, arith}
use Rattle.std.specs.Prelude.{slice_get}
use Rattle.std.proofs.lemmas.Option.{slice_get-get_or}
use Rattle.std.proofs.lemmas.List.{length-map}
use Rattle.ca_net.specs.declared.trit.Trit.{Trit}
use Rattle.ca_net.specs.declared.trit.Trit.TheVariants.{Zero, One, X}
use Rattle.ca_net.specs.declared.wave.Wave.{Wave}
use Rattle.ca_net.specs.State.{value_at}
use Rattle.ca_response.specs.Gives.{wave_at}
use Rattle.ca_flat.specs.declared.chip_defect.ChipDefect.{ChipDefect}
use Rattle.ca_flat.specs.Waves.{FlatWaves, wave_of, unknown_wave}
use Rattle.ca_guide.specs.Seen as guide
use Rattle.ca_guide.specs.Guide.{ShowsPair}
use Rattle.ca_sim.specs.Seen.{Seen, value_of, AreNetWaves, IsWhole}
use Rattle.ca_judge.specs.GuideSeen.{bit_of, guide_seen}

trit_again : (t : Trit) → guide.set_trit (bit_of t) ≡ t
trit_again Zero = refl
trit_again One = refl
trit_again X = refl

bit_again : (bit : Option Bool) (t : Trit) → value_of bit ≡ t → bit ≡ bit_of t
bit_again None t e = ap bit_of e
bit_again (Some true) t e = ap bit_of e
bit_again (Some false) t e = ap bit_of e

pairs_again : (pair : List Trit) → map guide.set_trit (map bit_of pair) ≡ pair
pairs_again [] = refl
pairs_again (t ∷ pair) =
    ap (λ x. x ∷ map guide.set_trit (map bit_of pair)) (trit_again t) ∙ ap (λ rest. t ∷ rest) (pairs_again pair)

-- the pair of what the guide sees
pub pair_again : (seen : Seen) → guide.pair_of (guide_seen seen) ≡ seen.pair
pair_again seen = pairs_again seen.pair

pub bits_count : (seen : Seen) → length (guide_seen seen).bits ≡ length seen.pair
bits_count seen = length-map seen.pair bit_of

-- a bit that is read
pub read_bit : (pair : List Trit) (bit : ℕ) (value : Option Bool) → bit < length pair
    → value_of value ≡ value_at pair bit → slice_get (map bit_of pair) bit ≡ Some value
read_bit [] bit value lt e = absurd (omega arith)
read_bit (t ∷ pair) zero value lt e = ap Some (sym (bit_again value t e))
read_bit (t ∷ pair) (suc bit) value lt e = read_bit pair bit value (omega arith) e

none_is_x : (t : Trit) → Some (bit_of t) ≡ Some None → t ≡ X
none_is_x Zero e = absurd (let clash : Some (Some false) ≡ Some None = e in cc)
none_is_x One e = absurd (let clash : Some (Some true) ≡ Some None = e in cc)
none_is_x X e = refl

-- a bit that is read as unset
pub unset_value : (pair : List Trit) (bit : ℕ) → slice_get (map bit_of pair) bit ≡ Some None → value_at pair bit ≡ X
unset_value [] bit e = refl
unset_value (t ∷ pair) zero e = none_is_x t e
unset_value (t ∷ pair) (suc bit) e = unset_value pair bit e

-- a wave that is read
pub read_wave : (waves : List Wave) (net : ℕ) (wave : Wave) → net < length waves → wave ≡ wave_at waves net
    → slice_get waves net ≡ Some wave
read_wave waves net wave lt e = slice_get-get_or waves net unknown_wave lt ∙ ap Some (sym e)

-- whatever the limits are, the guide sees them
module _ (defect : ChipDefect) (seen : Seen) (whole : IsWhole seen)
    (good_are : AreNetWaves seen.chip None seen.pair seen.good)
    (faulty_are : AreNetWaves seen.chip (Some defect) seen.pair seen.faulty) where
  -- for a pair that is the same
  shows_at : (pair : List Trit) → seen.pair ≡ pair → (good : FlatWaves seen.chip None pair)
      → (net : ℕ) → net < length seen.chip.nets → slice_get seen.good net ≡ Some (wave_of good net)
  shows_at pair same good net within = slice_get-get_or seen.good net unknown_wave
      (subst (λ n. net < n) (sym whole.good) within)
      ∙ ap Some ((subst (λ p. AreNetWaves seen.chip None p seen.good) same good_are).exact good net within)

  shows_faulty_at : (pair : List Trit) → seen.pair ≡ pair → (faulty : FlatWaves seen.chip (Some defect) pair)
      → (net : ℕ) → net < length seen.chip.nets → slice_get seen.faulty net ≡ Some (wave_of faulty net)
  shows_faulty_at pair same faulty net within = slice_get-get_or seen.faulty net unknown_wave
      (subst (λ n. net < n) (sym whole.faulty) within)
      ∙ ap Some ((subst (λ p. AreNetWaves seen.chip (Some defect) p seen.faulty) same faulty_are).exact faulty net within)

  pub shows_pair : FlatWaves seen.chip None (guide.pair_of (guide_seen seen))
      → FlatWaves seen.chip (Some defect) (guide.pair_of (guide_seen seen))
      → ShowsPair seen.chip defect (guide_seen seen)
  shows_pair good faulty = record {
    good = good;
    faulty = faulty;
    are = record {
      good_is = shows_at (guide.pair_of (guide_seen seen)) (sym (pair_again seen)) good;
      faulty_is = shows_faulty_at (guide.pair_of (guide_seen seen)) (sym (pair_again seen)) faulty;
      good_count = whole.good;
      faulty_count = whole.faulty;
      bits = bits_count seen ∙ whole.bits;
    };
  }
