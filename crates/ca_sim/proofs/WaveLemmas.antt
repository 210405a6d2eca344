-- Lists of the waves of nets.
use Rattle.std.proofs.Common.{◌≡◌, ℕ, zero, suc, ◌+◌, ◌<◌, List, [], ◌∷◌, ◌++◌, inl, inr, length, refl, sym}
use Rattle.std.proofs.Common.{◌∙◌, ap, subst, arith}
use Rattle.ca_net.specs.declared.wave.Wave.{Wave}
use Rattle.ca_net.specs.State.{value_at}
use Rattle.ca_net.specs.Wave.{firsts, mids, lasts}
use Rattle.std.specs.List.{All}
use Rattle.std.proofs.lemmas.Bool.{cases_lt}
use Rattle.std.proofs.lemmas.List.{get_or_past}
use Rattle.std.proofs.lemmas.List.Elements.{All-from_get_or, All-contains, Contains-get_or}
use Rattle.ca_net.specs.Wave.{IsWave}
use Rattle.ca_response.specs.Gives.{unknown_wave, wave_at}
use Rattle.ca_sim.specs.Current.{waves_from}

module _ (net : ℕ → ℕ) (waves : List Wave) where
  pub length-waves_from : (pin count : ℕ) → length (waves_from net waves pin count) ≡ count
  unfolding waves_from
  length-waves_from pin zero = refl
  length-waves_from pin (suc count) = omega (arith, length-waves_from (pin + 1) count)

  pub wave_at-waves_from : (pin count place : ℕ) → place < count → wave_at (waves_from net waves pin count) place ≡ wave_at waves (net (pin + place))
  unfolding waves_from
  wave_at-waves_from pin zero place within = absurd (omega arith)
  wave_at-waves_from pin (suc count) zero within = ap (λ k. wave_at waves (net k)) (let e : pin ≡ pin + 0 = omega arith in e)
  wave_at-waves_from pin (suc count) (suc place) within = wave_at-waves_from (pin + 1) count place (omega arith)
      ∙ ap (λ k. wave_at waves (net k)) (let e : pin + 1 + place ≡ pin + suc place = omega arith in e)

-- the lists are one where the nets' waves are
pub same-waves_from : (net : ℕ → ℕ) (old new : List Wave) (pin count : ℕ)
    → ((place : ℕ) → place < pin + count → wave_at new (net place) ≡ wave_at old (net place)) → waves_from net new pin count ≡ waves_from net old pin count
unfolding waves_from
same-waves_from net old new pin zero same = refl
same-waves_from net old new pin (suc count) same =
    let rest = same-waves_from net old new (pin + 1) count (λ place within. same place (omega arith)) in
    let here = same pin (omega arith) in cc

-- the values of a frame of waves
pub value_at-firsts : (waves : List Wave) (place : ℕ) → value_at (firsts waves) place ≡ (wave_at waves place).first
value_at-firsts [] place = refl
value_at-firsts (wave ∷ waves) zero = refl
value_at-firsts (wave ∷ waves) (suc place) = value_at-firsts waves place

pub value_at-mids : (waves : List Wave) (place : ℕ) → value_at (mids waves) place ≡ (wave_at waves place).mid
value_at-mids [] place = refl
value_at-mids (wave ∷ waves) zero = refl
value_at-mids (wave ∷ waves) (suc place) = value_at-mids waves place

pub value_at-lasts : (waves : List Wave) (place : ℕ) → value_at (lasts waves) place ≡ (wave_at waves place).last
value_at-lasts [] place = refl
value_at-lasts (wave ∷ waves) zero = refl
value_at-lasts (wave ∷ waves) (suc place) = value_at-lasts waves place

-- one more net
waves_from-suc : (net : ℕ → ℕ) (waves : List Wave) (pin count : ℕ) → waves_from net waves pin (suc count) ≡ waves_from net waves pin count ++ wave_at waves (net (pin + count)) ∷ []
unfolding waves_from
waves_from-suc net waves pin zero = ap (λ k. wave_at waves (net k) ∷ []) (let e : pin ≡ pin + 0 = omega arith in e)
waves_from-suc net waves pin (suc count) = ap (λ rest. wave_at waves (net pin) ∷ rest) (waves_from-suc net waves (pin + 1) count
    ∙ ap (λ k. waves_from net waves (pin + 1) count ++ wave_at waves (net k) ∷ []) (let e : pin + 1 + count ≡ pin + suc count = omega arith in e))

pub waves_from-more : (net : ℕ → ℕ) (waves : List Wave) (count : ℕ) → waves_from net waves 0 (count + 1) ≡ waves_from net waves 0 count ++ wave_at waves (net count) ∷ []
waves_from-more net waves count = ap (waves_from net waves 0) (let e : count + 1 ≡ suc count = omega arith in e) ∙ waves_from-suc net waves 0 count
    ∙ ap (λ k. waves_from net waves 0 count ++ wave_at waves (net k) ∷ []) (let e : 0 + count ≡ count = omega arith in e)

pub waves_from-none : (net : ℕ → ℕ) (waves : List Wave) (pin : ℕ) → [] ≡ waves_from net waves pin 0
unfolding waves_from
waves_from-none net waves pin = refl

pub all_waves_from : (net : ℕ → ℕ) (waves : List Wave) → ((n : ℕ) → IsWave (wave_at waves n)) → (count : ℕ) → All IsWave (waves_from net waves 0 count)
all_waves_from net waves are count = All-from_get_or IsWave (waves_from net waves 0 count) unknown_wave
    (λ i within. let l = length-waves_from net waves 0 count in subst IsWave (sym (wave_at-waves_from net waves 0 count i (omega arith))) (are (net (0 + i))))

pub each_wave : (waves : List Wave) → All IsWave waves → (n : ℕ) → IsWave (wave_at waves n)
each_wave waves all n = elim (cases_lt n (length waves)) [
  | inl within ↦ All-contains IsWave waves (wave_at waves n) all (Contains-get_or waves n unknown_wave within)
  | inr past ↦ subst IsWave (sym (get_or_past waves n unknown_wave past)) (record { below_first = inl refl; below_last = inl refl })
]
