-- What is found vector by vector.
use Rattle.std.proofs.Common.{◌≡◌, ℕ, ◌+◌, ◌*◌, List, length, None, inl, inr, sym, ◌∙◌, ap, subst, arith}
use Rattle.std.proofs.lemmas.Bool.{cases_eq}
use Rattle.std.proofs.lemmas.List.{get_or-map}
use Rattle.ca_net.specs.declared.trit.Trit.{Trit}
use Rattle.ca_net.specs.declared.trit.Trit.TheVariants.{X}
use Rattle.ca_net.specs.declared.wave.Wave.{Wave}
use Rattle.ca_net.specs.Circuit.{IsWellFormed}
use Rattle.ca_net.specs.State.{value_at}
use Rattle.ca_flat.specs.Chip.{Chip, count_of}
use Rattle.ca_flat.specs.Flat.{flat}
use Rattle.ca_flat.specs.Pair.{bit_count}
use Rattle.ca_flips.specs.Flips.{AreLastsOf}
use Rattle.ca_response.specs.Gives.{unknown_wave}
use Rattle.ca_sim.specs.Seen.{Seen, IsExact}
use Rattle.ca_sweep.specs.Seen.{lasts_in}
use Rattle.ca_every_vector.specs.Possible.{AreFirstsOf, HasFirsts, HasLasts}
use Rattle.ca_every_vector.specs.Vectors.{first_set, last_set}
use Rattle.ca_every_vector.specs.code.Firsts.{firsts_in}
use Rattle.ca_every_vector.specs.code.Masks.{mask_at, AreMore, HaveAllOver, HaveAllSeen, HaveFirsts, HaveLasts}
use Rattle.ca_every_vector.proofs.MaskLemmas.{over_more, seen_more}

-- the first and the last values of exact waves
firsts_of_seen : (seen : Seen) → IsExact seen → IsWellFormed (flat seen.chip None) → AreFirstsOf seen.chip seen.pair (value_at (firsts_in seen.good))
firsts_of_seen seen exact formed good net within =
    let waves = exact.good formed in
    sym (get_or-map (λ (wave : Wave). wave.first) seen.good net unknown_wave X (let e = waves.count in omega arith)
    ∙ ap (λ (wave : Wave). wave.first) (waves.exact good net within))

lasts_of_seen : (seen : Seen) → IsExact seen → IsWellFormed (flat seen.chip None) → AreLastsOf seen.chip seen.pair (value_at (lasts_in seen.good))
lasts_of_seen seen exact formed good net within =
    let waves = exact.good formed in
    sym (get_or-map (λ (wave : Wave). wave.last) seen.good net unknown_wave X (let e = waves.count in omega arith)
    ∙ ap (λ (wave : Wave). wave.last) (waves.exact good net within))

module _ (chip : Chip) (seen : Seen) (pair values : List Trit) (exact : IsExact seen) (chip_is : seen.chip ≡ chip) (pair_is : seen.pair ≡ pair) where
  pub firsts_are : values ≡ firsts_in seen.good → IsWellFormed (flat chip None) → AreFirstsOf chip pair (value_at values)
  firsts_are is formed = subst (λ list. AreFirstsOf chip pair (value_at list)) (sym is)
      (subst (λ p. AreFirstsOf chip p (value_at (firsts_in seen.good))) pair_is
      (subst (λ x. AreFirstsOf x seen.pair (value_at (firsts_in seen.good))) chip_is
      (firsts_of_seen seen exact (subst (λ x. IsWellFormed (flat x None)) (sym chip_is) formed))))

  pub lasts_are : values ≡ lasts_in seen.good → IsWellFormed (flat chip None) → AreLastsOf chip pair (value_at values)
  lasts_are is formed = subst (λ list. AreLastsOf chip pair (value_at list)) (sym is)
      (subst (λ p. AreLastsOf chip p (value_at (lasts_in seen.good))) pair_is
      (subst (λ x. AreLastsOf x seen.pair (value_at (lasts_in seen.good))) chip_is
      (lasts_of_seen seen exact (subst (λ x. IsWellFormed (flat x None)) (sym chip_is) formed))))

module _ (chip : Chip) (place_of : ℕ → ℕ) (end : ℕ) (values : List Trit) (old new : List ℕ) (more : AreMore old new) where
  pub have_firsts_more : (IsWellFormed (flat chip None) → AreFirstsOf chip (first_set (length chip.inputs) end) (value_at values)) → HaveAllOver chip place_of values (count_of chip) new
      → HaveFirsts chip place_of end old → HaveFirsts chip place_of (end + 1) new
  have_firsts_more are over before formed number u less placed = elim (cases_eq number end) [
    | inl e ↦ subst (λ n. HasFirsts chip u (mask_at new u) (first_set (length chip.inputs) n)) (sym e)
        (record { values = values; are_firsts = are formed; has = over u placed.known placed })
    | inr other ↦
        let was = before formed number u (omega (arith, other)) placed in
        record { values = was.values; are_firsts = was.are_firsts; has = over_more chip u was.values old new more was.has }
  ]

  pub have_lasts_more : (IsWellFormed (flat chip None) → AreLastsOf chip (last_set (length chip.inputs) end) (value_at values)) → HaveAllSeen chip place_of values (count_of chip) new
      → HaveLasts chip place_of end old → HaveLasts chip place_of (end + 1) new
  have_lasts_more are seen before formed number u less placed = elim (cases_eq number end) [
    | inl e ↦ subst (λ n. HasLasts chip u (mask_at new u) (last_set (length chip.inputs) n)) (sym e)
        (record { values = values; are_lasts = are formed; has = seen u placed.known placed })
    | inr other ↦
        let was = before formed number u (omega (arith, other)) placed in
        record { values = was.values; are_lasts = was.are_lasts; has = seen_more chip u was.values old new more was.has }
  ]

-- there are as many bits as nets of inputs, twice
pub bits_fit : (chip : Chip) (seen : Seen) (inputs long : ℕ) → IsExact seen → seen.chip ≡ chip → inputs ≡ length chip.inputs → long ≡ 2 * inputs → long ≡ length seen.pair
bits_fit chip seen inputs long exact chip_is inputs_are is =
    let bits : length seen.pair ≡ bit_count chip = exact.whole.bits ∙ ap bit_count chip_is in
    omega arith
