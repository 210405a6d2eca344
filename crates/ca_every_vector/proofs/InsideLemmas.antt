-- Flips that stay inside known values are seen under no pair with these values, and what follows for defects.
use Rattle.std.specs.Prelude.{slice_index}
use Rattle.std.proofs.Common.{◌≡◌, ◌≢◌, ℕ, suc, Bool, true, false, ◌+◌, ◌-◌, ◌^◌, ◌<◌, List, length, None, inl, inr, refl, sym, ◌∙◌, ap, subst, arith}
use Rattle.ca_net.specs.declared.trit.Trit.{Trit}
use Rattle.ca_net.specs.declared.trit.Trit.TheVariants.{Zero, One, X}
use Rattle.ca_net.specs.declared.wave.Wave.{Wave}
use Rattle.ca_net.specs.Trit.{IsBelow}
use Rattle.ca_net.specs.State.{value_at, IsStateBelow}
use Rattle.ca_net.proofs.StateLemmas.{IsBelow-trans}
use Rattle.ca_parts.proofs.TritLemmas.{kept}
use Rattle.ca_cell.specs.Exposes.{opposite_of}
use Rattle.ca_flat.specs.declared.chip_defect.ChipDefect.{ChipDefect}
use Rattle.ca_flat.specs.Chip.{Chip, cell_at, inputs_at, outputs_at, net_of, output_net, count_of, IsChip}
use Rattle.ca_flat.specs.Waves.{FlatWaves, IsFlatChip}
use Rattle.ca_flat.specs.Detection.{trits_of}
use Rattle.ca_flat.proofs.CheckedCodes.{waves_are_unique_lem}
use Rattle.ca_flat.proofs.Clashes.{opposite_differs}
use Rattle.ca_flat.proofs.Detected.{some_good, some_faulty}
use Rattle.ca_flat.specs.Pair.{last_vector, net_value}
use Rattle.ca_flat.proofs.PairLemmas.{last_rises, value_at-values_from}
use Rattle.ca_flips.specs.Known.{AreKnownLasts}
use Rattle.ca_flips.proofs.KnownLemmas.{known_lasts_are_good_lem}
use Rattle.ca_sweep.proofs.UndetectedLemmas.{unseen_is_undetected}
use Rattle.ca_cell.proofs.NumberLemmas.{number_of}
use Rattle.std.proofs.lemmas.Nat.Bits.{bit_at_ones}
use Rattle.ca_flips.specs.Static.{EndsByLast}
use Rattle.ca_flips.specs.Flips.{AreSwept, KeepsGood, IsEvaluated, vector_at, lasts_of}
use Rattle.ca_flips.proofs.VectorLemmas.{vector_same}
use Rattle.ca_sweep.specs.declared.seen.Flips.{Flips}
use Rattle.ca_sweep.specs.Seen.{IsClear, IsSeenFrom, flipped_if, is_flipped, flipped_outputs}
use Rattle.ca_every_vector.specs.Possible.{Has}
use Rattle.ca_every_vector.specs.Laws.{NoneExposes}
use Rattle.ca_every_vector.specs.Inside.{IsEvaluatedInside, StaysInside, OutsideIsUntestable}
use Rattle.ca_every_vector.proofs.LawLemmas.{a, a_definite, again, b_definite, by_clear_at, number_fits, over_lasts}

-- what a value becomes under a pair, where flips made another of the known one: it stays where they are the same
abbrev merged : Trit → Trit → Trit → Trit
merged Zero Zero good = good
merged Zero One good = One
merged Zero X good = X
merged One Zero good = Zero
merged One One good = good
merged One X good = X
merged X Zero good = Zero
merged X One good = One
merged X X good = good

merged_same : (value other good : Trit) → other ≡ value → merged value other good ≡ good
merged_same Zero Zero good e = refl
merged_same Zero One good e = cc
merged_same Zero X good e = cc
merged_same One Zero good e = cc
merged_same One One good e = refl
merged_same One X good e = cc
merged_same X Zero good e = cc
merged_same X One good e = cc
merged_same X X good e = refl

-- what is known of a value that is definite is the value
known_value : (value good : Trit) → value ≢ X → IsBelow value good → good ≡ value
known_value value good definite up = kept value good definite up

merged_known : (value other good : Trit) → value ≢ X → IsBelow value good → merged value other good ≡ other
merged_known Zero Zero good definite up = known_value Zero good definite up
merged_known Zero One good definite up = refl
merged_known Zero X good definite up = refl
merged_known One Zero good definite up = refl
merged_known One One good definite up = known_value One good definite up
merged_known One X good definite up = refl
merged_known X other good definite up = absurd (definite refl)

merged_definite : (value other good : Trit) → other ≢ X → IsBelow value good → merged value other good ≡ other
merged_definite Zero other good definite up = merged_known Zero other good (λ e. cc) up
merged_definite One other good definite up = merged_known One other good (λ e. cc) up
merged_definite X Zero good definite up = refl
merged_definite X One good definite up = refl
merged_definite X X good definite up = absurd (definite refl)

merged_flipped : (flip : Bool) (value good : Trit) → value ≢ X → IsBelow value good
    → merged value (flipped_if flip value) good ≡ flipped_if flip good
merged_flipped true value good definite up =
    merged_known value (opposite_of value) good definite up ∙ ap opposite_of (sym (known_value value good definite up))
merged_flipped false value good definite up = merged_same value value good refl

module _ (chip : Chip) (rank : ℕ → ℕ) (is : IsChip chip rank) (u : ℕ) (lt : u < count_of chip) (values goods : ℕ → Trit)
    (below : (net : ℕ) → net < length chip.nets → IsBelow (values net) (goods net)) (clear : IsClear chip goods u)
    (flips : Flips) (others : ℕ → Trit) (stays : StaysInside chip u values flips others) where
  abbrev here : ℕ → Trit
  here net = merged (values net) (others net) (goods net)

  pin_on : (w pin : ℕ) → w < count_of chip → pin < inputs_at chip w + outputs_at chip w → net_of chip w pin < length chip.nets
  pin_on w pin known within = is.on_nets w pin known within

  given_here : (output : ℕ) → output < outputs_at chip u → here (output_net chip u output) ≡ flipped_outputs chip u goods flips output
  given_here output within =
      let net = output_net chip u output in
      ap (λ v. merged (values net) v (goods net)) (stays.given output within)
      ∙ merged_flipped (is_flipped flips output) (values net) (goods net) (stays.own output within)
      (below net (pin_on u (inputs_at chip u + output) lt (omega arith)))

  keeps_here : (w : ℕ) → KeepsGood chip w values others → KeepsGood chip w goods here
  keeps_here w keeps = record {
    pins = λ pin within. merged_same _ _ _ (keeps.pins pin within);
    outputs = λ output within. merged_same _ _ _ (keeps.outputs output within);
  }

  evaluated_here : (w : ℕ) → w < count_of chip → IsEvaluatedInside chip w values others → IsEvaluated chip w here
  evaluated_here w known inside output within =
      let ends = inside.evaluated output within in
      let net = output_net chip w output in
      let vector : vector_at chip w here ≡ vector_at chip w others = vector_same chip w here others (λ pin k.
      merged_known _ _ _ (inside.known pin k) (below (net_of chip w pin) (pin_on w pin known (omega arith)))) in
      subst (λ v. EndsByLast (cell_at chip w) v output (here net)) (sym vector)
      (subst (EndsByLast (cell_at chip w) (vector_at chip w others) output)
      (sym (merged_definite (values net) (others net) (goods net) ends.definite (below net (pin_on w (inputs_at chip w + output) known (omega arith))))) ends)

  swept_here : AreSwept chip u goods (flipped_outputs chip u goods flips) here
  swept_here = record {
    inputs = λ net within kind. merged_same _ _ _ (stays.inputs net within kind);
    given = given_here;
    others = λ w known apart. elim (stays.each w known apart) [
      | inl keeps ↦ inl (keeps_here w keeps)
      | inr inside ↦ inr (evaluated_here w known inside)
    ];
  }

  -- flips that stay inside are seen under no pair with these values
  pub inside_is_unseen : IsSeenFrom chip goods u flips None
  inside_is_unseen = record {
    clear = clear;
    values = here;
    swept = swept_here;
    first = λ place less opposite.
        let net = slice_index chip.outputs place in
        let same : here net ≡ goods net = merged_same _ _ _ (stays.unseen place less) in
        opposite_differs (goods net) opposite.0 (sym opposite.1 ∙ same);
  }

-- the last value of a net under a pair, as one of its last vector
last_at : (chip : Chip) (pair : List Trit) (net : ℕ) → net < length chip.nets
    → value_at (last_vector chip pair) (suc (suc net)) ≡ net_value chip pair (length chip.inputs) net
last_at chip pair net within = value_at-values_from (net_value chip pair (length chip.inputs)) 0 (length chip.nets) net within
    ∙ ap (net_value chip pair (length chip.inputs)) (let e : 0 + net ≡ net = omega arith in e)

-- known lasts of a partial pair are below the good ones of a pair above it
known_below : (chip : Chip) (rank : ℕ → ℕ) (defect : ChipDefect) → IsFlatChip chip rank defect → (partial pair : List Trit) (good : FlatWaves chip None pair)
    → IsStateBelow partial pair → (values : ℕ → Trit) → AreKnownLasts chip partial values → (net : ℕ) → net < length chip.nets
    → IsBelow (values net) (lasts_of good net)
known_below chip rank defect is partial pair good up values known net within =
    known_lasts_are_good_lem chip rank pair good values net is.chip_is is.good_is (record {
      inputs = λ n w kind. IsBelow-trans _ _ _ (known.inputs n w kind)
          (subst (λ low. IsBelow low (net_value chip pair (length chip.inputs) n)) (last_at chip partial n w)
          (subst (IsBelow (value_at (last_vector chip partial) (suc (suc n)))) (last_at chip pair n w) (last_rises chip partial pair up (suc (suc n)))));
      outputs = known.outputs;
    }) within

pub outside_is_untestable_lem : OutsideIsUntestable
outside_is_untestable_lem chip rank defect lasts is sure possible none bits count shown =
    let pair = trits_of bits in
    let last = possible bits count in
    let firsts = 2 ^ (2 ^ inputs_at chip defect.instance) - 1 in
    let outside : NoneExposes chip defect firsts lasts = λ row exposing first. none row exposing in
    some_good chip rank defect is pair (λ good. some_faulty chip rank defect is pair (λ faulty.
    let clear : IsClear chip (lasts_of good) defect.instance = record { all_static = sure.all_static; definite = sure.definite bits count good } in
    let are_lasts : (waves : FlatWaves chip None pair) (net : ℕ) → net < length chip.nets → lasts_of waves net ≡ lasts_of good net =
    λ waves net within. ap (λ (w : Wave). w.last) (waves_are_unique_lem chip None pair waves good net) in
    let known : (net : ℕ) → net < length chip.nets → IsBelow (last.of.values net) (lasts_of good net) =
    λ net within. known_below chip rank defect is last.partial pair good last.below last.of.values last.of.known net within in
    let first : Has firsts (number_of (a chip rank defect is pair good faulty firsts lasts outside)) =
    bit_at_ones (2 ^ inputs_at chip defect.instance) _ (number_fits chip rank defect is pair good faulty firsts lasts outside _
    (a_definite chip rank defect is pair good faulty firsts lasts outside)) in
    elim last.of.has [
      | inl inside ↦
          unseen_is_undetected chip rank defect is pair good faulty pair good (λ k. inr refl) (lasts_of good) are_lasts
          (λ flips. let at = inside flips in
          inside_is_unseen chip rank is.chip_is defect.instance is.defect_is.known last.of.values (lasts_of good) known clear flips at.0 at.1)
          shown.output shown.observed shown.detects
      | inr has ↦
          let fits = number_fits chip rank defect is pair good faulty firsts lasts outside _ (b_definite chip rank defect is pair good faulty firsts lasts outside) in
          by_clear_at chip rank defect is pair good faulty firsts lasts outside first pair good (λ k. inr refl) shown.output shown.observed shown.detects
          (lasts_of good) are_lasts clear
          (has _ fits (λ pin k.
          let on : net_of chip defect.instance pin < length chip.nets = is.chip_is.on_nets defect.instance pin is.defect_is.known (omega arith) in
          subst (λ v. IsBelow (last.of.values (net_of chip defect.instance pin)) (value_at v pin))
          (sym (again chip rank defect is pair good faulty firsts lasts outside _ (b_definite chip rank defect is pair good faulty firsts lasts outside)))
          (IsBelow-trans _ _ _ (known (net_of chip defect.instance pin) on) (over_lasts chip rank defect is pair good faulty firsts lasts outside pin k))))
    ]))
