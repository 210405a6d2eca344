-- One instance more in topological order.
use Rattle.std.proofs.Common.{◌≡◌, ℕ, ◌+◌, ◌^◌, ◌<◌, true, List, get_or, length, map, take, inl, inr, refl}
use Rattle.std.proofs.Common.{sym, ap, ap₂, ◌∙◌, subst, arith}
use Rattle.std.proofs.lemmas.Bool.{cases_lt}
use Rattle.ca_net.specs.declared.trit.Trit.{Trit}
use Rattle.ca_net.specs.declared.node.NodeKind.{NodeKind}
use Rattle.ca_net.specs.declared.node.NodeKind.TheVariants.{Input, Storage}
use Rattle.ca_net.specs.Trit.{IsBelow}
use Rattle.ca_net.specs.State.{value_at}
use Rattle.ca_flat.specs.Chip.{Chip, instance_at, cell_at, inputs_at, outputs_at, net_of, output_net}
use Rattle.ca_flat.specs.Chip.{count_of, net_kind, IsChip}
use Rattle.ca_flat.specs.TwoFrame.{IsCommon, IsVectorOver, FirstRowsGive, LastRowsGive, AreTwoFrame}
use Rattle.ca_lanes.specs.Choice.{Choice, choice_for, trit_for, choice_at}
use Rattle.ca_lanes.specs.GoodRows.{good_at, AreGoodRows}
use Rattle.ca_lanes.specs.Netlist.{IsAmong, IsOrder}
use Rattle.ca_lanes.specs.Loaded.{trits_for, IsOfTrit, IsLoaded}
use Rattle.ca_lanes.specs.code.Allowed.{allowed_by}
use Rattle.ca_lanes.specs.code.Given.{given_by, given_by_rows}
use Rattle.ca_lanes.specs.code.Evaluated.{IsEvaluated}
use Rattle.ca_lanes.specs.code.Sweep.{IsSettledAt, IsLoadedTo}
use Rattle.ca_lanes.proofs.PinLemmas.{trit_again, of_trit, value_of, pin_trits, instance_pins, instance_masks}
use Rattle.ca_lanes.proofs.PlainLemmas.{ArePins, first_is_common, first_is_shown, last_is_common}
use Rattle.ca_lanes.proofs.PlainLemmas.{last_is_shown, common_same}

-- rows over values that are the same at the pins
over_same : (chip : Chip) (u : ℕ) (old new : List Trit) → ((pin : ℕ) → pin < inputs_at chip u → value_at new (net_of chip u pin) ≡ value_at old (net_of chip u pin))
    → (a : List Trit) → IsVectorOver chip u old a → IsVectorOver chip u new a
over_same chip u old new same a over = record {
  definite = over.definite;
  over = λ pin known. subst (λ t. IsBelow t (value_at a pin)) (sym (same pin known)) (over.over pin known);
}

first_same_rows : (chip : Chip) (u output : ℕ) (old new : List Trit) → ((pin : ℕ) → pin < inputs_at chip u → value_at new (net_of chip u pin) ≡ value_at old (net_of chip u pin))
    → (t : Trit) → IsCommon (FirstRowsGive chip u old output) t → IsCommon (FirstRowsGive chip u new output) t
first_same_rows chip u output old new same t common = common_same (FirstRowsGive chip u old output) (FirstRowsGive chip u new output)
    (λ v. (λ all a over. all a (over_same chip u new old (λ pin known. sym (same pin known)) a over), λ all a over. all a (over_same chip u old new same a over))) t common

last_same_rows : (chip : Chip) (u output : ℕ) (old new old_last new_last : List Trit)
    → ((pin : ℕ) → pin < inputs_at chip u → value_at new (net_of chip u pin) ≡ value_at old (net_of chip u pin))
    → ((pin : ℕ) → pin < inputs_at chip u → value_at new_last (net_of chip u pin) ≡ value_at old_last (net_of chip u pin))
    → (t : Trit) → IsCommon (LastRowsGive chip u old old_last output) t → IsCommon (LastRowsGive chip u new new_last output) t
last_same_rows chip u output old new old_last new_last same same_last t common = common_same (LastRowsGive chip u old old_last output) (LastRowsGive chip u new new_last output)
    (λ v. (
      λ all a b over over_last. all a b (over_same chip u new old (λ pin known. sym (same pin known)) a over) (over_same chip u new_last old_last (λ pin known. sym (same_last pin known)) b over_last),
      λ all a b over over_last. all a b (over_same chip u old new same a over) (over_same chip u old_last new_last same_last b over_last),
    )) t common

module _ (chip : Chip) (rank : ℕ → ℕ) (pair : List Trit) (order : List ℕ) (is : IsChip chip rank) (orders : IsOrder chip order) (count : ℕ) (next : count < length order)
    (firsts lasts new_firsts new_lasts : List Choice) (loaded : IsLoadedTo chip pair order count firsts lasts) (values : List Trit)
    (rows : AreGoodRows (cell_at chip (get_or order count 0)) values) where
  abbrev u : ℕ
  u = get_or order count 0

  known : u < count_of chip
  known = orders.known count next

  -- no instance that is done, and not this one either, has an input pin on one of its outputs
  not_own : (w pin output : ℕ) → w ≡ u → pin < inputs_at chip w → output < outputs_at chip u → net_of chip w pin ≡ output_net chip u output → ⊥
  not_own w pin output same fits within e =
      let less = is.ranked u pin known (subst (λ x. pin < inputs_at chip x) same fits)
      (record { instance = u; output = output; known = known; within = within; on = sym (subst (λ x. net_of chip x pin ≡ output_net chip u output) same e) }) in
      omega (arith, less)

  not_done : (w pin output : ℕ) → IsAmong order count w → pin < inputs_at chip w → output < outputs_at chip u → net_of chip w pin ≡ output_net chip u output → ⊥
  not_done w pin output among fits within e =
      let same = among.here in
      let place : among.place < length order = omega (arith, among.before, next) in
      let driver = orders.drivers among.place pin place (subst (λ x. pin < inputs_at chip x) (sym same) fits)
      (record { instance = u; output = output; known = known; within = within; on = sym (subst (λ x. net_of chip x pin ≡ output_net chip u output) (sym same) e) }) in
      let twice = orders.once driver.place count (omega (arith, driver.before, among.before, next)) next driver.here in
      omega (arith, twice, driver.before, among.before)

  -- nor is an input net or an output of one that is done
  not_input : (net output : ℕ) → output < outputs_at chip u → net_kind chip net ≡ Input → net ≡ output_net chip u output → ⊥
  not_input net output within input e =
      let drives = is.drives net (record { instance = u; output = output; known = known; within = within; on = sym e }) in
      let clash = sym input ∙ drives in cc

  not_other : (w other output : ℕ) → IsAmong order count w → w < count_of chip → other < outputs_at chip w → output < outputs_at chip u → output_net chip w other ≡ output_net chip u output → ⊥
  not_other w other output among w_known fits within e =
      let same = is.one_driver (output_net chip u output) (record { instance = w; output = other; known = w_known; within = fits; on = e })
      (record { instance = u; output = output; known = known; within = within; on = refl }) in
      let twice = orders.once among.place count (omega (arith, among.before, next)) next (among.here ∙ same.0) in
      omega (arith, twice, among.before)

  -- the nets of the input pins are known
  pin_known : (pin : ℕ) → pin < inputs_at chip u → IsOfTrit (choice_at firsts (net_of chip u pin)) × IsOfTrit (choice_at lasts (net_of chip u pin))
  pin_known pin fits = at (net_kind chip (net_of chip u pin)) refl
    where
      on_net : net_of chip u pin < length chip.nets
      on_net = is.on_nets u pin known (omega (arith, fits))

      at : (kind : NodeKind) → net_kind chip (net_of chip u pin) ≡ kind → IsOfTrit (choice_at firsts (net_of chip u pin)) × IsOfTrit (choice_at lasts (net_of chip u pin))
      at Input e = (of_trit _ _ (loaded.inputs.first (net_of chip u pin) on_net e), of_trit _ _ (loaded.inputs.last (net_of chip u pin) on_net e))
      at (Storage size) e =
          let drives = is.driven (net_of chip u pin) on_net (λ input. let clash = sym input ∙ e in cc) in
          let settled = loaded.settled drives.instance (orders.drivers count pin next fits drives) in (
            subst (λ net. IsOfTrit (choice_at firsts net)) drives.on (settled.first_is drives.output drives.within),
            subst (λ net. IsOfTrit (choice_at lasts net)) drives.on (settled.last_is drives.output drives.within),
          )

  abbrev k : ℕ
  k = inputs_at chip u

  abbrev o : ℕ
  o = outputs_at chip u

  abbrev nets : List ℕ
  nets = (instance_at chip u).pins

  module _ (pins : length nets ≡ k + o) (evaluated : IsEvaluated values k o nets true o firsts lasts new_firsts new_lasts) where
    first_each : (pin : ℕ) → pin < k → IsOfTrit (choice_at firsts (net_of chip u pin))
    first_each pin fits = (pin_known pin fits).0

    last_each : (pin : ℕ) → pin < k → IsOfTrit (choice_at lasts (net_of chip u pin))
    last_each pin fits = (pin_known pin fits).1

    first_pins : ArePins chip u (trits_for firsts) (pin_trits firsts (take k nets))
    first_pins = instance_pins chip u pins firsts first_each

    last_pins : ArePins chip u (trits_for lasts) (pin_trits lasts (take k nets))
    last_pins = instance_pins chip u pins lasts last_each

    -- the input pins keep their values
    same_first : (w : ℕ) → ((pin output : ℕ) → pin < inputs_at chip w → output < o → net_of chip w pin ≡ output_net chip u output → ⊥)
        → (pin : ℕ) → pin < inputs_at chip w → value_at (trits_for new_firsts) (net_of chip w pin) ≡ value_at (trits_for firsts) (net_of chip w pin)
    same_first w apart pin fits =
        value_of new_firsts (net_of chip w pin) ∙ ap trit_for (evaluated.other_first (net_of chip w pin) (λ output within. apart pin output fits within)) ∙ sym (value_of firsts (net_of chip w pin))

    same_last : (w : ℕ) → ((pin output : ℕ) → pin < inputs_at chip w → output < o → net_of chip w pin ≡ output_net chip u output → ⊥)
        → (pin : ℕ) → pin < inputs_at chip w → value_at (trits_for new_lasts) (net_of chip w pin) ≡ value_at (trits_for lasts) (net_of chip w pin)
    same_last w apart pin fits =
        value_of new_lasts (net_of chip w pin) ∙ ap trit_for (evaluated.other_last (net_of chip w pin) (λ output within. apart pin output fits within)) ∙ sym (value_of lasts (net_of chip w pin))

    here : IsSettledAt chip new_firsts new_lasts u
    here = record {
      first = λ output within.
          first_same_rows chip u output (trits_for firsts) (trits_for new_firsts) (same_first u (λ pin out. not_own u pin out refl)) _
          (subst (λ choice. IsCommon (FirstRowsGive chip u (trits_for firsts) output) (trit_for choice)) (first_choice_is output within)
          (first_is_common chip u output (trits_for firsts) (pin_trits firsts (take k nets)) values first_pins rows within));
      last = λ output within.
          last_same_rows chip u output (trits_for firsts) (trits_for new_firsts) (trits_for lasts) (trits_for new_lasts)
          (same_first u (λ pin out. not_own u pin out refl)) (same_last u (λ pin out. not_own u pin out refl)) _
          (subst (λ choice. IsCommon (LastRowsGive chip u (trits_for firsts) (trits_for lasts) output) (trit_for choice)) (last_choice_is output within)
          (last_is_common chip u output (trits_for firsts) (trits_for lasts) (pin_trits firsts (take k nets)) (pin_trits lasts (take k nets)) values first_pins last_pins rows within));
      first_is = λ output within.
          subst IsOfTrit (first_choice_is output within)
          (first_is_shown chip u output (trits_for firsts) (pin_trits firsts (take k nets)) values first_pins rows within);
      last_is = λ output within.
          subst IsOfTrit (last_choice_is output within)
          (last_is_shown chip u output (trits_for firsts) (trits_for lasts) (pin_trits firsts (take k nets)) (pin_trits lasts (take k nets)) values first_pins last_pins rows within);
    }
      where
        first_choice_is : (output : ℕ) → output < o
            → given_by (allowed_by true (map choice_for (pin_trits firsts (take k nets)))) (λ vector. good_at values (2 ^ k) o vector vector output) (2 ^ k) ≡ choice_at new_firsts (output_net chip u output)
        first_choice_is output within =
            ap (λ masks. given_by masks (λ vector. good_at values (2 ^ k) o vector vector output) (2 ^ k)) (instance_masks chip u pins firsts first_each) ∙ sym (evaluated.first output within)

        last_choice_is : (output : ℕ) → output < o
            → given_by_rows (allowed_by true (map choice_for (pin_trits firsts (take k nets)))) (allowed_by true (map choice_for (pin_trits lasts (take k nets))))
            (λ first last. good_at values (2 ^ k) o first last output) (2 ^ k) (2 ^ k) ≡ choice_at new_lasts (output_net chip u output)
        last_choice_is output within =
            ap₂ (λ a b. given_by_rows a b (λ first last. good_at values (2 ^ k) o first last output) (2 ^ k) (2 ^ k)) (instance_masks chip u pins firsts first_each) (instance_masks chip u pins lasts last_each) ∙ sym (evaluated.last output within)

    earlier : (w : ℕ) → IsAmong order count w → IsSettledAt chip new_firsts new_lasts w
    earlier w among =
        let before = loaded.settled w among in
        let w_known : w < count_of chip = subst (λ x. x < count_of chip) among.here (orders.known among.place (omega (arith, among.before, next))) in
        record {
          first = λ output within.
              first_same_rows chip w output (trits_for firsts) (trits_for new_firsts) (same_first w (λ pin out. not_done w pin out among)) _
              (subst (λ choice. IsCommon (FirstRowsGive chip w (trits_for firsts) output) (trit_for choice)) (kept_first w_known output within) (before.first output within));
          last = λ output within.
              last_same_rows chip w output (trits_for firsts) (trits_for new_firsts) (trits_for lasts) (trits_for new_lasts)
              (same_first w (λ pin out. not_done w pin out among)) (same_last w (λ pin out. not_done w pin out among)) _
              (subst (λ choice. IsCommon (LastRowsGive chip w (trits_for firsts) (trits_for lasts) output) (trit_for choice)) (kept_last w_known output within) (before.last output within));
          first_is = λ output within. subst IsOfTrit (kept_first w_known output within) (before.first_is output within);
          last_is = λ output within. subst IsOfTrit (kept_last w_known output within) (before.last_is output within);
        }
      where
        kept_first : w < count_of chip → (output : ℕ) → output < outputs_at chip w → choice_at firsts (output_net chip w output) ≡ choice_at new_firsts (output_net chip w output)
        kept_first w_known output within = sym (evaluated.other_first (output_net chip w output) (λ out fits. not_other w output out among w_known within fits))

        kept_last : w < count_of chip → (output : ℕ) → output < outputs_at chip w → choice_at lasts (output_net chip w output) ≡ choice_at new_lasts (output_net chip w output)
        kept_last w_known output within = sym (evaluated.other_last (output_net chip w output) (λ out fits. not_other w output out among w_known within fits))

    pub loaded_more : IsLoadedTo chip pair order (count + 1) new_firsts new_lasts
    loaded_more = record {
      inputs = record {
        first = λ net on_net input. evaluated.other_first net (λ output within. not_input net output within input) ∙ loaded.inputs.first net on_net input;
        last = λ net on_net input. evaluated.other_last net (λ output within. not_input net output within input) ∙ loaded.inputs.last net on_net input;
      };
      settled = λ w among. elim (cases_lt among.place count) [
        | inl less ↦ earlier w (record { place = among.place; before = less; here = among.here })
        | inr past ↦
            let place : among.place ≡ count = omega (arith, past, among.before) in
            subst (IsSettledAt chip new_firsts new_lasts) (ap (λ p. get_or order p 0) (sym place) ∙ among.here) here
      ];
    }

-- once all are evaluated, the values are the plain two-frame values
pub all_loaded : (chip : Chip) (pair : List Trit) (order : List ℕ) (firsts lasts : List Choice) → IsOrder chip order
    → IsLoadedTo chip pair order (length order) firsts lasts → AreTwoFrame chip pair (trits_for firsts) (trits_for lasts)
all_loaded chip pair order firsts lasts orders loaded = record {
  input_first = λ net on_net input. value_of firsts net ∙ ap trit_for (loaded.inputs.first net on_net input) ∙ trit_again _;
  input_last = λ net on_net input. value_of lasts net ∙ ap trit_for (loaded.inputs.last net on_net input) ∙ trit_again _;
  output_first = λ u output known within.
      subst (IsCommon (FirstRowsGive chip u (trits_for firsts) output)) (sym (value_of firsts (output_net chip u output))) ((loaded.settled u (orders.all u known)).first output within);
  output_last = λ u output known within.
      subst (IsCommon (LastRowsGive chip u (trits_for firsts) (trits_for lasts) output)) (sym (value_of lasts (output_net chip u output))) ((loaded.settled u (orders.all u known)).last output within);
}

-- and each net has the choice of a value
pub is_loaded : (chip : Chip) (rank : ℕ → ℕ) (pair : List Trit) (order : List ℕ) (firsts lasts : List Choice) → IsChip chip rank → IsOrder chip order
    → IsLoadedTo chip pair order (length order) firsts lasts → IsLoaded chip pair firsts lasts
is_loaded chip rank pair order firsts lasts is orders loaded = record {
  two_frame = all_loaded chip pair order firsts lasts orders loaded;
  first_is = λ net known. (both net known).0;
  last_is = λ net known. (both net known).1;
}
  where
    both : (net : ℕ) → net < length chip.nets → IsOfTrit (choice_at firsts net) × IsOfTrit (choice_at lasts net)
    both net known = at (net_kind chip net) refl
      where
        at : (kind : NodeKind) → net_kind chip net ≡ kind → IsOfTrit (choice_at firsts net) × IsOfTrit (choice_at lasts net)
        at Input e = (of_trit _ _ (loaded.inputs.first net known e), of_trit _ _ (loaded.inputs.last net known e))
        at (Storage size) e =
            let drives = is.driven net known (λ input. let clash = sym input ∙ e in cc) in
            let settled = loaded.settled drives.instance (orders.all drives.instance drives.known) in (
              subst (λ n. IsOfTrit (choice_at firsts n)) drives.on (settled.first_is drives.output drives.within),
              subst (λ n. IsOfTrit (choice_at lasts n)) drives.on (settled.last_is drives.output drives.within),
            )
