-- The three parts of plain rule-out, from what the guide has found.
use Rattle.std.proofs.Common.{ℕ, ◌+◌, ◌≡◌, ◌<◌, ◌≤◌, inl, inr, Bool, true, false, not, List, length, get_or}
use Rattle.std.proofs.Common.{map, Option, Some, None, refl, sym, ◌∙◌, ap, subst, arith}
use Rattle.std.specs.Prelude.{slice_get}
use Rattle.std.specs.Option.{is_some}
use Rattle.std.specs.List.{All}
use Rattle.ca_net.specs.declared.trit.Trit.{Trit}
use Rattle.ca_net.specs.declared.wave.Wave.{Wave}
use Rattle.ca_net.specs.declared.trit.Trit.TheVariants.{Zero, One, X}
use Rattle.ca_net.specs.Trit.{IsBelow}
use Rattle.ca_net.specs.State.{value_at}
use Rattle.ca_cell.specs.declared.row.Row.{Row}
use Rattle.ca_cell.specs.Row.{vector_of}
use Rattle.ca_cell.specs.declared.rule.TheConstants.{MOST_INPUTS}
use Rattle.ca_flat.specs.declared.chip_defect.ChipDefect.{ChipDefect}
use Rattle.ca_flat.specs.Chip.{Chip, inputs_at, net_of, count_of}
use Rattle.ca_flat.specs.Pair.{IsOpenPair}
use Rattle.ca_flat.specs.Waves.{FlatWaves, wave_of, unknown_wave}
use Rattle.ca_flat.specs.Chain.{IsSupportBit}
use Rattle.ca_flat.specs.RuleOut.{RowsRuleOut}
use Rattle.ca_flat.specs.Rows.{ListsExposingRows, IsNotOver}
use Rattle.ca_flat.specs.CheckedCode.{IsPlain, IsCheckedBranch}
use Rattle.ca_flat.proofs.Codes.{support_within}
use Rattle.ca_flat.proofs.CheckedCodes.{plain_is_of_pair_lem}
use Rattle.ca_flat.proofs.ListedRows.{listed_rows_are_enough_lem}
use Rattle.ca_guide.specs.declared.rows.End.{End}
use Rattle.ca_guide.specs.declared.rows.End.TheVariants.{First, Last}
use Rattle.ca_guide.specs.code.Flood.{IsFlood, EndsFlood}
use Rattle.ca_view.specs.NetLists.{NetLists, input_nets, output_nets, AreNetsOf}
use Rattle.ca_guide.specs.Seen.{Seen, set_trit, pair_of, open_area, Covers}
use Rattle.ca_guide.specs.code.Seen.{AreGoodWaves}
use Rattle.ca_guide.specs.PinRows.{end_of, pin_value, IsOver, IsAllowed, IsSomeAllowed, IsNoneAllowed}
use Rattle.ca_guide.specs.Guide.{IsSupport, ShowsPair, IsUnsetIn}
use Rattle.ca_guide.proofs.OpenChains.{flood_rules_out, end_is_chain}
use Rattle.std.proofs.lemmas.List.{get_or-map}
use Rattle.std.proofs.lemmas.Option.{get_or_from_slice_get, slice_get-get_or, slice_get_within}
use Rattle.std.proofs.lemmas.List.Elements.{All-weaker, All-contains}

none_is_some : (a : Option Bool) → is_some a ≡ true → a ≡ None → ⊥
none_is_some None e f = let clash : false ≡ true = e in cc
none_is_some (Some b) e f = cc

some_one : (a b : Option Bool) → Some a ≡ Some b → a ≡ b
some_one a b e = cc

-- a bit whose value isn't none is set
pub is_set : (bits : List (Option Bool)) (bit : ℕ) (value : Option Bool) (is_none : Bool) → slice_get bits bit ≡ Some value → is_some value ≡ not is_none
    → is_none ≡ false → slice_get bits bit ≡ Some None → ⊥
is_set bits bit value is_none read some is_false unset = none_is_some value (some ∙ ap not is_false) (some_one value None (sym read ∙ unset))

value_of_bit : (bits : List (Option Bool)) (bit : ℕ) (value : Option Bool) → slice_get bits bit ≡ Some value → value_at (map set_trit bits) bit ≡ set_trit value
value_of_bit bits bit value read =
    get_or-map set_trit bits bit None X (slice_get_within bits bit value read) ∙ ap set_trit (get_or_from_slice_get bits bit value None read)

unknown_is_none : (value : Option Bool) → set_trit value ≡ X → value ≡ None
unknown_is_none None e = refl
unknown_is_none (Some true) e = absurd (let clash : One ≡ X = e in cc)
unknown_is_none (Some false) e = absurd (let clash : Zero ≡ X = e in cc)

-- nets of the chip have waves
pub pins_within : (lists : NetLists) (seen : Seen) (nets : List ℕ) → Covers lists seen → All (λ net. net < length lists.onward) nets
    → All (λ net. net < length seen.good) nets
pins_within lists seen nets covers all = subst (λ n. All (λ net. net < n) nets) (sym covers.good) all

-- the instance has few pins
pub pins_few : (chip : Chip) (defect : ChipDefect) (lists : NetLists) → AreNetsOf chip lists → defect.instance < count_of chip
    → length (input_nets lists defect.instance) ≤ MOST_INPUTS
pins_few chip defect lists are known =
    subst (λ n. n ≤ MOST_INPUTS) (sym (are.input_pins defect.instance known).counted) (are.few_pins defect.instance known)

-- rows against the good waves alone
module _ (chip : Chip) (defect : ChipDefect) (lists : NetLists) (waves : List Wave) (pair : List Trit) (are : AreNetsOf chip lists)
    (good : FlatWaves chip None pair) (good_are : AreGoodWaves chip pair waves good) (known : defect.instance < count_of chip) where
  -- the vector is at or above the values of the instance's pins at one end
  IsEndOver : End → List Trit → Type 0
  IsEndOver end vector = (pin : ℕ) → pin < inputs_at chip defect.instance
      → IsBelow (end_of end (wave_of good (net_of chip defect.instance pin))) (value_at vector pin)

  pin_read : (end : End) (pin : ℕ) → pin < inputs_at chip defect.instance
      → pin_value waves end (input_nets lists defect.instance) pin ≡ end_of end (wave_of good (net_of chip defect.instance pin))
  pin_read end pin within =
      let net_is = (are.input_pins defect.instance known).each pin within in
      let net_within : net_of chip defect.instance pin < length chip.nets = are.on_nets defect.instance pin known (omega (arith, within)) in
      let same : 0 + pin ≡ pin = omega arith in
      ap (λ net. end_of end (get_or waves net unknown_wave)) (net_is ∙ ap (net_of chip defect.instance) same)
      ∙ ap (end_of end) (get_or_from_slice_get waves (net_of chip defect.instance pin) (wave_of good (net_of chip defect.instance pin)) unknown_wave
      (good_are (net_of chip defect.instance pin) net_within))

  over_to : (end : End) (number : ℕ) → IsOver waves end (input_nets lists defect.instance) number
      → IsEndOver end (vector_of (inputs_at chip defect.instance) number)
  unfolding IsEndOver
  over_to end number over pin within =
      let count = (are.input_pins defect.instance known).counted in
      subst (λ v. IsBelow v (value_at (vector_of (inputs_at chip defect.instance) number) pin)) (pin_read end pin within)
      (subst (λ n. IsBelow (pin_value waves end (input_nets lists defect.instance) pin) (value_at (vector_of n number) pin)) count
      (over pin (subst (λ n. pin < n) (sym count) within)))

  over_from : (end : End) (number : ℕ) → IsEndOver end (vector_of (inputs_at chip defect.instance) number)
      → IsOver waves end (input_nets lists defect.instance) number
  unfolding IsEndOver
  over_from end number over pin before =
      let count = (are.input_pins defect.instance known).counted in
      let within : pin < inputs_at chip defect.instance = subst (λ n. pin < n) count before in
      subst (λ n. IsBelow (pin_value waves end (input_nets lists defect.instance) pin) (value_at (vector_of n number) pin)) (sym count)
      (subst (λ v. IsBelow v (value_at (vector_of (inputs_at chip defect.instance) number) pin)) (sym (pin_read end pin within)) (over pin within))

  module _ (rows : List Row) (lists_rows : ListsExposingRows chip defect rows) where
    pub none_rules_out : IsNoneAllowed waves (input_nets lists defect.instance) rows → RowsRuleOut chip defect pair good
    unfolding IsEndOver
    none_rules_out none = (listed_rows_are_enough_lem chip defect pair good rows lists_rows).0
        (All-weaker (λ row. IsAllowed waves (input_nets lists defect.instance) row → ⊥) (IsNotOver chip pair good defect.instance)
        (λ row not_allowed. record {
          changing = λ over. not_allowed (over_from First row.first over.first, inr (over_from Last row.last over.last));
          steady = λ over. not_allowed (over_from First row.first over.first, inl over.steady);
        }) rows none)

    pub some_is_allowed : IsSomeAllowed waves (input_nets lists defect.instance) rows → RowsRuleOut chip defect pair good → ⊥
    unfolding IsEndOver
    some_is_allowed some rule =
        let row = some.1 in
        let none = All-contains (IsNotOver chip pair good defect.instance) rows row
        ((listed_rows_are_enough_lem chip defect pair good rows lists_rows).1 rule) (some.0, some.2, some.3) in
        elim some.4.1 [
          | inl same ↦ none.steady (record { steady = same; first = over_to First row.first some.4.0 })
          | inr lasts ↦ none.changing (record { first = over_to First row.first some.4.0; last = over_to Last row.last lasts })
        ]

module _ (chip : Chip) (defect : ChipDefect) (lists : NetLists) (seen : Seen) (are : AreNetsOf chip lists) (shows : ShowsPair chip defect seen)
    (known : defect.instance < count_of chip) where
  module _ (rows : List Row) (lists_rows : ListsExposingRows chip defect rows) where
    pub plain_by_rows : IsNoneAllowed seen.good (input_nets lists defect.instance) rows → IsPlain chip defect (pair_of seen)
    plain_by_rows none = record { good = shows.good; faulty = shows.faulty; plain = inl (none_rules_out chip defect lists seen.good (pair_of seen) are shows.good shows.are.good_is known rows lists_rows none) }

    pub plain_by_chain : (members : List ℕ) → IsFlood lists.onward (open_area lists seen) (output_nets lists defect.instance) members
        → IsPlain chip defect (pair_of seen)
    plain_by_chain members flood = record {
      good = shows.good;
      faulty = shows.faulty;
      plain = inr (inl (flood_rules_out chip defect lists seen shows.good shows.faulty are shows.are known members flood));
    }

    module _ (support : List ℕ) (is_support : IsSupport chip defect support) (is_open : IsOpenPair chip defect (pair_of seen)) where
      pub plain_by_full : All (λ bit. slice_get seen.bits bit ≡ Some None → ⊥) support → IsPlain chip defect (pair_of seen)
      plain_by_full all = record {
        good = shows.good;
        faulty = shows.faulty;
        plain = inr (inr (record {
          sets = λ bit supports unknown.
              let within : bit < length seen.bits = subst (λ n. bit < n) (sym shows.are.bits) (support_within chip defect bit supports) in
              let read = slice_get-get_or seen.bits bit None within in
              let none = unknown_is_none (get_or seen.bits bit None) (sym (value_of_bit seen.bits bit (get_or seen.bits bit None) read) ∙ unknown) in
              All-contains (λ b. slice_get seen.bits b ≡ Some None → ⊥) support bit all ((is_support bit).1 supports) (read ∙ ap Some none);
          not_shown = is_open.not_shown;
        }));
      }

      pub branches : (bit : ℕ) → IsUnsetIn support seen.bits bit → IsSomeAllowed seen.good (input_nets lists defect.instance) rows
          → EndsFlood lists.onward (open_area lists seen) (output_nets lists defect.instance) → IsCheckedBranch chip defect (pair_of seen) bit
      branches bit is some end = record {
        may = record { is_open = is_open; supports = supports; unset = unset };
        not_plain = λ plain. elim (plain_is_of_pair_lem chip defect (pair_of seen) plain.good shows.good plain.faulty shows.faulty plain.plain) [
          | inl rule ↦ some_is_allowed chip defect lists seen.good (pair_of seen) are shows.good shows.are.good_is known rows lists_rows some rule
          | inr rest ↦ elim rest [
            | inl none ↦ end_is_chain chip defect lists seen shows.good shows.faulty are shows.are known end none
            | inr full ↦ full.sets bit supports unset
          ]
        ];
      }
        where
          supports : IsSupportBit chip defect bit
          supports = (is_support bit).0 is.listed

          unset : value_at (pair_of seen) bit ≡ X
          unset = value_of_bit seen.bits bit None is.unset
