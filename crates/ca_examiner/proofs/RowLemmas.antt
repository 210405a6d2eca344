-- Rows against the values of pins.
use Rattle.std.proofs.Common.{ℕ, zero, suc, ◌+◌, ◌-◌, ◌/◌, ◌%◌, ◌^◌, ◌≡◌, ◌<◌, ◌≤◌, inl, inr, List, length}
use Rattle.std.proofs.Common.{Some, None, sym, ◌∙◌, ap, subst, arith, take, take_all}
use Rattle.std.specs.Prelude.{slice_get}
use Rattle.std.proofs.lemmas.Option.{get_or_from_slice_get, slice_get_within}
use native.Mathlib.Decide.{ℕ_discrete}
use Rattle.std.specs.List.{All}
use Rattle.std.proofs.lemmas.List.Elements.{All-contains, All-weaker, All-more}
use Rattle.ca_net.specs.declared.trit.Trit.{Trit}
use Rattle.ca_net.specs.declared.wave.Wave.{Wave}
use Rattle.ca_net.specs.Trit.{IsBelow}
use Rattle.ca_net.specs.State.{value_at}
use Rattle.ca_cell.specs.declared.row.Row.{Row}
use Rattle.ca_cell.specs.Row.{digit_value, vector_of}
use Rattle.ca_response.specs.Gives.{wave_at}
use Rattle.ca_flat.specs.declared.chip_defect.ChipDefect.{ChipDefect}
use Rattle.ca_flat.specs.Chip.{IsChip, inputs_at, net_of, count_of}
use Rattle.ca_flat.specs.Waves.{FlatWaves, wave_of}
use Rattle.ca_flat.specs.RuleOut.{RowsRuleOut}
use Rattle.ca_flat.specs.Rows.{ListsExposingRows, IsNotOver}
use Rattle.ca_flat.proofs.ListedRows.{listed_rows_are_enough_lem}
use Rattle.ca_sim.specs.Seen.{Seen, AreNetWaves}
use Rattle.ca_examiner.specs.declared.rows.End.{End}
use Rattle.ca_examiner.specs.declared.rows.End.TheVariants.{First, Last}
use Rattle.ca_examiner.specs.code.PinRows.{end_of, pin_value, IsOverPins, IsOver, IsAllowed, IsSomeAllowed}
use Rattle.ca_examiner.specs.code.PinRows.{IsNoneAllowed}

-- the digit at a place
digit_at : (count number place : ℕ) → place < count → value_at (vector_of count number) place ≡ digit_value (number / 2 ^ (count - 1 - place) % 2)
digit_at zero number place within = absurd (omega arith)
digit_at (suc after) number zero within = let e : suc after - 1 - zero ≡ after = omega arith in ap (λ n. digit_value (number / 2 ^ n % 2)) (sym e)
digit_at (suc after) number (suc place) within =
    let e : suc after - 1 - suc place ≡ after - 1 - place = omega arith in
    digit_at after number place (omega arith) ∙ ap (λ n. digit_value (number / 2 ^ n % 2)) (sym e)

module _ (seen : Seen) (end : End) (u number pin : ℕ) (wave : Wave) (value digit : Trit)
    (within : pin < inputs_at seen.chip u) (wave_is : wave ≡ wave_at seen.good (net_of seen.chip u pin))
    (value_is : value ≡ end_of end wave)
    (digit_is : digit ≡ digit_value (number / 2 ^ (inputs_at seen.chip u - 1 - pin) % 2)) where
  value_read : pin_value seen end u pin ≡ value
  value_read = ap (end_of end) (sym wave_is) ∙ sym value_is

  digit_read : value_at (vector_of (inputs_at seen.chip u) number) pin ≡ digit
  digit_read = digit_at (inputs_at seen.chip u) number pin within ∙ sym digit_is

  pub over_more : IsBelow value digit → IsOverPins seen end u number pin → IsOverPins seen end u number (pin + 1)
  over_more below over other before = elim (ℕ_discrete other pin) [
    | yes e ↦ subst (λ n. IsBelow (pin_value seen end u n) (value_at (vector_of (inputs_at seen.chip u) number) n)) (sym e)
        (subst (λ v. IsBelow v (value_at (vector_of (inputs_at seen.chip u) number) pin)) (sym value_read)
        (subst (IsBelow value) (sym digit_read) below))
    | no apart ↦ over other (let far : other ≡ pin → ⊥ = apart in omega arith)
  ]

  pub not_over : (IsBelow value digit → ⊥) → IsOver seen end u number → ⊥
  not_over above over = above (subst (IsBelow value) digit_read
      (subst (λ v. IsBelow v (value_at (vector_of (inputs_at seen.chip u) number) pin)) value_read (over pin within)))

-- rows against the good waves
module _ (seen : Seen) (rank : ℕ → ℕ) (is_chip : IsChip seen.chip rank) (defect : ChipDefect)
    (known : defect.instance < count_of seen.chip) (good_are : AreNetWaves seen.chip None seen.pair seen.good)
    (good : FlatWaves seen.chip None seen.pair) where
  IsEndOver : End → List Trit → Type 0
  IsEndOver end vector = (pin : ℕ) → pin < inputs_at seen.chip defect.instance
      → IsBelow (end_of end (wave_of good (net_of seen.chip defect.instance pin))) (value_at vector pin)

  pin_read : (end : End) (pin : ℕ) → pin < inputs_at seen.chip defect.instance
      → pin_value seen end defect.instance pin ≡ end_of end (wave_of good (net_of seen.chip defect.instance pin))
  pin_read end pin within = ap (end_of end) (good_are.exact good (net_of seen.chip defect.instance pin)
      (is_chip.on_nets defect.instance pin known (omega arith)))

  over_to : (end : End) (number : ℕ) → IsOver seen end defect.instance number
      → IsEndOver end (vector_of (inputs_at seen.chip defect.instance) number)
  unfolding IsEndOver
  over_to end number over pin within =
      subst (λ v. IsBelow v (value_at (vector_of (inputs_at seen.chip defect.instance) number) pin)) (pin_read end pin within)
      (over pin within)

  over_from : (end : End) (number : ℕ) → IsEndOver end (vector_of (inputs_at seen.chip defect.instance) number)
      → IsOver seen end defect.instance number
  unfolding IsEndOver
  over_from end number over pin within =
      subst (λ v. IsBelow v (value_at (vector_of (inputs_at seen.chip defect.instance) number) pin)) (sym (pin_read end pin within))
      (over pin within)

  module _ (rows : List Row) (lists_rows : ListsExposingRows seen.chip defect rows) where
    -- where no row is allowed, the rows rule the pair out
    pub none_rules_out : IsNoneAllowed seen defect.instance rows → RowsRuleOut seen.chip defect seen.pair good
    unfolding IsEndOver
    none_rules_out none = (listed_rows_are_enough_lem seen.chip defect seen.pair good rows lists_rows).0
        (All-weaker (λ row. IsAllowed seen defect.instance row → ⊥) (IsNotOver seen.chip seen.pair good defect.instance)
        (λ row not_allowed. record {
          changing = λ over. not_allowed (over_from First row.first over.first, inr (over_from Last row.last over.last));
          steady = λ over. not_allowed (over_from First row.first over.first, inl over.steady);
        }) rows none)

    -- where one is, they don't
    pub some_is_allowed : IsSomeAllowed seen defect.instance rows → RowsRuleOut seen.chip defect seen.pair good → ⊥
    unfolding IsEndOver
    some_is_allowed some rule =
        let row = some.1 in
        let none = All-contains (IsNotOver seen.chip seen.pair good defect.instance) rows row
        ((listed_rows_are_enough_lem seen.chip defect seen.pair good rows lists_rows).1 rule) (some.0, some.2, some.3) in
        elim some.4.1 [
          | inl same ↦ none.steady (record { steady = same; first = over_to First row.first some.4.0 })
          | inr lasts ↦ none.changing (record { first = over_to First row.first some.4.0; last = over_to Last row.last lasts })
        ]

pub all_more : {X : Type 0} (P : X → Type 0) (xs : List X) (place : ℕ) (x : X) → slice_get xs place ≡ Some x → P x → All P (take place xs) → All P (take (place + 1) xs)
all_more P xs place x here holds all =
    All-more P xs place x (slice_get_within xs place x here) all (subst P (sym (get_or_from_slice_get xs place x x here)) holds)

pub all_taken : {X : Type 0} (P : X → Type 0) (xs : List X) (place : ℕ) → length xs ≤ place → All P (take place xs) → All P xs
all_taken P xs place past all = subst (All P) (take_all place xs past) all
