-- A lane's bit says whether its pair is suspect.
use Rattle.std.proofs.Common.{◌≡◌, ℕ, ◌^◌, ◌<◌, Bool, true, false, ◌&&◌, ◌==◌, List, get_or, inl, inr, refl}
use Rattle.std.proofs.Common.{sym, ap, ◌∙◌, subst, if◌then◌else◌}
use Rattle.std.specs.List.{Contains, list_any}
use Rattle.std.proofs.lemmas.Bool.{eqb-true, eq-eqb}
use Rattle.std.proofs.lemmas.List.Folds.{Any-from_list_any, list_any-from_Any}
use Rattle.ca_net.specs.declared.trit.Trit.{Trit}
use Rattle.ca_cell.specs.declared.row.Row.{Row}
use Rattle.ca_cell.specs.Row.{vector_of}
use Rattle.ca_cell.specs.Exposes.{Exposes}
use Rattle.ca_flat.specs.declared.chip_defect.ChipDefect.{ChipDefect}
use Rattle.ca_flat.specs.Chip.{Chip, cell_at, inputs_at}
use Rattle.ca_flat.specs.Rows.{ListsExposingRows}
use Rattle.ca_flat.specs.TwoFrame.{IsVectorOver, IsSuspect}
use Rattle.ca_cell.proofs.NumberLemmas.{number_of}
use Rattle.ca_lanes.specs.code.Allowed.{is_row_allowed}
use Rattle.ca_lanes.proofs.AllowedLemmas.{allowed_for, HasVector, allowed_is_over}
use Rattle.ca_lanes.proofs.GivenLemmas.{and_first, and_second}
use Rattle.ca_lanes.proofs.PlainLemmas.{ArePins, from_below, allowed, number_known, vector_is}

module _ (chip : Chip) (defect : ChipDefect) (firsts lasts first_pins last_pins : List Trit) (rows : List Row)
    (are_first : ArePins chip defect.instance firsts first_pins) (are_last : ArePins chip defect.instance lasts last_pins) (lists : ListsExposingRows chip defect rows) where
  abbrev pub test : Row → Bool
  test = is_row_allowed (allowed_for first_pins) (allowed_for last_pins)

  again : (nets pins : List Trit) (are : ArePins chip defect.instance nets pins) (n : ℕ) (has : HasVector pins n)
      → vector_of (inputs_at chip defect.instance) n ≡ has.vector
  again nets pins are n has =
      ap (vector_of (inputs_at chip defect.instance)) (sym has.number)
      ∙ vector_is chip defect.instance nets pins are has.vector (from_below chip defect.instance nets pins are has.vector has.definite has.below)

  by_row : (row : Row) → Contains rows row → test row ≡ true → IsSuspect chip defect firsts lasts
  by_row row listed passes = at (row.first == row.last) refl
    where
      exposes : Exposes (cell_at chip defect.instance) defect.defect (vector_of (inputs_at chip defect.instance) row.first) (vector_of (inputs_at chip defect.instance) row.last)
      exposes = ((lists row).0 listed).exposes

      at : (b : Bool) → (row.first == row.last) ≡ b → IsSuspect chip defect firsts lasts
      at true e =
          let is : get_or (allowed_for first_pins) row.first false ≡ true =
          subst (λ b. (if b then get_or (allowed_for first_pins) row.first false else get_or (allowed_for first_pins) row.first false && get_or (allowed_for last_pins) row.last false) ≡ true) e passes in
          let has = allowed_is_over first_pins row.first is in
          let same : row.last ≡ row.first = sym (eqb-true row.first row.last e) in
          inr (record {
            vector = has.vector;
            over = from_below chip defect.instance firsts first_pins are_first has.vector has.definite has.below;
            exposes = subst (λ a. Exposes (cell_at chip defect.instance) defect.defect a a) (again firsts first_pins are_first row.first has)
                (subst (λ n. Exposes (cell_at chip defect.instance) defect.defect (vector_of (inputs_at chip defect.instance) row.first) (vector_of (inputs_at chip defect.instance) n)) same exposes);
          })
      at false e =
          let is : (get_or (allowed_for first_pins) row.first false && get_or (allowed_for last_pins) row.last false) ≡ true =
          subst (λ b. (if b then get_or (allowed_for first_pins) row.first false else get_or (allowed_for first_pins) row.first false && get_or (allowed_for last_pins) row.last false) ≡ true) e passes in
          let a = allowed_is_over first_pins row.first (and_first _ _ is) in
          let b = allowed_is_over last_pins row.last (and_second (get_or (allowed_for first_pins) row.first false) _ is) in
          inl (record {
            first = a.vector;
            last = b.vector;
            over_first = from_below chip defect.instance firsts first_pins are_first a.vector a.definite a.below;
            over_last = from_below chip defect.instance lasts last_pins are_last b.vector b.definite b.below;
            exposes = subst (λ x. Exposes (cell_at chip defect.instance) defect.defect x b.vector) (again firsts first_pins are_first row.first a)
                (subst (λ x. Exposes (cell_at chip defect.instance) defect.defect (vector_of (inputs_at chip defect.instance) row.first) x) (again lasts last_pins are_last row.last b) exposes);
          })

  pub suspect_from_any : list_any test rows ≡ true → IsSuspect chip defect firsts lasts
  suspect_from_any h =
      let any = Any-from_list_any test rows h in
      by_row any.1 (any.0, any.2, any.3) any.4

  abbrev row_of : List Trit → List Trit → Row
  row_of a b = record { first = number_of a; last = number_of b }

  listed : (a b : List Trit) → IsVectorOver chip defect.instance firsts a → (vector_of (inputs_at chip defect.instance) (number_of b) ≡ b)
      → number_of b < 2 ^ inputs_at chip defect.instance → Exposes (cell_at chip defect.instance) defect.defect a b → Contains rows (row_of a b)
  listed a b over is_b known_b exposes = (lists (row_of a b)).1 (record {
    first_within = number_known chip defect.instance firsts first_pins are_first a over;
    last_within = known_b;
    exposes = subst (λ x. Exposes (cell_at chip defect.instance) defect.defect x (vector_of (inputs_at chip defect.instance) (number_of b))) (sym (vector_is chip defect.instance firsts first_pins are_first a over))
        (subst (λ x. Exposes (cell_at chip defect.instance) defect.defect a x) (sym is_b) exposes);
  })

  any_row : (row : Row) → Contains rows row → test row ≡ true → list_any test rows ≡ true
  any_row row there passes = list_any-from_Any test rows (there.0, row, there.1, there.2, passes)

  either_way : (b x y : Bool) → x ≡ true → y ≡ true → (if b then x else (x && y)) ≡ true
  either_way true x y p q = p
  either_way false x y p q = rw (p, q) refl

  pub any_from_suspect : IsSuspect chip defect firsts lasts → list_any test rows ≡ true
  any_from_suspect (inl change) =
      any_row (row_of change.first change.last)
      (listed change.first change.last change.over_first (vector_is chip defect.instance lasts last_pins are_last change.last change.over_last)
      (number_known chip defect.instance lasts last_pins are_last change.last change.over_last) change.exposes)
      (either_way (number_of change.first == number_of change.last) _ _ (allowed chip defect.instance firsts first_pins are_first change.first change.over_first)
      (allowed chip defect.instance lasts last_pins are_last change.last change.over_last))
  any_from_suspect (inr steady) =
      let same : (number_of steady.vector == number_of steady.vector) ≡ true = eq-eqb (number_of steady.vector) (number_of steady.vector) refl in
      let is = allowed chip defect.instance firsts first_pins are_first steady.vector steady.over in
      any_row (row_of steady.vector steady.vector)
      (listed steady.vector steady.vector steady.over (vector_is chip defect.instance firsts first_pins are_first steady.vector steady.over)
      (number_known chip defect.instance firsts first_pins are_first steady.vector steady.over) steady.exposes)
      (subst (λ b. (if b then get_or (allowed_for first_pins) (number_of steady.vector) false
      else get_or (allowed_for first_pins) (number_of steady.vector) false && get_or (allowed_for last_pins) (number_of steady.vector) false) ≡ true) (sym same) is)
