-- Tables by numbers, and instances by their places.
use Rattle.std.proofs.Common.{ℕ, ◌+◌, ◌≡◌, ◌<◌, refl, ap, sym, ◌∙◌, subst, List, length, get_or, Option, None, Some, arith, inl, inr}
use Rattle.std.proofs.Common.{set, replicate, length-set, get_or-set_same, get_or-set_other}
use Rattle.std.proofs.lemmas.List.{get_or_default, get_or-replicate, get_or_past, length-replicate}
use Rattle.std.proofs.lemmas.Bool.{cases_eq, cases_lt}
use Rattle.ca_net.specs.declared.wave.Wave.{Wave}
use Rattle.ca_cell.specs.declared.raw.RawCell.{RawCell}
use Rattle.ca_flat.specs.Chip.{Chip, cell_at, count_of}
use Rattle.ca_view.specs.Linked.{IsLinked, IsPlaced}
use Rattle.ca_static.specs.LastTable.{IsLastTable, IsTableWhereStatic}
use Rattle.ca_sweep.specs.Tables.{AreAtPlaces}
use Rattle.ca_sweep.specs.code.Cells.{FitsNumber}

-- the table of one instance's cell is that of each with its number
pub fits_of_one : (chip : Chip) (place_of number_of : ℕ → ℕ) (number u : ℕ) (table : Option (List (List Wave)))
    → IsLinked chip place_of number_of → IsPlaced chip place_of u → number_of u ≡ number → IsTableWhereStatic (cell_at chip u) table
    → FitsNumber chip place_of number_of number table
fits_of_one chip place_of number_of number u table linked placed at is w w_placed w_at =
    subst (λ raw. IsTableWhereStatic raw table) (linked.numbered u w placed w_placed (at ∙ sym w_at)) is

abbrev no_one : Option ℕ
no_one = None

-- the entry that was read is the table of the instance's cell
pub table_read : (raw : RawCell) (tables : List (Option (List (List Wave)))) (number : ℕ) (read : Option (List (List Wave))) (table : List (List Wave)) → number < length tables
    → IsTableWhereStatic raw (get_or tables number None) → read ≡ get_or tables number read → read ≡ Some table → IsLastTable raw table
table_read raw tables number read table within is at found =
    subst (IsTableWhereStatic raw) (get_or_default tables number None read within ∙ sym at ∙ found) is

-- an instance is at the place that was read
pub order_read : (order : List (Option ℕ)) (place : ℕ) (read : Option ℕ) (u : ℕ) → place < length order → read ≡ get_or order place read → read ≡ Some u
    → get_or order place None ≡ Some u
order_read order place read u within at found = get_or_default order place None read within ∙ sym at ∙ found

module _ (chip : Chip) (place_of : ℕ → ℕ) where
  pub order_none : (order : List (Option ℕ)) → order ≡ replicate (count_of chip + 1) None → AreAtPlaces chip place_of 0 order
  order_none order is = record {
    room = ap length is ∙ length-replicate (count_of chip + 1) None;
    each = λ u less. absurd (omega arith);
    only = λ place u at. let none : get_or order place None ≡ None = ap (λ list. get_or list place None) is ∙ none_at (count_of chip + 1) place in
        let e : Some u ≡ None = sym at ∙ none in cc;
  }
    where
      none_at : (count place : ℕ) → get_or (replicate count no_one) place None ≡ None
      none_at count place = elim (cases_lt place count) [
        | inl low ↦ get_or-replicate count place no_one None low
        | inr high ↦ get_or_past (replicate count no_one) place None (let l = length-replicate count no_one in omega arith)
      ]

  module _ (number_of : ℕ → ℕ) (linked : IsLinked chip place_of number_of) (u : ℕ) (old : List (Option ℕ)) (so_far : AreAtPlaces chip place_of u old) (less : u < count_of chip) where
    pub order_skipped : (place_of u ≡ 0) → AreAtPlaces chip place_of (u + 1) old
    order_skipped none = record {
      room = so_far.room;
      each = λ w w_less some. elim (cases_lt w u) [
        | inl low ↦ so_far.each w low some
        | inr high ↦ let same : w ≡ u = omega arith in let e = ap place_of same in absurd (omega arith)
      ];
      only = so_far.only;
    }

    pub order_put : 0 < place_of u → (new : List (Option ℕ)) → new ≡ set old (place_of u) (Some u) → AreAtPlaces chip place_of (u + 1) new
    order_put some new is = record {
      room = ap length is ∙ length-set old (place_of u) (Some u) ∙ so_far.room;
      each = λ w w_less w_some. elim (cases_eq w u) [
        | inl same ↦ subst (λ x. get_or new (place_of x) None ≡ Some x) (sym same) here
        | inr other ↦ elsewhere (place_of w) (λ e. other (linked.apart w u (record { known = omega arith; placed = w_some }) placed e)) ∙ so_far.each w (omega arith) w_some
      ];
      only = λ place w at. elim (cases_eq place (place_of u)) [
        | inl same ↦
            let e : Some w ≡ Some u = sym at ∙ ap (λ k. get_or new k None) same ∙ here in
            let is_u : u ≡ w = cc in
            (subst (IsPlaced chip place_of) is_u placed, ap place_of (sym is_u) ∙ sym same)
        | inr other ↦ so_far.only place w (sym (elsewhere place other) ∙ at)
      ];
    }
      where
        placed : IsPlaced chip place_of u
        placed = record { known = less; placed = some }

        within : place_of u < length old
        within = let w = linked.within u less in let r = so_far.room in omega arith

        here : get_or new (place_of u) None ≡ Some u
        here = ap (λ list. get_or list (place_of u) None) is ∙ (let lt = within in rw get_or-set_same refl)

        elsewhere : (place : ℕ) → (place ≡ place_of u → ⊥) → get_or new place None ≡ get_or old place None
        elsewhere place other = ap (λ list. get_or list place None) is ∙ (let ne = other in rw get_or-set_other refl)
