-- The rows of the cells that instances are of.
use Rattle.std.proofs.Common.{◌≡◌, ℕ, zero, suc, ◌+◌, ◌<◌, List, [], ◌∷◌, length, set, replicate, length-set}
use Rattle.std.proofs.Common.{inl, inr, refl, sym, ◌∙◌, ap, subst, arith, get_or, get_or-set_same}
use Rattle.std.proofs.Common.{get_or-set_other}
use Rattle.std.specs.Option.{is_some}
use Rattle.std.specs.Prelude.{true, Option, Some, None, slice_get, IsSomeAnd}
use Rattle.std.specs.List.{Contains}
use Rattle.std.proofs.lemmas.List.{length-replicate, get_or-replicate}
use Rattle.std.proofs.lemmas.Option.{slice_get_within, slice_get-get_or, get_or_from_slice_get, same_Some}
use Rattle.std.proofs.lemmas.List.Elements.{Contains-append_left, Contains-append_right}
use Rattle.std.proofs.lemmas.Bool.{cases_lt}
use native.Mathlib.Decide.{ℕ_discrete}
use Rattle.ca_cell.specs.declared.raw.RawCell.{RawCell}
use Rattle.ca_cell.specs.declared.row.Row.{Row}
use Rattle.ca_flat.specs.Chip.{Instance, cell_at}
use Rattle.ca_linked.specs.declared.parts.Body.{Body}
use Rattle.ca_linked.specs.declared.parts.Part.{Part}
use Rattle.ca_linked.specs.declared.parts.Body.TheVariants.{Gate, Scan}
use Rattle.ca_linked.specs.Linked.{LinkedChip, cell_of, IsGate, IsLibrary}
use Rattle.ca_linked.specs.Instances.{IsOfCell, IsCellOf, if_gate, gates_from, gates_of}
use Rattle.ca_linked.proofs.OrderLemmas.{place_of}
use Rattle.ca_view.specs.Core.{core_of}
use Rattle.ca_view.proofs.PartFacts.{gate_at, at_some, core_gate}
use Rattle.ca_rows.specs.CellTable.{CellTable}
use Rattle.ca_rows.specs.code.ChipTable.{IsOfCellAt, HasTable, AreFound, IsChipTable}

-- what is of a library cell is a library instance
of_cell_is_library : (chip : LinkedChip) (u place : ℕ) → IsOfCellAt chip u place → IsLibrary chip u
of_cell_is_library chip u place of = by (slice_get chip.parts u) of
  where
    by_body : (body : Body) → IsOfCell place body → IsGate body
    by_body (Gate cell inputs outputs) is = tt
    by_body (Scan nets) is = elim is [ ]

    by : (o : Option Part) → IsSomeAnd o (λ p. IsOfCell place p.body) → IsSomeAnd o (λ p. IsGate p.body)
    by None is = elim is [ ]
    by (Some part) is = by_body part.body is

-- the cell at that place is the instance's
pub cell_is : (chip : LinkedChip) (u place : ℕ) → IsOfCellAt chip u place → cell_of chip.cells place ≡ cell_at (core_of chip) u
cell_is chip u place of =
    let g = gate_at chip u (of_cell_is_library chip u place of) in
    let same : g.cell ≡ place = subst (IsOfCell place) g.body (at_some (λ part. IsOfCell place part.body) chip.parts u g.part g.at of) in
    ap (cell_of chip.cells) (sym same) ∙ sym (ap (λ (i : Instance). i.cell) (core_gate chip u g))

-- what is read as the cell of an instance of the cell at that place is that cell
pub cell_read_at : (chip : LinkedChip) (u place : ℕ) (raw : RawCell) → IsOfCellAt chip u place
    → IsSomeAnd (slice_get chip.parts u) (λ part. IsCellOf chip.cells part.body raw) → raw ≡ cell_of chip.cells place
cell_read_at chip u place raw of found =
    let g = gate_at chip u (of_cell_is_library chip u place of) in
    let same : g.cell ≡ place = subst (IsOfCell place) g.body (at_some (λ part. IsOfCell place part.body) chip.parts u g.part g.at of) in
    let is : IsCellOf chip.cells (Gate g.cell g.inputs g.outputs) raw =
    subst (λ (b : Body). IsCellOf chip.cells b raw) g.body (at_some (λ part. IsCellOf chip.cells part.body raw) chip.parts u g.part g.at found) in
    is ∙ ap (cell_of chip.cells) same

-- an instance is of one cell
one_cell : (chip : LinkedChip) (u place other : ℕ) → IsOfCellAt chip u place → IsOfCellAt chip u other → place ≡ other
one_cell chip u place other one two =
    let g = gate_at chip u (of_cell_is_library chip u place one) in
    let first : g.cell ≡ place = subst (IsOfCell place) g.body (at_some (λ part. IsOfCell place part.body) chip.parts u g.part g.at one) in
    let second : g.cell ≡ other = subst (IsOfCell other) g.body (at_some (λ part. IsOfCell other part.body) chip.parts u g.part g.at two) in
    sym first ∙ second

-- at first no rows were found
pub none_found : (chip : LinkedChip) (count : ℕ) (tables : List (Option CellTable)) → count ≡ length chip.cells → tables ≡ replicate count None → AreFound chip 0 tables
none_found chip count tables e empty = record {
  are = record {
    room = ap (λ (l : List (Option CellTable)). length l) empty ∙ length-replicate count None ∙ e;
    each = λ place table at.
        let lt = slice_get_within tables place (Some table) at in
        let room = ap (λ (l : List (Option CellTable)). length l) empty ∙ length-replicate {A = Option CellTable} count None in
        let none : get_or tables place (Some table) ≡ None =
        ap (λ (l : List (Option CellTable)). get_or l place (Some table)) empty ∙ get_or-replicate count place None (Some table) (omega arith) in
        let clash : Some table ≡ None = sym (get_or_from_slice_get tables place (Some table) (Some table) at) ∙ none in
        absurd cc;
  };
  found = λ k u place lt at of. absurd (omega (arith, lt));
}

-- an entry that isn't empty has rows
pub has_table : (tables : List (Option CellTable)) (place : ℕ) (entry : Option CellTable) → place < length tables → entry ≡ get_or tables place entry
    → is_some entry ≡ true → HasTable tables place
has_table tables place None lt here some = absurd cc
has_table tables place (Some table) lt here some = record { table = table; at = slice_get-get_or tables place (Some table) lt ∙ ap Some (sym here) }

module _ (chip : LinkedChip) (k u place : ℕ) (tables : List (Option CellTable)) (first : AreFound chip k tables) (at : slice_get (gates_of chip) k ≡ Some u)
    (of : IsOfCellAt chip u place) where
  -- the next instance is of a cell whose rows were found
  pub found_before : HasTable tables place → AreFound chip (k + 1) tables
  found_before has = record {
    are = first.are;
    found = λ j w other lt there is. elim (cases_lt j k) [
      | inl before ↦ first.found j w other before there is
      | inr past ↦
          let here : j ≡ k = omega arith in
          let same : w ≡ u = same_Some w u (sym there ∙ ap (slice_get (gates_of chip)) here ∙ at) in
          subst (HasTable tables) (one_cell chip u place other of (subst (λ n. IsOfCellAt chip n other) same is)) has
    ];
  }

  -- or of one whose rows are found now
  pub found_now : (table : CellTable) → table.cell ≡ cell_of chip.cells place → place < length chip.cells → AreFound chip (k + 1) (set tables place (Some table))
  found_now table cell lt = record {
    are = record {
      room = length-set tables place (Some table) ∙ first.are.room;
      each = λ q one there. elim (ℕ_discrete q place) [
        | yes same ↦
            let here : get_or (set tables place (Some table)) q (Some one) ≡ Some table =
            ap (λ n. get_or (set tables place (Some table)) n (Some one)) same ∙ get_or-set_same tables place (Some table) (Some one) within in
            let is : one ≡ table = same_Some one table (sym (get_or_from_slice_get (set tables place (Some table)) q (Some one) (Some one) there) ∙ here) in
            ap (λ (t : CellTable). t.cell) is ∙ cell ∙ ap (cell_of chip.cells) (sym same)
        | no other ↦ first.are.each q one (kept q one other there)
      ];
    };
    found = λ j w other before there is. elim (ℕ_discrete other place) [
      | yes same ↦ record {
        table = table;
        at = ap (slice_get (set tables place (Some table))) same
            ∙ slice_get-get_or (set tables place (Some table)) place None (let l = length-set tables place (Some table) in let w = within in omega arith)
            ∙ ap Some (get_or-set_same tables place (Some table) None within);
      }
      | no different ↦ elim (cases_lt j k) [
        | inl early ↦ let has = first.found j w other early there is in record { table = has.table; at = stays other has.table different has.at }
        | inr past ↦
            let here : j ≡ k = omega arith in
            let same : w ≡ u = same_Some w u (sym there ∙ ap (slice_get (gates_of chip)) here ∙ at) in
            absurd (different (sym (one_cell chip u place other of (subst (λ n. IsOfCellAt chip n other) same is))))
      ]
    ];
  }
    where
      within : place < length tables
      within = let room = first.are.room in omega arith

      kept : (q : ℕ) (one : CellTable) → (q ≡ place → ⊥) → slice_get (set tables place (Some table)) q ≡ Some (Some one) → slice_get tables q ≡ Some (Some one)
      kept q one other there =
          let inside = slice_get_within (set tables place (Some table)) q (Some one) there in
          let l = length-set tables place (Some table) in
          slice_get-get_or tables q None (omega arith)
          ∙ ap Some (sym (get_or-set_other tables place q (Some table) None other) ∙ get_or_from_slice_get (set tables place (Some table)) q (Some one) None there)

      stays : (q : ℕ) (one : CellTable) → (q ≡ place → ⊥) → slice_get tables q ≡ Some (Some one) → slice_get (set tables place (Some table)) q ≡ Some (Some one)
      stays q one other there =
          let inside = slice_get_within tables q (Some one) there in
          let l = length-set tables place (Some table) in
          slice_get-get_or (set tables place (Some table)) q None (omega arith)
          ∙ ap Some (get_or-set_other tables place q (Some table) None other ∙ get_or_from_slice_get tables q (Some one) None there)

-- a library instance is listed
gate_in_if : (from : ℕ) (body : Body) → IsGate body → Contains (if_gate from body) from
gate_in_if from (Gate cell inputs outputs) gate = (0, omega arith, refl)
gate_in_if from (Scan nets) gate = elim gate [ ]

gate_is_listed : (from : ℕ) (parts : List Part) (k : ℕ) → IsSomeAnd (slice_get parts k) (λ p. IsGate p.body) → Contains (gates_from from parts) (from + k)
gate_is_listed from [] k gate = elim gate [ ]
gate_is_listed from (part ∷ more) zero gate =
    subst (Contains (gates_from from (part ∷ more))) (let e : from ≡ from + 0 = omega arith in e)
    (Contains-append_left (if_gate from part.body) (gates_from (from + 1) more) from (gate_in_if from part.body gate))
gate_is_listed from (part ∷ more) (suc k) gate =
    subst (Contains (gates_from from (part ∷ more))) (let e : from + 1 + k ≡ from + suc k = omega arith in e)
    (Contains-append_right (if_gate from part.body) (gates_from (from + 1) more) (from + 1 + k) (gate_is_listed (from + 1) more k gate))

-- once all library instances were looked at, the rows of each one's cell were found
pub all_found : (chip : LinkedChip) (tables : List (Option CellTable)) (none : List Row) → AreFound chip (length (gates_of chip)) tables → none ≡ []
    → IsChipTable (record { chip = chip; tables = tables; none = none })
all_found chip tables none first empty = record {
  are = first.are;
  found = λ u place of.
      let has = gate_is_listed 0 chip.parts u (of_cell_is_library chip u place of) in
      let at = place_of (gates_of chip) (0 + u) has in
      first.found has.0 u place has.1 (at ∙ ap Some (let s : 0 + u ≡ u = omega arith in s)) of;
  empty = empty;
}
