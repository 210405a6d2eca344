-- The room for all cells of a chip.
use Rattle.std.proofs.Common.{◌≡◌, ℕ, List, inl, inr, sym, ◌∙◌, ap, subst, arith, get_or, slice_set}
use Rattle.std.proofs.lemmas.Bool.{cases_eq}
use Rattle.std.proofs.lemmas.List.{get_or-set_same, get_or-set_other, length-set}
use Rattle.ca_cell.specs.declared.raw.RawCell.{RawCell}
use Rattle.ca_flat.specs.Chip.{Chip, cell_at}
use Rattle.ca_response.specs.declared.rooms.Rooms.{Rooms}
use Rattle.ca_view.specs.Linked.{IsLinked, IsPlaced}
use Rattle.ca_response.specs.Rooms.{AreRoomsOf}
use Rattle.ca_sim.specs.code.Cells.{AreCellRooms}

module _ (chip : Chip) (place_of number_of : ℕ → ℕ) (rooms : List Rooms) (are : AreCellRooms chip place_of number_of rooms) (u : ℕ) (lt : IsPlaced chip place_of u) where
  -- the rooms at the number of the instance's cell are its cell's
  pub rooms_of : (number : ℕ) (cell : RawCell) (room : Rooms) → number ≡ number_of u → cell ≡ cell_at chip u → room ≡ get_or rooms number room → AreRoomsOf cell room
  rooms_of number cell room number_is cell_is read =
      subst (λ x. AreRoomsOf x room) (sym cell_is) (subst (AreRoomsOf (cell_at chip u)) (ap (λ k. get_or rooms k room) (sym number_is) ∙ sym read) (are.each u room lt))

  -- they may be replaced by others of that cell
  pub rooms_kept : IsLinked chip place_of number_of → (number : ℕ) (cell : RawCell) (room : Rooms) → number ≡ number_of u → cell ≡ cell_at chip u → AreRoomsOf cell room
      → AreCellRooms chip place_of number_of (slice_set rooms number room)
  rooms_kept linked number cell room number_is cell_is here = record {
    within = λ w known. let l = length-set rooms number room in let i = are.within w known in omega arith;
    each = λ w past known. elim (cases_eq (number_of w) number) [
      | inl e ↦
          let i = are.within w known in
          let same : cell ≡ cell_at chip w = cell_is ∙ linked.numbered u w lt known (sym number_is ∙ sym e) in
          let at : get_or (slice_set rooms number room) (number_of w) past ≡ room = ap (λ k. get_or (slice_set rooms number room) k past) e ∙ get_or-set_same rooms number room past (omega arith) in
          subst (AreRoomsOf (cell_at chip w)) (sym at) (subst (λ x. AreRoomsOf x room) same here)
      | inr other ↦ subst (AreRoomsOf (cell_at chip w)) (sym (get_or-set_other rooms number (number_of w) room past other)) (are.each w past known)
    ];
  }
