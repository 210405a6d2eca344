-- The rooms of the cells of a chip are taken number by number.
use Rattle.std.proofs.Common.{◌≡◌, ℕ, ◌+◌, ◌<◌, List, [], ◌∷◌, ◌++◌, length, inl, inr, refl, sym, ◌∙◌, ap}
use Rattle.std.proofs.Common.{subst, arith, length-append, get_or, Option}
use Rattle.std.specs.List.{All}
use Rattle.std.proofs.lemmas.Bool.{cases_lt}
use Rattle.std.proofs.lemmas.List.{get_or_push, get_or_append_left}
use Rattle.ca_response.specs.declared.rooms.Rooms.{Rooms}
use Rattle.ca_flat.specs.Chip.{Chip}
use Rattle.ca_view.specs.Linked.{IsPlaced}
use Rattle.ca_sim.specs.declared.cache.Entry.{Entry}
use Rattle.ca_sim.specs.code.Cache.{HoldsTrue, HoldTrue, IsEmpty}
use Rattle.ca_sim.specs.code.Cells.{AreCellRooms, AreRoomsTo, FitCellsOf}

module _ (chip : Chip) (place_of number_of : ℕ → ℕ) where
  pub rooms_none : AreRoomsTo chip place_of number_of 0 []
  rooms_none = record { count = refl; each = λ number past less. absurd (omega arith) }

  pub rooms_more : (end : ℕ) (old new : List Rooms) (rooms : Rooms) → AreRoomsTo chip place_of number_of end old
      → FitCellsOf chip place_of number_of end rooms → new ≡ old ++ rooms ∷ [] → AreRoomsTo chip place_of number_of (end + 1) new
  rooms_more end old new rooms so_far fit is = record {
    count = ap length is ∙ length-append old (rooms ∷ []) ∙ (let count = so_far.count in omega arith);
    each = λ number past less. let count = so_far.count in elim (cases_lt number end) [
      | inl low ↦ subst (FitCellsOf chip place_of number_of number)
          (sym (ap (λ list. get_or list number past) is ∙ get_or_append_left old (rooms ∷ []) past number (omega arith))) (so_far.each number past low)
      | inr high ↦
          let last : number ≡ end = omega arith in
          let here : get_or new number past ≡ rooms =
          ap (λ list. get_or list number past) is ∙ get_or_push old rooms past number (omega arith) in
          subst (FitCellsOf chip place_of number_of number) (sym here) (subst (λ k. FitCellsOf chip place_of number_of k rooms) (sym last) fit)
    ];
  }

  pub rooms_all : (end : ℕ) (rooms : List Rooms) → AreRoomsTo chip place_of number_of end rooms → ((u : ℕ) → IsPlaced chip place_of u → number_of u < end)
      → AreCellRooms chip place_of number_of rooms
  rooms_all end rooms so_far bound = record {
    within = λ u is_placed. let count = so_far.count in let less = bound u is_placed in omega arith;
    each = λ u past is_placed. so_far.each (number_of u) past (bound u is_placed) u is_placed refl;
  }

  -- empty slots are true
  pub empty_true : (slots : List (Option Entry)) → All IsEmpty slots → HoldTrue chip place_of number_of slots
  empty_true slots empty k past less = subst (HoldsTrue chip place_of number_of) (sym (empty k past less)) tt
