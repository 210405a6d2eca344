-- The places of the instances that drive the nets, noted instance by instance.
use Rattle.std.proofs.Common.{◌≡◌, ℕ, ◌+◌, ◌<◌, ◌≤◌, List, length, inl, inr, sym, ◌∙◌, ap, subst, arith, replicate}
use Rattle.std.specs.Prelude.{slice_index, slice_set}
use Rattle.std.proofs.lemmas.Bool.{cases_eq, cases_lt}
use Rattle.std.proofs.lemmas.List.{length-replicate, get_or-replicate, get_or-set_same, get_or-set_other, length-set, get_or_past}
use Rattle.ca_flat.specs.Chip.{Chip, outputs_at, output_net}
use Rattle.ca_view.specs.Linked.{IsLinked, IsPlaced, IsPlace}
use Rattle.ca_confined.specs.code.Drivers.{AreDriversTo, AreDriversAt}

module _ (chip : Chip) (place_of : ℕ → ℕ) where
  -- each is 0 at first
  pub drivers_begin : (drivers : List ℕ) → drivers ≡ replicate (length chip.nets) 0 → AreDriversTo chip place_of 0 drivers
  drivers_begin drivers is = record {
    some = record {
      count = ap length is ∙ length-replicate (length chip.nets) 0;
      places = λ net some. absurd (let z : slice_index drivers net ≡ 0 = ap (λ ds. slice_index ds net) is ∙ all_zero net in omega arith);
    };
    each = λ u output less. absurd (omega arith);
  }
    where
      all_zero : (net : ℕ) → slice_index (replicate (length chip.nets) 0) net ≡ 0
      all_zero net = elim (cases_lt net (length chip.nets)) [
        | inl within ↦ get_or-replicate (length chip.nets) net 0 0 within
        | inr past ↦ get_or_past (replicate (length chip.nets) 0) net 0 (subst (λ n. n ≤ net) (sym (length-replicate (length chip.nets) 0)) past)
      ]

  -- an instance without a place is passed over
  pub drivers_skip : (u place : ℕ) (drivers : List ℕ) → place ≡ place_of u → place ≡ 0 → AreDriversTo chip place_of u drivers → AreDriversTo chip place_of (u + 1) drivers
  drivers_skip u place drivers is none before = record {
    some = before.some;
    each = λ w output less placed within. elim (cases_lt w u) [
      | inl low ↦ before.each w output low placed within
      | inr last ↦ absurd (let p = placed.placed in let e : place_of w ≡ place_of u = ap place_of (let k : w ≡ u = omega arith in k) in omega arith)
    ];
  }

  pub at_none : (u : ℕ) (drivers : List ℕ) → AreDriversTo chip place_of u drivers → AreDriversAt chip place_of u 0 drivers
  at_none u drivers before = record { before = before; here = λ output less. absurd (omega arith) }

  pub at_all : (u done : ℕ) (drivers : List ℕ) → done ≡ outputs_at chip u → AreDriversAt chip place_of u done drivers → AreDriversTo chip place_of (u + 1) drivers
  at_all u done drivers all so_far = record {
    some = so_far.before.some;
    each = λ w output less placed within. elim (cases_lt w u) [
      | inl low ↦ so_far.before.each w output low placed within
      | inr last ↦
          let e : u ≡ w = omega arith in
          subst (λ x. slice_index drivers (output_net chip x output) ≡ place_of x) e
          (so_far.here output (let o = subst (λ x. output < outputs_at chip x) (sym e) within in omega arith))
    ];
  }

  -- the place is noted at a net of the instance
  pub at_more : (number_of : ℕ → ℕ) → IsLinked chip place_of number_of → (u done net place : ℕ) (drivers : List ℕ) → IsPlaced chip place_of u → done < outputs_at chip u
      → net ≡ output_net chip u done → place ≡ place_of u → net < length chip.nets → AreDriversAt chip place_of u done drivers
      → AreDriversAt chip place_of u (done + 1) (slice_set drivers net place)
  at_more number_of linked u done net place drivers placed within net_is place_is known so_far = record {
    before = record {
      some = record { count = length-set drivers net place ∙ so_far.before.some.count; places = some };
      each = λ w output less w_placed w_within. elim (cases_eq (output_net chip w output) net) [
        | inl same ↦
            let one = linked.is_chip.one_driver net (record { instance = w; output = output; known = w_placed.known; within = w_within; on = same })
            (record { instance = u; output = done; known = placed.known; within = within; on = sym net_is }) in
            absurd (let e : w ≡ u = one.0 in omega arith)
        | inr other ↦ get_or-set_other drivers net (output_net chip w output) place 0 other ∙ so_far.before.each w output less w_placed w_within
      ];
    };
    here = λ output less. elim (cases_eq (output_net chip u output) net) [
      | inl same ↦ ap (slice_index (slice_set drivers net place)) same ∙ set_here ∙ place_is
      | inr other ↦ get_or-set_other drivers net (output_net chip u output) place 0 other
          ∙ so_far.here output (elim (cases_eq output done) [
            | inl e ↦ absurd (other (ap (output_net chip u) e ∙ sym net_is))
            | inr apart ↦ omega arith
          ])
    ];
  }
    where
      set_here : slice_index (slice_set drivers net place) net ≡ place
      set_here = get_or-set_same drivers net place 0 (let c = so_far.before.some.count in omega arith)

      some : (n : ℕ) → 0 < slice_index (slice_set drivers net place) n → IsPlace chip place_of (slice_index (slice_set drivers net place) n)
      some n positive = elim (cases_eq n net) [
        | inl same ↦ record { instance = u; is_placed = placed; at = sym (ap (slice_index (slice_set drivers net place)) same ∙ set_here ∙ place_is) }
        | inr other ↦
            let e = get_or-set_other drivers net n place 0 other in
            subst (IsPlace chip place_of) (sym e) (so_far.before.some.places n (omega arith))
      ]
