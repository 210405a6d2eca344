-- The core of a wired chip is linked in the sense of the simulator.
use Rattle.std.proofs.Common.{◌≡◌, ℕ, ◌-◌, ◌^◌, ◌<◌, ◌≤◌, List, [], length, refl, sym, ◌∙◌, ap, subst, arith}
use Rattle.std.specs.Prelude.{slice_get, IsSomeAnd, Option, Some, None}
use Rattle.std.proofs.lemmas.Option.{same_Some}
use Rattle.ca_cell.specs.Raw.{circuit_of}
use Rattle.ca_linked.specs.declared.parts.Body.{Body}
use Rattle.ca_linked.specs.declared.parts.Part.{Part}
use Rattle.ca_linked.specs.declared.parts.Body.TheVariants.{Gate, Scan}
use Rattle.ca_linked.specs.Linked.{LinkedChip, cell_of, gate_inputs, IsGate, IsLibrary, IsWired}
use Rattle.ca_linked.specs.Instances.{IsOfCell}
use Rattle.ca_linked.proofs.CellLemmas.{gate_within}
use Rattle.ca_flat.specs.Chip.{Instance, cell_at, count_of, IsChip}
use Rattle.ca_view.specs.Core.{core_of, core_instance, empty_cell}
use Rattle.ca_view.proofs.CoreIsChip.{core_is}
use Rattle.ca_view.proofs.CorePartLemmas.{core_at, part_at}
use Rattle.ca_view.specs.Linked.{IsLinked, IsPlaced, IsPlace, IsBare, place_in}
use Rattle.ca_view.specs.Places.{body_number, part_number, cell_number, AreRanks}
use Rattle.ca_view.proofs.CoreFacts.{core_count, inputs_are}
use Rattle.ca_view.proofs.PartFacts.{GateAt, gate_at, core_gate, some_at, at_some}
use Rattle.ca_view.proofs.RankLemmas.{library_place, ranked_is_library, rank_of_other}

no_devices : (qn : Option ℕ) → (circuit_of (empty_cell qn)).devices ≡ []
no_devices None = refl
no_devices (Some net) = refl

-- the number of a library instance's cell is the cell's place
pub number_is : (chip : LinkedChip) (u : ℕ) (g : GateAt chip u) → cell_number chip u ≡ g.cell
unfolding cell_number
number_is chip u g = ap part_number g.at ∙ ap body_number g.body

pub number_read : (chip : LinkedChip) (u number : ℕ) → IsLibrary chip u → IsSomeAnd (slice_get chip.parts u) (λ part. IsOfCell number part.body) → number ≡ cell_number chip u
number_read chip u number library found =
    let g = gate_at chip u library in
    let is : IsOfCell number (Gate g.cell g.inputs g.outputs) =
    subst (IsOfCell number) g.body (at_some (λ part. IsOfCell number part.body) chip.parts u g.part g.at found) in
    sym is ∙ sym (number_is chip u g)

module _ (chip : LinkedChip) (is : IsWired chip) (ranks : List ℕ) (are : AreRanks chip ranks) where
  known : (u : ℕ) → u < count_of (core_of chip) → u < length chip.parts
  known u lt = let e = core_count chip in omega arith

  -- an instance with a place is one of the library
  pub placed_is_library : (u : ℕ) → IsPlaced (core_of chip) (place_in ranks) u → IsLibrary chip u
  placed_is_library u placed =
      let lt = known u placed.known in
      ranked_is_library chip is u lt (subst (λ n. 0 < n) (are.each u lt) placed.placed)

  -- the instance at a place, counted from 1 on, is the one that has it
  pub placed_at : (place : ℕ) (p : IsPlace (core_of chip) (place_in ranks) place)
      → (0 < place) × (slice_get chip.order (place - 1) ≡ Some p.instance)
  placed_at place p =
      let has = library_place chip is p.instance (placed_is_library p.instance p.is_placed) in
      let here = are.each p.instance (known p.instance p.is_placed.known) in
      let rank = has.rank in
      let at = p.at in
      let same : has.place ≡ place - 1 = omega arith in
      (omega arith, ap (slice_get chip.order) (sym same) ∙ has.at)

  -- what stands there is the instance
  pub placed_same : (place u : ℕ) (p : IsPlace (core_of chip) (place_in ranks) place) → slice_get chip.order (place - 1) ≡ Some u → p.instance ≡ u
  placed_same place u p at = same_Some p.instance u (sym (placed_at place p).1 ∙ at)

  is_chip : IsChip (core_of chip) (place_in ranks)
  is_chip = let core = core_is chip is in record {
    cells = core.cells;
    on_nets = core.on_nets;
    driven = core.driven;
    drives = core.drives;
    one_driver = core.one_driver;
    ranked = λ u pin lt pin_lt driver.
        let here = are.each u (known u lt) in
        let there = are.each driver.instance (known driver.instance driver.known) in
        let less = core.ranked u pin lt pin_lt driver in
        omega arith;
    observed = core.observed;
  }

  bare : (u : ℕ) → u < count_of (core_of chip) → place_in ranks u ≡ 0 → IsBare (core_of chip) u
  bare u lt none =
      let found = part_at chip u lt in
      by found.part found.at found.part.body refl
    where
      by : (part : Part) → slice_get chip.parts u ≡ Some part → (body : Body) → part.body ≡ body → IsBare (core_of chip) u
      by part at (Gate cell inputs outputs) e =
          let has = library_place chip is u (some_at (λ p. IsGate p.body) chip.parts u part at (subst IsGate (sym e) tt)) in
          absurd (let rank = has.rank in let here = are.each u (known u lt) in omega arith)
      by part at (Scan nets) e = record {
        no_pin = inputs_are chip is u part at ∙ ap (λ (b : Body). length (gate_inputs b)) e;
        no_device =
            ap (λ (i : Instance). (circuit_of i.cell).devices) (core_at chip u part at)
            ∙ ap (λ (b : Body). (circuit_of (core_instance chip b).cell).devices) e
            ∙ no_devices nets.qn;
      }

  -- the cell of a library instance is that at its number
  pub cell_is : (u : ℕ) → IsLibrary chip u → cell_at (core_of chip) u ≡ cell_of chip.cells (cell_number chip u)
  cell_is u library =
      let g = gate_at chip u library in
      ap (λ (i : Instance). i.cell) (core_gate chip u g) ∙ ap (cell_of chip.cells) (sym (number_is chip u g))

  pub number_within : (u : ℕ) → IsPlaced (core_of chip) (place_in ranks) u → cell_number chip u < length chip.cells
  number_within u placed =
      let g = gate_at chip u (placed_is_library u placed) in
      let lt = gate_within chip is u g.part g.cell g.inputs g.outputs g.at g.body in
      let e = number_is chip u g in
      omega arith

  pub core_linked : length chip.parts < 2 ^ 32 → IsLinked (core_of chip) (place_in ranks) (cell_number chip)
  core_linked few = record {
    is_chip = is_chip;
    few = (let e = core_count chip in omega arith);
    within = λ u lt. within u lt;
    apart = λ u w one two same.
        let here = library_place chip is u (placed_is_library u one) in
        let there = library_place chip is w (placed_is_library w two) in
        let rank_u = are.each u (known u one.known) in
        let rank_w = are.each w (known w two.known) in
        let first = here.rank in
        let second = there.rank in
        let place : here.place ≡ there.place = omega arith in
        same_Some u w (sym here.at ∙ ap (slice_get chip.order) place ∙ there.at);
    bare = bare;
    numbered = λ u w one two same.
        cell_is u (placed_is_library u one) ∙ ap (cell_of chip.cells) same ∙ sym (cell_is w (placed_is_library w two));
  }
    where
      within : (u : ℕ) → u < count_of (core_of chip) → place_in ranks u ≤ count_of (core_of chip)
      within u lt =
          let found = part_at chip u lt in
          by found.part found.at found.part.body refl
        where
          by : (part : Part) → slice_get chip.parts u ≡ Some part → (body : Body) → part.body ≡ body → place_in ranks u ≤ count_of (core_of chip)
          by part at (Gate cell inputs outputs) e =
              let has = library_place chip is u (some_at (λ p. IsGate p.body) chip.parts u part at (subst IsGate (sym e) tt)) in
              let rank = has.rank in
              let less = has.within in
              let here = are.each u (known u lt) in
              let count = core_count chip in
              omega arith
          by part at (Scan nets) e =
              let none = rank_of_other chip u part at (λ gate. subst IsGate e gate) in
              let here = are.each u (known u lt) in
              omega arith
