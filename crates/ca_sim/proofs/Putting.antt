-- Nets are given waves, and an instance's output nets one after another.
use Rattle.std.proofs.Common.{◌≡◌, ◌≢◌, ℕ, ◌+◌, ◌<◌, ◌⊎◌, List, length, inl, inr, refl, sym, ◌∙◌, ap, subst}
use Rattle.std.proofs.Common.{arith, slice_set, below_more}
use Rattle.std.proofs.lemmas.Bool.{cases_eq}
use Rattle.std.proofs.lemmas.List.{get_or-set_same, get_or-set_other, length-set}
use Rattle.ca_net.specs.declared.wave.Wave.{Wave}
use Rattle.ca_flat.specs.Chip.{Chip, outputs_at, net_of, output_net, count_of, Drives}
use Rattle.ca_response.specs.Gives.{unknown_wave, wave_at}
use Rattle.ca_view.specs.Linked.{IsLinked, IsPlaced, IsPlace, Reads}
use Rattle.ca_sim.specs.Changes.{HasReadersDue}
use Rattle.ca_sim.specs.declared.network.Network.{Network}
use Rattle.ca_places.specs.PlaceSet.{Has, HoldsUpTo}
use Rattle.ca_sim.specs.Marking.{IsMarked}
use Rattle.ca_sim.specs.Network.{IsDue, IsPut, IsWrittenOut}

-- a net is given another wave
pub put_new : (chip : Chip) (place_of : ℕ → ℕ) (net : ℕ) (wave : Wave) (old new : Network) → net < length old.waves → new.waves ≡ slice_set old.waves net wave
    → IsMarked chip place_of net old.due new.due → IsPut chip place_of net wave old new
put_new chip place_of net wave old new within is marked = record {
  count = ap length is ∙ length-set old.waves net wave;
  here = ap (λ waves. wave_at waves net) is ∙ get_or-set_same old.waves net wave unknown_wave within;
  others = others;
  kept = marked.kept;
  readers = λ u pin known free pin_within. elim (cases_eq (net_of chip u pin) net) [
    | inl e ↦ absurd (free (marked.readers u (record { known = known; pin = pin; within = pin_within; on = e })))
    | inr apart ↦ others (net_of chip u pin) apart
  ];
  added = marked.added;
  room = marked.room;
}
  where
    others : (other : ℕ) → other ≢ net → wave_at new.waves other ≡ wave_at old.waves other
    others other apart = ap (λ waves. wave_at waves other) is ∙ get_or-set_other old.waves net other wave unknown_wave apart

-- what reads a net has a place
pub reader_placed : (chip : Chip) (place_of number_of : ℕ → ℕ) → IsLinked chip place_of number_of → (u net : ℕ) → Reads chip u net → IsPlaced chip place_of u
reader_placed chip place_of number_of linked u net reads = record {
  known = reads.known;
  placed = elim (cases_eq (place_of u) 0) [
    | inl e ↦ absurd (let none = (linked.bare u reads.known e).no_pin in let within = reads.within in omega arith)
    | inr some ↦ omega arith
  ];
}

-- the first `end` of an instance's output nets have their waves, and each other net has the wave that it had
pub record IsWrittenTo (chip : Chip) (place_of : ℕ → ℕ) (u end : ℕ) (outputs : List Wave) (old new : Network) : Type 0 where
  pub count : length new.waves ≡ length old.waves
  pub written : (output : ℕ) → output < end → wave_at new.waves (output_net chip u output) ≡ wave_at outputs output
  pub others : (net : ℕ) → ((output : ℕ) → output < end → output_net chip u output ≡ net → ⊥) → wave_at new.waves net ≡ wave_at old.waves net
  pub kept : (place : ℕ) → Has old.due place → Has new.due place
  pub readers : HasReadersDue chip (IsDue place_of new.due) old.waves new.waves
  pub added : (place : ℕ) → Has new.due place → Has old.due place ⊎ ((place_of u < place) × IsPlace chip place_of place)
  pub room : (count : ℕ) → HoldsUpTo old.due count → HoldsUpTo new.due count

module _ (chip : Chip) (place_of : ℕ → ℕ) (number_of : ℕ → ℕ) (linked : IsLinked chip place_of number_of) (u : ℕ) (lt : u < count_of chip) (outputs : List Wave) where
  pub written_none : (net : Network) → IsWrittenTo chip place_of u 0 outputs net net
  written_none net = record {
    count = refl;
    written = λ output within. absurd (omega arith);
    others = λ other none. refl;
    kept = λ place has. has;
    readers = λ w pin known free within. refl;
    added = λ place has. inl has;
    room = λ count holds. holds;
  }

  driver : (output : ℕ) → output < outputs_at chip u → (net : ℕ) → output_net chip u output ≡ net → Drives chip net
  driver output within net on = record { instance = u; output = output; known = lt; within = within; on = on }

  pub written_more : (end : ℕ) (old mid new : Network) → end < outputs_at chip u → IsWrittenTo chip place_of u end outputs old mid
      → IsPut chip place_of (output_net chip u end) (wave_at outputs end) mid new → IsWrittenTo chip place_of u (end + 1) outputs old new
  unfolding driver
  written_more end old mid new within so_far put = record {
    count = put.count ∙ so_far.count;
    written = below_more (λ output. wave_at new.waves (output_net chip u output) ≡ wave_at outputs output) end
        (λ output less. put.others (output_net chip u output)
        (λ e. let same : output ≡ end = (linked.is_chip.one_driver (output_net chip u end) (driver output (omega arith) (output_net chip u end) e) (driver end within (output_net chip u end) refl)).1 in absurd (omega arith))
        ∙ so_far.written output less) put.here;
    others = λ net none. put.others net (λ e. none end (omega arith) (sym e)) ∙ so_far.others net (λ output less on. none output (omega arith) on);
    kept = λ place has. put.kept place (so_far.kept place has);
    readers = λ w pin known free pin_within. put.readers w pin known free pin_within ∙ so_far.readers w pin known (λ due. free (put.kept (place_of w) due)) pin_within;
    added = λ place has. elim (put.added place has) [
      | inl before ↦ so_far.added place before
      | inr reader ↦
          let reads = reader.1 in
          let later : place_of u < place_of reader.0 = linked.is_chip.ranked reader.0 reads.pin reads.known reads.within (driver end within (net_of chip reader.0 reads.pin) (sym reads.on)) in
          inr (subst (λ x. (place_of u < x) × IsPlace chip place_of x) reader.2
          (later, record { instance = reader.0; is_placed = reader_placed chip place_of number_of linked reader.0 _ reads; at = refl }))
    ];
    room = λ count holds. put.room count (so_far.room count holds);
  }

  pub written_next : (end net : ℕ) (wave : Wave) (old mid new : Network) → end < outputs_at chip u → net ≡ output_net chip u end → wave ≡ wave_at outputs end
      → IsWrittenTo chip place_of u end outputs old mid → IsPut chip place_of net wave mid new → IsWrittenTo chip place_of u (end + 1) outputs old new
  written_next end net wave old mid new within net_is wave_is so_far put = written_more end old mid new within so_far
      (subst (λ w. IsPut chip place_of (output_net chip u end) w mid new) wave_is (subst (λ n. IsPut chip place_of n wave mid new) net_is put))

  pub written_all : (old new : Network) → IsWrittenTo chip place_of u (outputs_at chip u) outputs old new → IsWrittenOut chip place_of u outputs old new
  written_all old new all = record {
    written = record { count = all.count; written = all.written; others = λ net none. all.others net (λ output within on. none (record { output = output; within = within; on = on })) };
    kept = all.kept;
    readers = all.readers;
    added = all.added;
    room = all.room;
  }
