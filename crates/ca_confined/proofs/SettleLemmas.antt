-- Due instances of a scope are evaluated in the order, until none of them is due.
use Rattle.std.proofs.Common.{◌≡◌, ◌≢◌, ℕ, ◌+◌, ◌<◌, ◌↔◌, List, Option, Some, inl, inr, sym, ◌∙◌, ap, subst}
use Rattle.std.proofs.Common.{arith}
use Rattle.std.specs.List.{All}
use Rattle.std.proofs.lemmas.Bool.{cases_eq, cases_lt}
use Rattle.ca_net.specs.declared.wave.Wave.{Wave}
use Rattle.ca_net.specs.Wave.{IsWave}
use Rattle.ca_response.specs.Gives.{Gives}
use Rattle.ca_flat.specs.declared.chip_defect.ChipDefect.{ChipDefect}
use Rattle.ca_flat.specs.Chip.{Chip, cell_at, count_of}
use Rattle.ca_flat.specs.Flat.{circuit_in}
use Rattle.ca_view.specs.Linked.{IsLinked, IsPlaced}
use Rattle.ca_places.specs.declared.place_set.PlaceSet.{PlaceSet}
use Rattle.ca_places.specs.PlaceSet.{Has, HoldsUpTo}
use Rattle.ca_sim.specs.declared.network.Network.{Network}
use Rattle.ca_sim.specs.Network.{IsDue, IsReady, IsWrittenOut}
use Rattle.ca_sim.specs.Current.{input_waves}
use Rattle.ca_sim.specs.Seen.{Seen}
use Rattle.ca_sim.specs.Simulator.{Simulator, KeepsSeen}
use Rattle.ca_confined.specs.Confined.{IsSimOf}
use Rattle.ca_sim.proofs.StepLemmas.{written_waves, evaluated}
use Rattle.ca_sim.proofs.WaveLemmas.{each_wave}
use Rattle.ca_confined.specs.code.Next.{IsNextIn, NoneInBoth}
use Rattle.ca_confined.specs.code.Settle.{IsSettledTo, IsSettledIn, NoneDue}
use Rattle.ca_confined.proofs.ScopeLemmas.{place_low}

module _ (chip : Chip) (place_of number_of : ℕ → ℕ) (linked : IsLinked chip place_of number_of) (o : Option ChipDefect) (scope : PlaceSet) (old : Network) where
  pub settled_none : IsReady chip place_of old → IsSettledTo chip place_of o scope 0 old old
  settled_none ready = record { ready = ready; before = λ place less. absurd (omega arith); current = λ pair sim. sim }

  -- the first due place of the scope is taken out, and its instance's output nets are given what its cell gives
  module _ (from end place u : ℕ) (outputs : List Wave) (mid new : Network) (removed : PlaceSet) (so_far : IsSettledTo chip place_of o scope from old mid)
      (next : IsNextIn mid.due scope from end (Some place)) (gone : Has removed place → ⊥) (others : (other : ℕ) → other ≢ place → Has removed other ↔ Has mid.due other)
      (room : (count : ℕ) → HoldsUpTo mid.due count → HoldsUpTo removed count)
      (is_placed : IsPlaced chip place_of u) (at : place_of u ≡ place) (given : Gives (cell_at chip u) (circuit_in chip o u) (input_waves chip mid.waves u) outputs)
      (are_waves : All IsWave outputs) (out : IsWrittenOut chip place_of u outputs (record { waves = mid.waves; due = removed }) new) where
    still : (other : ℕ) → Has removed other → Has mid.due other
    still other has = elim (cases_eq other place) [
      | inl e ↦ absurd (gone (subst (Has removed) e has))
      | inr apart ↦ (others other apart).0 has
    ]

    kept : (w : ℕ) → w < count_of chip → (w ≡ u → ⊥) → IsDue place_of mid.due w → IsDue place_of new.due w
    kept w w_known apart due = out.kept (place_of w) ((others (place_of w) (λ e. apart (linked.apart w u
        (record { known = w_known; placed = subst (λ k. 0 < k) (sym e) (subst (λ k. 0 < k) at is_placed.placed) }) is_placed (e ∙ sym at)))).1 due)

    pub settled_more : IsSettledTo chip place_of o scope (place + 1) old new
    settled_more = record {
      ready = record {
        count = out.written.count ∙ so_far.ready.count;
        are_waves = written_waves chip u outputs mid.waves new.waves so_far.ready.are_waves (each_wave outputs are_waves) out.written;
        room = out.room (count_of chip + 1) (room (count_of chip + 1) so_far.ready.room);
        within = λ other has. elim (out.added other has) [ inl before ↦ so_far.ready.within other (still other before) | inr later ↦ later.1 ];
      };
      before = λ other less has inside. elim (out.added other has) [
        | inl before ↦
            let was = still other before in
            elim (cases_lt other from) [
              | inl low ↦ so_far.before other low was inside
              | inr high ↦ elim (cases_eq other place) [
                | inl e ↦ gone (subst (Has removed) e before)
                | inr apart ↦ next.3 other high (omega arith) was inside
              ]
            ]
        | inr later ↦ let l = later.0 in absurd (omega arith)
      ];
      current = λ pair sim. evaluated chip place_of linked.is_chip o pair (IsDue place_of mid.due) (IsDue place_of new.due) mid.waves new.waves (so_far.current pair sim)
          u is_placed.known outputs given (each_wave outputs are_waves) out.written kept out.readers;
    }

  -- where none is left, each of the scope is current
  pub settled_all : (from : ℕ) (new : Network) → IsSettledTo chip place_of o scope from old new → NoneInBoth new.due scope from (count_of chip + 1) → IsSettledIn chip place_of o scope old new
  settled_all from new so_far none = record { ready = so_far.ready; none = none_left; current = so_far.current }
    where
      none_left : NoneDue scope new.due
      none_left place has inside = elim (cases_lt place from) [
        | inl low ↦ so_far.before place low has inside
        | inr high ↦ none place high (place_low chip place_of number_of linked place (so_far.ready.within place has)) has inside
      ]

pub kept_on : (a b c : Simulator) → KeepsSeen a b → KeepsSeen b c → KeepsSeen a c
kept_on a b c ab bc = record { seen = bc.seen ∙ ab.seen; aimed = bc.aimed ∙ ab.aimed }

pub sim_on : (chip : Chip) (places : List ℕ) (a b : Simulator) → IsSimOf chip places a → KeepsSeen a b → IsSimOf chip places b
sim_on chip places a b is kept = record {
  chip_is = ap (λ (seen : Seen). seen.chip) kept.seen ∙ is.chip_is;
  places_are = ap (λ (seen : Seen). seen.places) kept.seen ∙ is.places_are;
}
