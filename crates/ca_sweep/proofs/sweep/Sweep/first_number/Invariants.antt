use Rattle.std.proofs.Common.{ℕ, ◌≡◌, ◌-◌, min}
use Rattle.ca_net.specs.State.{value_at}
use Rattle.ca_flat.specs.Chip.{count_of}
use Rattle.ca_view.specs.Linked.{IsPlaced, place_in}
use Rattle.ca_sweep.specs.code.Segments.{IsSweptFrom}
use Rattle.ca_sweep.proofs.sweep.Sweep.first_number.Given as goal

abbrev pub invariant-parts : goal.invariant-parts
invariant-parts l = record {
  kept : l.self ≡ l.fn.self;
  placed : IsPlaced l.fn.self.chip (place_in l.fn.self.places) l.from;
  leads : (after : ℕ) → IsSweptFrom l.fn.self.chip (place_in l.fn.self.places) (value_at l.fn.self.lasts) l.from l.flips after
      → IsSweptFrom l.fn.self.chip (place_in l.fn.self.places) (value_at l.fn.self.lasts) l.u l.fn.flips (min l.number after);
}

abbrev pub decreases-parts : goal.decreases-parts
decreases-parts l = count_of l.self.chip - place_in l.self.places l.from
