use Rattle.std.proofs.Common.{◌≡◌, true, false, length, sym, ap, ◌∙◌}
use Rattle.ca_flat.specs.Chip.{Chip}
use Rattle.ca_sweep.specs.Seen.{Loaded}
use Rattle.ca_sweep.proofs.finder.Finder.load.Goals as goal

pub invariant_of-self : goal.invariant_of-self
invariant_of-self g c = record {
  chip_is = c.load.ensures.chip ∙ c.self.invariant.chip_is;
  places_are = c.load.ensures.places ∙ c.self.invariant.places_are;
  faulty_are = c.self.invariant.faulty_are;
  rows_are = c.self.invariant.rows_are;
  room = ap length c.load-2.ensures ∙ c.exact.ensures.whole.good
      ∙ ap (λ (chip : Chip). length chip.nets) (c.requires ∙ ap (λ (s : Loaded). s.chip) (sym c.self.view_is) ∙ c.self.invariant.chip_is);
  hand_is = λ on. let gone : false ≡ true = sym c.clear.ensures ∙ on in absurd cc;
}
