use Rattle.std.proofs.Common.{◌≡◌, length, sym, ap, ◌∙◌}
use Rattle.std.proofs.lemmas.List.{length-map}
use Rattle.ca_net.specs.declared.wave.Wave.{Wave}
use Rattle.ca_net.specs.State.{value_at}
use Rattle.ca_flat.specs.Chip.{Chip}
use Rattle.ca_view.specs.Linked.{place_in}
use Rattle.ca_sweep.specs.Seen.{Swept}
use Rattle.ca_sweep.proofs.sweep.Sweep.load.Goals as goal

pub invariant_of-self : goal.invariant_of-self
invariant_of-self g c =
    let kept = c.self.invariant in
    let waves = (g.V.NetWaves.seen c.args.waves.now).good in
    let nets : length c.load.new.lasts ≡ length c.self.inside.chip.now.core.nets =
    ap length c.load.ensures ∙ length-map (g.V.NetWaves.seen c.args.waves.now).good (λ (wave : Wave). wave.last) ∙ c.exact.ensures.whole.good
    ∙ ap (λ (chip : Chip). length chip.nets) (c.requires ∙ ap (λ (s : Swept). s.chip) (sym c.self.view_is)) in
    let same : c.copy.new.into ≡ c.load.new.lasts = c.copy.ensures in
    record {
      outputs_are = kept.outputs_are;
      few = kept.few;
      firsts_are = kept.firsts_are;
      tables_are = kept.tables_are;
      all_static = kept.all_static;
      order_is = kept.order_is;
      pinned_are = kept.pinned_are;
      pinned_room = kept.pinned_room;
      nets = nets;
      clear_are = c.find_clear.ensures.clear;
      passing_are = c.find_clear.ensures.passing.room;
      values_are = record {
        room = record { nets = ap length same ∙ nets; places = kept.values_are.room.places };
        values_are = same;
        none = kept.values_are.none;
      };
      segments_are = c.forget.ensures c.self.inside.chip.now.core (place_in c.self.inside.chip.now.ranks) (value_at c.self.inside.lasts) (value_at c.load.new.lasts) kept.segments_are;
    }
