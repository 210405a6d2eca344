use Rattle.std.proofs.Common.{◌≡◌, length, ◌∙◌, ap}
use Rattle.std.proofs.lemmas.List.{length-map}
use Rattle.ca_net.specs.declared.wave.Wave.{Wave}
use Rattle.ca_flat.specs.Chip.{Chip}
use Rattle.ca_view.specs.Linked.{place_in}
use Rattle.ca_sweep.specs.Seen.{Swept}
use Rattle.ca_every_vector.specs.Vectors.{last_set}
use Rattle.ca_every_vector.proofs.VectorLemmas.{length-last_set}
use Rattle.ca_every_vector.proofs.FindLemmas.{bits_fit, lasts_are, have_lasts_more}
use Rattle.ca_every_vector.proofs.find.find_lasts.Goals as goal

pub load-requires : goal.load-requires
load-requires c = bits_fit c.args.chip.now.core c.loop-number.sim.seen c.input_count-inputs.result (length (last_set c.input_count-inputs.result c.loop-number.number))
    c.exact.ensures c.loop-number.invariant.sim c.input_count-inputs.ensures (length-last_set c.input_count-inputs.result c.loop-number.number)

pub loop-number-preserved : goal.loop-number-preserved
loop-number-preserved c =
    let chip = c.args.chip.now.core in
    let seen = c.load.new.self.seen in
    let chip_is : c.load.new.self.seen.chip ≡ c.args.chip.now.core = c.load.ensures.kept.chip.chip ∙ c.loop-number.invariant.sim in
    let nets : length c.load_lasts.new.values ≡ length c.args.chip.now.core.nets =
    ap length c.load_lasts.ensures ∙ length-map seen.good (λ (wave : Wave). wave.last) ∙ c.exact-in-loop-number.ensures.whole.good ∙ ap (λ (x : Chip). length x.nets) chip_is in
    let pair : c.load.new.self.seen.pair ≡ last_set (length c.args.chip.now.core.inputs) c.loop-number.number =
    c.load.ensures.pair ∙ ap (λ n. last_set n c.loop-number.number) c.input_count-inputs.ensures in
    record {
      sim = chip_is;
      sweep = ap (λ (s : Swept). s.chip) c.add_seen.ensures.kept ∙ c.load-in-loop-number.ensures.chip ∙ c.loop-number.invariant.sweep;
      places = ap (λ (s : Swept). s.places) c.add_seen.ensures.kept ∙ c.load-in-loop-number.ensures.places ∙ c.loop-number.invariant.places;
      nets = nets;
      room = c.add_seen.ensures.more.room ∙ c.loop-number.invariant.room;
      lasts = have_lasts_more c.args.chip.now.core (place_in c.args.chip.now.ranks) c.loop-number.number c.load_lasts.new.values c.loop-number.masks c.add_seen.new.masks c.add_seen.ensures.more
          (lasts_are c.args.chip.now.core c.load.new.self.seen (last_set (length c.args.chip.now.core.inputs) c.loop-number.number) c.load_lasts.new.values c.exact-in-loop-number.ensures chip_is pair c.load_lasts.ensures)
          c.add_seen.ensures.seen c.loop-number.invariant.lasts;
    }
