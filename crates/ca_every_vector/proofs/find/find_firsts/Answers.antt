use Rattle.std.proofs.Common.{◌≡◌, length, ◌∙◌, ap}
use Rattle.std.proofs.lemmas.List.{length-map}
use Rattle.ca_net.specs.declared.wave.Wave.{Wave}
use Rattle.ca_flat.specs.Chip.{Chip}
use Rattle.ca_view.specs.Linked.{place_in}
use Rattle.ca_every_vector.specs.Vectors.{first_set}
use Rattle.ca_every_vector.proofs.VectorLemmas.{length-first_set}
use Rattle.ca_every_vector.proofs.FindLemmas.{bits_fit, firsts_are, have_firsts_more}
use Rattle.ca_every_vector.proofs.find.find_firsts.Goals as goal

pub load-requires : goal.load-requires
load-requires c = bits_fit c.args.chip.now.core c.loop-number.sim.seen c.input_count-inputs.result (length (first_set c.input_count-inputs.result c.loop-number.number))
    c.exact.ensures c.loop-number.invariant.sim c.input_count-inputs.ensures (length-first_set c.input_count-inputs.result c.loop-number.number)

pub loop-number-preserved : goal.loop-number-preserved
loop-number-preserved c =
    let chip = c.args.chip.now.core in
    let seen = c.load.new.self.seen in
    let chip_is : c.load.new.self.seen.chip ≡ c.args.chip.now.core = c.load.ensures.kept.chip.chip ∙ c.loop-number.invariant.sim in
    let nets : length c.load_firsts.new.values ≡ length c.args.chip.now.core.nets =
    ap length c.load_firsts.ensures ∙ length-map seen.good (λ (wave : Wave). wave.first) ∙ c.exact-in-loop-number.ensures.whole.good ∙ ap (λ (x : Chip). length x.nets) chip_is in
    let pair : c.load.new.self.seen.pair ≡ first_set (length c.args.chip.now.core.inputs) c.loop-number.number =
    c.load.ensures.pair ∙ ap (λ n. first_set n c.loop-number.number) c.input_count-inputs.ensures in
    record {
      sim = chip_is;
      nets = nets;
      room = c.add_over.ensures.more.room ∙ c.loop-number.invariant.room;
      firsts = have_firsts_more c.args.chip.now.core (place_in c.args.chip.now.ranks) c.loop-number.number c.load_firsts.new.values c.loop-number.masks c.add_over.new.masks c.add_over.ensures.more
          (firsts_are c.args.chip.now.core c.load.new.self.seen (first_set (length c.args.chip.now.core.inputs) c.loop-number.number) c.load_firsts.new.values c.exact-in-loop-number.ensures chip_is pair c.load_firsts.ensures)
          c.add_over.ensures.over c.loop-number.invariant.firsts;
    }
