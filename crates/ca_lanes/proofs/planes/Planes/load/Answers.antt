use Rattle.std.proofs.Common.{◌≡◌, ◌<◌, ◌∙◌, true, length, map, ap, sym, subst}
use Rattle.std.proofs.lemmas.Option.{slice_get_within}
use Rattle.std.proofs.lemmas.Bool.{lt-ltb}
use Rattle.ca_flat.specs.Codes.{bit_trit}
use Rattle.ca_lanes.specs.Plane.{lane_of}
use Rattle.ca_lanes.specs.Netlist.{IsOrder, AreInstancesOf, HasBits}
use Rattle.ca_lanes.specs.Planes.{firsts_in, lasts_in}
use Rattle.ca_lanes.specs.code.Sweep.{IsLoadedTo}
use Rattle.ca_lanes.proofs.FrameLemmas.{pair_has, has_inputs}
use Rattle.ca_lanes.proofs.LoadLemmas.{is_loaded}
use Rattle.ca_lanes.proofs.planes.Planes.load.Goals as goal

pub returns-clause-loaded : goal.returns-clause-loaded
returns-clause-loaded c chip rank lane pair is nets of there =
    let pairs = c.args.pairs.now in
    let inputs = c.args.netlist.now.inputs.items in
    let on : lane_of c.pair_lanes-loaded.result lane ≡ true =
    c.pair_lanes-loaded.ensures lane ∙ lt-ltb lane (length pairs) (slice_get_within pairs lane pair there) in
    let bits = pair_has (HasBits (length inputs) (length inputs)) pairs lane pair c.requires.bits there in
    let start = has_inputs chip inputs c.args.netlist.now.constants.items pairs pair lane (lane_of c.pair_lanes-loaded.result lane)
    (firsts_in c.set_frames.new.self lane) (lasts_in c.set_frames.new.self lane) of.inputs_are of.constants_are on there bits.enough
    (λ net known. c.set_frames.ensures.first lane net (subst (λ n. net < n) nets known))
    (λ net known. c.set_frames.ensures.last lane net (subst (λ n. net < n) nets known)) in
    is_loaded chip rank (map bit_trit pair) c.args.netlist.now.order.items (firsts_in c.sweep.new.planes lane) (lasts_in c.sweep.new.planes lane) is of.order_is
    (subst (λ order. IsLoadedTo chip (map bit_trit pair) order (length order) (firsts_in c.sweep.new.planes lane) (lasts_in c.sweep.new.planes lane)) c.deref-2.ensures.value
    (c.sweep.ensures.loaded chip rank (map bit_trit pair) lane is (subst (IsOrder chip) (sym c.deref-2.ensures.value) of.order_is)
    (subst (λ instances. AreInstancesOf chip instances c.args.goods.now) (sym c.deref.ensures.value) of.instances_are)
    (ap (λ plane. lane_of plane lane) c.set_frames.ensures.loaded ∙ on) start))
