use Rattle.std.proofs.Common.{take, arith}
use Rattle.ca_every_vector.specs.code.Region.{IsOutIn}
use Rattle.ca_every_vector.proofs.TableLemmas.{all_more, all_taken}
use Rattle.ca_every_vector.proofs.TriedLemmas.{all_then}
use Rattle.ca_every_vector.proofs.regions.nets_of.Goals as goal

pub loop-place-preserved : goal.loop-place-preserved
loop-place-preserved c =
    let core = c.args.chip.now.core in
    let grown = c.in_ok-add_outputs.ensures in
    record {
      known = c.in_ok-add_outputs.ensures.known;
      inputs_in = λ j less. c.in_ok-add_outputs.ensures.longer _ (c.loop-place.invariant.inputs_in j less);
      parts_in = all_more (IsOutIn c.args.chip.now.core c.add_outputs.new.nets.items) c.args.parts.now c.loop-place.place c.entry.result c.entry.ensures c.in_ok-add_outputs.ensures.outputs
          (all_then (IsOutIn core c.loop-place.nets.items) (IsOutIn core c.add_outputs.new.nets.items) (take c.loop-place.place c.args.parts.now)
          (λ v out output within. grown.longer _ (out output within)) c.loop-place.invariant.parts_in);
    }

pub returns : goal.returns
returns c = record {
  known = c.loop-place.invariant.known;
  inputs_in = c.loop-place.invariant.inputs_in;
  parts_in = all_taken (IsOutIn c.args.chip.now.core c.loop-place.nets.items) c.args.parts.now c.loop-place.place (let past = c.loop-place-test.false in omega arith)
      c.loop-place.invariant.parts_in;
}
