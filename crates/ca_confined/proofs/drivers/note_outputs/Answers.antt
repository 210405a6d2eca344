use Rattle.std.proofs.Common.{◌≡◌, ◌<◌, ◌+◌, ◌∙◌, ap, arith}
use Rattle.ca_flat.specs.Chip.{inputs_at, outputs_at, net_of, output_net}
use Rattle.ca_view.specs.Linked.{place_in, IsPlaced}
use Rattle.ca_view.specs.Places.{cell_number}
use Rattle.ca_confined.proofs.DriverLemmas.{drivers_skip, at_more, at_all}
use Rattle.ca_confined.proofs.drivers.note_outputs.Goals as goal

pub returns-then-place-eq0 : goal.returns-then-place-eq0
returns-then-place-eq0 c =
    drivers_skip c.args.chip.now.core (place_in c.args.chip.now.ranks) c.args.u c.rank-place.result c.args.drivers.now c.rank-place.ensures
    c.if-place-eq0.true c.requires.so_far

pub loop-output-preserved : goal.loop-output-preserved
loop-output-preserved c =
    let core = c.args.chip.now.core in
    let place_of = place_in c.args.chip.now.ranks in
    let rank_is = c.rank-place.ensures in
    let some = c.if-place-eq0.false in
    let placed : IsPlaced core place_of c.args.u = record { known = c.requires.known; placed = omega arith } in
    let net_is = c.pin_net.ensures ∙ ap (λ k. net_of core c.args.u (k + c.loop-output.output)) c.inputs_at-first.ensures in
    let within : c.loop-output.output < outputs_at core c.args.u = omega arith in
    at_more core place_of (cell_number c.args.chip.now.chip) c.linked.ensures.linked c.args.u c.loop-output.output c.pin_net.result c.rank-place.result
    c.loop-output.drivers placed within net_is rank_is
    (let on = c.linked.ensures.linked.is_chip.on_nets c.args.u (inputs_at core c.args.u + c.loop-output.output) c.requires.known (omega arith) in
    let e : c.pin_net.result ≡ output_net core c.args.u c.loop-output.output = net_is in omega arith)
    c.loop-output.invariant

pub returns : goal.returns
returns c =
    at_all c.args.chip.now.core (place_in c.args.chip.now.ranks) c.args.u c.loop-output.output c.loop-output.drivers (omega arith) c.loop-output.invariant
