use Rattle.std.proofs.Common.{◌≡◌, arith, below_more, refl, ◌∙◌, true, false}
use Rattle.std.specs.Prelude.{◌≢◌, slice_index_or}
use Rattle.ca_net.specs.declared.trit.Trit.TheVariants.{X}
use Rattle.ca_net.specs.State.{value_at}
use Rattle.ca_flat.specs.Chip.{net_of}
use Rattle.ca_sweep.proofs.pinned.are_all_definite.Goals as goal

pub loop-net-preserved : goal.loop-net-preserved
loop-net-preserved c =
    below_more (λ net. slice_index_or c.args.pinned.now net false ≡ true → value_at c.args.lasts.now net ≢ X) c.loop-net.net c.loop-net.invariant
    (λ on is. c.if-not-is_fine.ensures refl on (c.get.ensures ∙ is))

pub returns : goal.returns
returns c = λ all w placed pin within.
    let core = c.args.chip.now.core in
    let net = net_of core w pin in
    let known = c.linked.ensures.linked.is_chip.on_nets w pin placed.known within in
    let end = c.loop-net-test.false in
    let room = c.requires.room in
    c.loop-net.invariant (net_of c.args.chip.now.core w pin) (omega arith) (c.requires.pinned w pin placed within)
