use Rattle.std.proofs.Common.{arith}
use Rattle.ca_view.specs.Core.{core_of}
use Rattle.ca_flatten.proofs.SizeLemmas.{sizes_fit}
use Rattle.ca_flatten.proofs.nodes.nodes_of.Goals as goal

pub overflow_add-room-2 : goal.overflow_add-room-2
overflow_add-room-2 c =
    let fit = (sizes_fit (core_of c.args.chip.now) c.args.sizes c.requires.sizes).0 in
    let count = c.count.ensures in let total = c.requires.nets.total in omega arith
