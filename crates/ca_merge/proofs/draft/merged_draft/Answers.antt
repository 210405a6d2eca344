use Rattle.std.proofs.Common.{◌∙◌, map}
use Rattle.ca_cell.specs.Library.{Named, raw_of}
use Rattle.ca_view.specs.Core.{core_of}
use Rattle.ca_merged.specs.Cluster.{cluster_cell}
use Rattle.ca_merge.proofs.MergeLemmas.{draft_is, one_cell_more}
use Rattle.ca_merge.proofs.draft.merged_draft.Goals as goal

pub returns : goal.returns
returns c =
    c.new.ensures
    ∙ draft_is c.args.chip.now c.args.members.now (map (λ (named : Named). raw_of named.entry) c.in_ok-library.library) c.in_ok-parts.parts.items
    c.in_ok-ports.ports.items c.nets.result c.constant_net-zero.result c.constant_net-one.result
    (one_cell_more c.library.result.now c.in_ok-library.library c.args.chip.now.cells c.args.cell (cluster_cell (core_of c.args.chip.now) c.args.members.now)
    (c.in_ok-library.ensures {u = tt}) c.library.ensures c.requires.cell)
    c.nets.ensures c.constant_net-zero.ensures c.constant_net-one.ensures (c.in_ok-parts.ensures {u = tt}) (c.in_ok-ports.ensures {u = tt})
