use Rattle.std.proofs.Common.{List, ap}
use Rattle.ca_flat.specs.declared.chip_defect.ChipDefect.{ChipDefect}
use Rattle.ca_targets.specs.declared.target.Cluster.{Cluster}
use Rattle.ca_targets.proofs.CodeLemmas.{joined}
use Rattle.ca_targets.proofs.clusters.add_short.Goals as goal

pub returns : goal.returns
returns c =
    let old : Cluster = c.args.cluster.now in
    joined c.args.chip.now c.args.bridge c.args.cluster.now _ c.short_for-short.result c.len-place.result c.wired.ensures c.requires.inner c.requires.for_it
    c.short_for-short.ensures c.len-place.ensures (ap (λ (l : List ChipDefect). record old { shorts = l }) c.in_ok-push.ensures.ok)
