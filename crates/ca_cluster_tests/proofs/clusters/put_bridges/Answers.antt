use Rattle.std.proofs.lemmas.Option.{slice_get_within, get_or_from_slice_get}
use Rattle.ca_cluster_tests.proofs.clusters.put_bridges.Goals as goal

pub put_bridge-requires : goal.put_bridge-requires
put_bridge-requires c =
    (((c.in_ok-list.ensures {u = tt}).listed c.get.result).0 (
      c.loop-k.k,
      slice_get_within c.in_ok-list.list c.loop-k.k c.get.result c.get.ensures,
      get_or_from_slice_get c.in_ok-list.list c.loop-k.k c.get.result c.get.result c.get.ensures,
    )).0
