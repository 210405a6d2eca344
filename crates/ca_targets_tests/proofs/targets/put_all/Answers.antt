use Rattle.std.proofs.lemmas.Option.{slice_get_within, get_or_from_slice_get}
use Rattle.ca_targets_tests.proofs.targets.put_all.Goals as goal

pub put_bridge-requires : goal.put_bridge-requires
put_bridge-requires c =
    c.requires.known c.get.result (
      c.loop-k.k,
      slice_get_within c.args.list.now c.loop-k.k c.get.result c.get.ensures,
      get_or_from_slice_get c.args.list.now c.loop-k.k c.get.result c.get.result c.get.ensures,
    )
