use Rattle.std.proofs.Common.{subst, sym, IsNone}
use Rattle.ca_store.specs.Memory.{place_named}
use Rattle.ca_store.proofs.DistinctNames.{distinct_push}
use Rattle.ca_store.proofs.file_map.FileMap.add.Goals as goal

pub invariant_of-self-2 : goal.invariant_of-self-2
invariant_of-self-2 c = rw c.in_ok-push.ensures.items (distinct_push c.self.inside.files.items c.args.file
    (subst (λ files. IsNone (place_named files c.args.file.name)) (sym c.self.view_is) c.requires) c.self.invariant)
