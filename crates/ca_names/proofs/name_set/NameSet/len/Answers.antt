use Rattle.std.proofs.Common.{subst}
use Rattle.std.specs.Str.{bytes_eq}
use Rattle.std.specs.List.{IsDistinct}
use Rattle.ca_names.proofs.NameLemmas.{IsDistinct-named}
use Rattle.ca_names.proofs.name_set.NameSet.len.Goals as goal

pub returns-clause-distinct : goal.returns-clause-distinct
returns-clause-distinct c =
    subst (IsDistinct bytes_eq) c.self.view_is (IsDistinct-named c.self.inside.names.keys c.len.ensures.unique)
