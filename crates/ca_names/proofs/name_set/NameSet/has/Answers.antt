use Rattle.std.proofs.Common.{◌∙◌, ap}
use Rattle.ca_names.specs.Names.{has_name}
use Rattle.ca_names.proofs.NameLemmas.{has_name-named}
use Rattle.ca_names.proofs.name_set.NameSet.has.Goals as goal

pub returns : goal.returns
returns c =
    c.contains.ensures ∙ has_name-named c.args.name.now c.self.inside.names.keys ∙ ap (has_name c.args.name.now) c.self.view_is
