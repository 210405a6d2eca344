use Rattle.std.proofs.Common.{◌∙◌, ap}
use Rattle.ca_names.specs.Names.{place_of}
use Rattle.ca_names.proofs.NameLemmas.{place_of-named}
use Rattle.ca_names.proofs.name_set.NameSet.place_of.Goals as goal

pub returns-in-Some : goal.returns-in-Some
returns-in-Some c =
    c.in-Some.ensures.index ∙ place_of-named c.args.name.now c.self.inside.names.keys ∙ ap (place_of c.args.name.now) c.self.view_is

pub returns-in-None : goal.returns-in-None
returns-in-None c =
    c.in-None.ensures.index ∙ place_of-named c.args.name.now c.self.inside.names.keys ∙ ap (place_of c.args.name.now) c.self.view_is
