use Rattle.std.proofs.Common.{◌≡◌, ◌∙◌, ap, rules}
use Rattle.ca_names.specs.Names.{with_name, place_with}
use Rattle.ca_names.proofs.NameLemmas.{named, insert_key-named, place_with-named}
use Rattle.ca_names.proofs.name_set.NameSet.add.Goals as goal

pub returns-clause-names : goal.returns-clause-names
returns-clause-names c =
    let key : c.in_ok-key.key.items ≡ c.args.name.now = search rules in
    ap named c.in_ok-place.ensures.keys ∙ insert_key-named c.in_ok-key.key c.self.inside.names.keys
    ∙ ap (λ name. with_name name (named c.self.inside.names.keys)) key ∙ ap (with_name c.args.name.now) c.self.view_is

pub returns-clause-place : goal.returns-clause-place
returns-clause-place c =
    let key : c.in_ok-key.key.items ≡ c.args.name.now = search rules in
    c.in_ok-place.ensures.index ∙ place_with-named c.in_ok-key.key.items c.self.inside.names.keys
    ∙ ap (λ name. place_with name (named c.self.inside.names.keys)) key ∙ ap (place_with c.args.name.now) c.self.view_is
