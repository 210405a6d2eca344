use Rattle.std.proofs.Common.{◌∙◌, ◌++◌, List, ℕ, ap}
use Rattle.ca_names.proofs.NameLemmas.{named}
use Rattle.ca_names.proofs.name_set.NameSet.list.Goals as goal

pub names-init : goal.names-init
names-init c =
    ap (λ (start : List (List ℕ)). start ++ named c.as_slice-rest.result.now) c.new-names.ensures ∙ ap named c.as_slice-rest.ensures.keys ∙ c.self.view_is
