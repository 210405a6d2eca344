use Rattle.std.proofs.Common.{ℕ, List, sym, ap, subst, ◌∙◌, ◌++◌, [], ◌∷◌}
use Rattle.std.specs.Prelude.{IsNone}
use Rattle.ca_cell.specs.Library.{entry_of}
use Rattle.ca_cell.proofs.CopyLemmas.{new_name_fresh}
use Rattle.ca_cell.proofs.library.Library.new_name.Goals as goal

pub returns-clause-fresh : goal.returns-clause-fresh
returns-clause-fresh c =
    subst (λ (name : List ℕ). IsNone (entry_of c.args.self.now name))
    (sym ((c.in_ok-push.ensures {u = tt}).items ∙ ap (λ (name : List ℕ). name ++ 32 ∷ []) ((c.in_ok-name.ensures {u = tt}).items_if_clones_equal (λ y same. same))))
    (new_name_fresh c.args.self.now c.longest.result c.longest.ensures)
