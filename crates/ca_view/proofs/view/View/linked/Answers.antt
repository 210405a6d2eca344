use Rattle.std.proofs.Common.{subst}
use Rattle.ca_view.specs.code.View.{IsKept}
use Rattle.ca_view.proofs.ViewLemmas.{shows_core}
use Rattle.ca_view.proofs.view.View.linked.Goals as goal

pub returns-clause-linked : goal.returns-clause-linked
returns-clause-linked c =
    (shows_core c.self.inside.pins c.args.self.now (subst (IsKept c.self.inside.pins) c.self.view_is c.self.invariant)).linked

pub returns-clause-pinned : goal.returns-clause-pinned
returns-clause-pinned c =
    (shows_core c.self.inside.pins c.args.self.now (subst (IsKept c.self.inside.pins) c.self.view_is c.self.invariant)).pinned

pub returns-clause-read : goal.returns-clause-read
returns-clause-read c =
    (shows_core c.self.inside.pins c.args.self.now (subst (IsKept c.self.inside.pins) c.self.view_is c.self.invariant)).read

pub returns-clause-nets : goal.returns-clause-nets
returns-clause-nets c =
    (shows_core c.self.inside.pins c.args.self.now (subst (IsKept c.self.inside.pins) c.self.view_is c.self.invariant)).nets
