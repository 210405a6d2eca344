use Rattle.std.proofs.Common.{◌<◌, length, subst, sym}
use Rattle.ca_view.specs.NetLists.{AreWithin}
use Rattle.ca_view.proofs.LinkLemmas.{longer_list, within_more, same_list}
use Rattle.ca_view.proofs.links.LinkTable.add.Goals as goal

pub returns : goal.returns
returns c = record {
  ok = longer_list c.self.inside.lists.items c.args.from c.args.to c.index_mut.result.now c.push.new.self c.args.self.now c.requires.from c.index_mut.ensures.value
      c.in_ok-push.ensures.items c.self.view_is;
}

pub invariant_of-self : goal.invariant_of-self
invariant_of-self c =
    subst AreWithin (sym (same_list c.self.inside.lists.items c.args.from c.index_mut.result.now c.push.new.self
    (subst (λ table. c.args.from < length table) (sym c.self.view_is) c.requires.from) c.index_mut.ensures.value c.in_err-push.ensures.items)) c.self.invariant

pub invariant_of-self-2 : goal.invariant_of-self-2
invariant_of-self-2 c =
    within_more c.args.self.now _ c.args.from c.args.to (subst AreWithin c.self.view_is c.self.invariant) c.requires.from c.requires.to
    (longer_list c.self.inside.lists.items c.args.from c.args.to c.index_mut.result.now c.push.new.self c.args.self.now c.requires.from c.index_mut.ensures.value
    c.in_ok-push.ensures.items c.self.view_is)
