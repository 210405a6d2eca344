use Rattle.std.proofs.Common.{◌∙◌}
use Rattle.ca_cell.proofs.CopyLemmas.{copied_room, copied_more}
use Rattle.ca_cell.proofs.library.Library.push_copy.Goals as goal

pub insert-requires-clause-room : goal.insert-requires-clause-room
insert-requires-clause-room c =
    copied_room c.args.other.now c.args.self.now c.args.place c.requires.within c.requires.few c.requires.before

pub returns : goal.returns
returns c =
    copied_more c.insert.result c.args.other.now c.args.self.now c.insert.new.self c.args.place c.name.result.now c.in_ok-key.key.items c.entry.result.now
    c.in_ok-entry.entry c.requires.within c.name.ensures.at c.entry.ensures.at (c.in_ok-key.ensures.ok ∙ c.name.ensures.upper)
    (c.in_ok-entry.ensures {u = tt}) c.requires.before c.insert.ensures.ok
