use Rattle.std.proofs.lemmas.Result.{on_ok_weaker}
use Rattle.ca_stil.specs.Groups.{groups_text}
use Rattle.ca_stil.proofs.Appending.{after_five}
use Rattle.ca_stil.proofs.groups.push_groups.Goals as goal

pub returns : goal.returns
unfolding groups_text
returns c =
    on_ok_weaker c.append-2.result
    (after_five _ _ _ _ _ _ c.in_ok-append.ensures.ok c.in_ok-push_group_if_any.ensures
    c.in_ok-push_group_if_any-2.ensures c.in_ok-push_scan_groups_if_any.ensures)
    c.append-2.ensures.ok
