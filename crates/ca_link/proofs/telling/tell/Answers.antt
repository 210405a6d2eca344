use Rattle.std.proofs.Common.{subst}
use Rattle.ca_linked.specs.Wired.{IsWireCause}
use Rattle.ca_link.proofs.ControlLemmas.{misused_pin, misused_scan}
use Rattle.ca_link.proofs.telling.tell.Goals as goal

pub tell_misused-requires-clause-scan : goal.tell_misused-requires-clause-scan
tell_misused-requires-clause-scan c =
    misused_scan c.args.draft.now c.in-Misused.misused (subst (IsWireCause c.args.draft.now) c.in-Misused.is c.requires.cause).1

pub tell_misused-requires-clause-few : goal.tell_misused-requires-clause-few
tell_misused-requires-clause-few c =
    misused_pin c.args.draft.now c.in-Misused.misused (subst (IsWireCause c.args.draft.now) c.in-Misused.is c.requires.cause).1
