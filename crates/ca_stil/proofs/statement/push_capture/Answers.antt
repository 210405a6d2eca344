use Rattle.std.proofs.lemmas.Result.{on_ok_weaker}
use Rattle.ca_stil.specs.Pair.{capture_text}
use Rattle.ca_stil.proofs.Appending.{after_three}
use Rattle.ca_stil.proofs.statement.push_capture.Goals as goal

pub returns : goal.returns
unfolding capture_text
returns c =
    on_ok_weaker c.append-2.result
    (after_three _ _ _ _ c.in_ok-append.ensures.ok c.in_ok-push_unobserved.ensures) c.append-2.ensures.ok
