use Rattle.std.proofs.lemmas.Result.{on_ok_weaker}
use Rattle.ca_stil.specs.Pair.{load_of_text}
use Rattle.ca_stil.proofs.Appending.{after_four}
use Rattle.ca_stil.proofs.statement.push_load_of.Goals as goal

pub returns : goal.returns
unfolding load_of_text
returns g c =
    on_ok_weaker c.append-2.result
    (after_four _ _ _ _ _ c.in_ok-append.ensures.ok c.in_ok-push_states.ensures c.in_ok-push_steady.ensures)
    c.append-2.ensures.ok
