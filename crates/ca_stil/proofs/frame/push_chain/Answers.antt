use Rattle.std.proofs.lemmas.Result.{on_ok_weaker}
use Rattle.ca_stil.specs.Frame.{chain_text}
use Rattle.ca_stil.proofs.Appending.{after_five}
use Rattle.ca_stil.proofs.frame.push_chain.Goals as goal

pub returns : goal.returns
unfolding chain_text
returns c =
    on_ok_weaker c.append.result
    (after_five _ _ _ _ _ _ c.in_ok-push_chain_begins.ensures c.in_ok-push_length.ensures c.in_ok-push_port.ensures
    c.in_ok-push_port-2.ensures)
    c.append.ensures.ok
