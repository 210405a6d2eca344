use Rattle.std.proofs.lemmas.Result.{on_ok_weaker}
use Rattle.ca_stil.specs.Frame.{macro_of_text}
use Rattle.ca_stil.proofs.Appending.{after_four}
use Rattle.ca_stil.proofs.frame.push_macro_of.Goals as goal

pub returns : goal.returns
unfolding macro_of_text
returns c =
    on_ok_weaker c.append-2.result
    (after_four _ _ _ _ _ c.in_ok-append.ensures.ok c.in_ok-push_shifted.ensures c.in_ok-push_shifted-2.ensures)
    c.append-2.ensures.ok
