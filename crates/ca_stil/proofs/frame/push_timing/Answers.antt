use Rattle.std.proofs.lemmas.Result.{on_ok_weaker}
use Rattle.ca_stil.specs.Frame.{timing_text}
use Rattle.ca_stil.proofs.Appending.{after_five}
use Rattle.ca_stil.proofs.frame.push_timing.Goals as goal

pub returns : goal.returns
unfolding timing_text
returns c =
    on_ok_weaker c.append-2.result
    (after_five _ _ _ _ _ _ c.in_ok-append.ensures.ok c.in_ok-push_input_waves.ensures
    c.in_ok-push_output_waves.ensures c.in_ok-push_scan_waves.ensures)
    c.append-2.ensures.ok
