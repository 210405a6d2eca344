use Rattle.std.proofs.Common.{◌≡◌, ◌++◌, take, codes}
use Rattle.std.specs.List.{flat_map}
use Rattle.ca_stil.specs.Groups.{signal_text}
use Rattle.ca_stil.proofs.groups.push_signals.Given as goal

abbrev pub invariant-loop-signal : goal.invariant-loop-signal
invariant-loop-signal l =
    l.text ≡ l.fn.text ++ (codes "Signals {\n" ++ flat_map signal_text (take l.signal-index l.signals))
