use Rattle.std.proofs.Common.{sym, ◌∙◌}
use Rattle.ca_view.proofs.PinLemmas.{inverted_none, inverted_some}
use Rattle.ca_view.proofs.pins.inverted_net.Goals as goal

pub returns-then-is_scan_path : goal.returns-then-is_scan_path
returns-then-is_scan_path c =
    inverted_none c.args.chip.now c.wired.ensures c.args.u.0 c.pin_net-net.result.0 c.requires c.pin_net-net.ensures
    (sym c.is_scan_path.ensures ∙ c.if-is_scan_path.true)

pub returns-else-is_scan_path : goal.returns-else-is_scan_path
returns-else-is_scan_path c =
    inverted_some c.args.chip.now c.wired.ensures c.args.u.0 c.pin_net-net.result.0 c.requires c.pin_net-net.ensures
    (sym c.is_scan_path.ensures ∙ c.if-is_scan_path.false)
