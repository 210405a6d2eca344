use Rattle.std.proofs.Common.{sym, ◌∙◌}
use Rattle.ca_view.proofs.ReaderLemmas.{row_added}
use Rattle.ca_view.proofs.readers.add_net.Goals as goal

pub returns : goal.returns
returns c =
    row_added c.args.chip.now c.args.net.0 c.args.rows.now.items c.push.new.self.items c.in_ok-row.row c.requires.first
    (sym c.is_scan_path.ensures ∙ c.if-is_scan_path.false) c.in_ok-row.ensures c.in_ok-push.ensures.items
