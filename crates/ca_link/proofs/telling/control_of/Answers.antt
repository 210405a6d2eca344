use Rattle.std.proofs.Common.{◌∙◌, sym, ap}
use Rattle.std.specs.Option.{option_copied}
use Rattle.ca_link.proofs.NameLemmas.{no_row}
use Rattle.ca_link.proofs.telling.control_of.Goals as goal

pub unreachable-requires : goal.unreachable-requires
unreachable-requires c =
    no_row c.args.draft.now c.args.scan.now c.requires.names c.args.u c.part.result.now c.part.ensures c.requires.scan
    (sym c.row_of.ensures ∙ ap option_copied c.in-None.is)
