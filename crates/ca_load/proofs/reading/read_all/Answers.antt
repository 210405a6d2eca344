use Rattle.std.proofs.Common.{◌∙◌, subst, Option}
use Rattle.ca_store.specs.Store.{Files}
use Rattle.ca_load.specs.declared.netlists.TheConstants.{MAX_NETLIST}
use Rattle.ca_load.specs.Files.{OfFile}
use Rattle.ca_load.specs.Texts.{names_of, IsNetlistOf}
use Rattle.ca_load.specs.Causes.{IsInputCause}
use Rattle.ca_load.proofs.ReadLemmas.{at_netlist, at_scan}
use Rattle.ca_load.proofs.LinkLemmas.{handed_on}
use Rattle.ca_load.proofs.reading.read_all.Goals as goal

pub returns-in_err-netlist-clause-cause : goal.returns-in_err-netlist-clause-cause
returns-in_err-netlist-clause-cause g c =
    let names = names_of c.args.names.now in
    let files = g.S.Store.files c.args.store.now in
    let before = g.S.Store.faults c.args.store.now in
    let after = g.S.Store.faults c.open_netlist.new.store in
    let fault = c.in_err-netlist.field-0.0 in
    let read = c.in_ok-library.ensures in
    handed_on c.from_residual-in_err-netlist.result fault (IsInputCause names files before after)
    c.from_residual-in_err-netlist.ensures.1
    (at_netlist names files (g.S.Store.files c.open_library.new.store) before
    (g.S.Store.faults c.open_library.new.store) after read.store.kept read.store.quiet c.in_ok-library.library read.ok fault
    (c.in_err-netlist.ensures).cause)

pub returns-in_err-scan-clause-cause : goal.returns-in_err-scan-clause-cause
returns-in_err-scan-clause-cause g c =
    let names = names_of c.args.names.now in
    let files = g.S.Store.files c.args.store.now in
    let before = g.S.Store.faults c.args.store.now in
    let after = g.S.Store.faults c.open_table.new.store in
    let fault = c.in_err-scan.field-0.0 in
    let read = c.in_ok-library.ensures in
    let next = c.in_ok-netlist.ensures in
    let netlist : OfFile files names.netlist MAX_NETLIST (IsNetlistOf c.in_ok-netlist.netlist) =
    subst (λ (some : Option Files). OfFile some names.netlist MAX_NETLIST (IsNetlistOf c.in_ok-netlist.netlist)) read.store.kept next.ok in
    handed_on c.from_residual-in_err-scan.result fault (IsInputCause names files before after)
    c.from_residual-in_err-scan.ensures.1
    (at_scan names files (g.S.Store.files c.open_netlist.new.store) before
    (g.S.Store.faults c.open_netlist.new.store) after (next.store.kept ∙ read.store.kept) (next.store.quiet ∙ read.store.quiet)
    c.in_ok-library.library read.ok fault c.in_ok-netlist.netlist netlist (c.in_err-scan.ensures).cause)
