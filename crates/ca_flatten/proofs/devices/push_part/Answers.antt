use Rattle.std.proofs.Common.{◌∙◌, ◌++◌, sym, ap}
use Rattle.std.proofs.lemmas.List.{append-nil}
use Rattle.ca_flatten.proofs.ScanLemmas.{scan_at, scan_devices}
use Rattle.ca_flatten.proofs.devices.push_part.Goals as goal

pub returns-else-has : goal.returns-else-has
returns-else-has c =
    let chip = c.args.chip.now in
    let u = c.args.spot.instance.0 in
    let s = scan_at chip u c.requires.known (λ library. let marked = (c.requires.gates.each u).1 library in let un = c.has.ensures in let no = c.if-has.false in absurd cc) in
    sym (append-nil c.args.devices.now) ∙ ap (λ list. c.args.devices.now ++ list) (sym (scan_devices chip u s c.args.defect))
