use Rattle.std.proofs.Common.{◌≡◌, sym, subst}
use Rattle.std.specs.Prelude.{slice_index}
use Rattle.std.proofs.lemmas.Option.{get_or_from_slice_get}
use Rattle.ca_linked.specs.Instances.{scans_of}
use Rattle.ca_scan.specs.Chain.{IsOnPin}
use Rattle.ca_scan.proofs.JointLemmas.{scan_at}
use Rattle.ca_scan.proofs.pins.scan_net.Goals as goal

pub scan_net-requires : goal.scan_net-requires
scan_net-requires c = scan_at c.args.chip.now c.args.k c.scan.result.0 c.scan.ensures

pub returns : goal.returns
returns c =
    let same : slice_index (scans_of c.args.chip.now) c.args.k ≡ c.scan.result.0 = get_or_from_slice_get (scans_of c.args.chip.now) c.args.k c.scan.result.0 0 c.scan.ensures in
    subst (λ u. IsOnPin c.args.chip.now c.args.pin u c.scan_net.result.0) (sym same) c.scan_net.ensures
