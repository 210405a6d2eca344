use Rattle.std.proofs.Common.{◌≡◌, ◌∙◌, ◌+◌, sym, ap, arith}
use Rattle.ca_flat.specs.Flat.{outer_count}
use Rattle.ca_flat.proofs.Places.{place_rail, place_pin}
use Rattle.ca_view.specs.Core.{core_of}
use Rattle.ca_flatten.proofs.ScanLemmas.{scan_at, node_is_two, node_is_inverting, inverted_at, inverted_outer}
use Rattle.ca_flatten.proofs.spots.scan_place.Goals as goal

pub returns-then-n-lt2 : goal.returns-then-n-lt2
returns-then-n-lt2 c = sym (place_rail (core_of c.args.chip.now) c.args.u.0 c.args.n c.if-n-lt2.true)

pub inverted_net-requires-clause-inverting : goal.inverted_net-requires-clause-inverting
inverted_net-requires-clause-inverting c =
    let s = scan_at c.args.chip.now c.args.u.0 c.requires.known c.requires.scan in
    node_is_inverting c.args.chip.now c.args.u.0 s c.args.defect c.args.n c.requires.defect c.if-n-lt2.false c.requires.within

pub returns-else-n-lt2 : goal.returns-else-n-lt2
returns-else-n-lt2 c =
    let chip = c.args.chip.now in
    let u = c.args.u.0 in
    let s = scan_at chip u c.requires.known c.requires.scan in
    let two = node_is_two chip u s c.args.defect c.args.n c.requires.defect c.if-n-lt2.false c.requires.within in
    let v = inverted_at chip u (node_is_inverting chip u s c.args.defect c.args.n c.requires.defect c.if-n-lt2.false c.requires.within) in
    let outer : outer_count (core_of chip) u ≡ 3 = inverted_outer chip u v in
    ap (λ net. 2 + net) c.inverted_net.ensures
    ∙ sym (place_pin (core_of chip) u c.args.n 0 (omega arith) (omega arith))
