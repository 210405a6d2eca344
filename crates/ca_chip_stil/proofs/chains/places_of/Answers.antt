use Rattle.std.proofs.Common.{◌≡◌, ◌+◌, ◌-◌, subst, arith}
use Rattle.ca_chip_stil.specs.code.Kept.{ArePlacesFrom}
use Rattle.ca_chip_stil.proofs.PlaceLemmas.{scan_within, places_more}
use Rattle.ca_chip_stil.proofs.chains.places_of.Goals as goal

pub index_mut-requires : goal.index_mut-requires
index_mut-requires c =
    let within = scan_within c.args.chip.now (c.scans.left - 1) c.scan.result.0 c.scan.ensures in
    let room = c.scans.invariant.are.room in
    omega arith

pub scans-preserved : goal.scans-preserved
scans-preserved c =
    let chip = c.args.chip.now in
    let some = c.scans-test.true in
    let next : c.scans.left ≡ c.scans.left - 1 + 1 = omega arith in
    record {
      within = let before = c.scans.invariant.within in omega arith;
      are = places_more chip (c.scans.left - 1) c.scan.result.0 c.scans.places.items c.scan.ensures
          (scan_within chip (c.scans.left - 1) c.scan.result.0 c.scan.ensures)
          (subst (λ n. ArePlacesFrom chip n c.scans.places.items) next c.scans.invariant.are);
    }
