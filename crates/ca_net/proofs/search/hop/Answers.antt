use Rattle.std.proofs.Common.{◌≡◌, ◌≢◌, ◌≤◌, get_or, arith, subst, false, sym, ap, ◌∙◌}
use Rattle.std.proofs.lemmas.Option.{get_or_from_slice_get}
use Rattle.ca_net.specs.declared.node.NodeKind.TheVariants.{Input}
use Rattle.ca_net.specs.Passing.{PassesAt}
use Rattle.ca_net.specs.Circuit.{kind_at}
use Rattle.ca_net.proofs.Hops.{named_at, links_within, hop_by, same_node, unmarked_at}
use Rattle.ca_net.proofs.search.hop.Goals as goal
use Rattle.ca_net.proofs.search.hop.Goals.{else-is_storage-via-then-is_storage+then-not-on_path-next+then-passes+else-floor-next}
use Rattle.ca_net.proofs.search.hop.Goals.{else-is_storage-via-then-is_storage+then-not-on_path-next+else-passes}
use Rattle.ca_net.proofs.search.hop.Goals.{else-is_storage-via-then-is_storage+else-not-on_path-next}
use Rattle.ca_net.proofs.search.hop.Goals.{else-is_storage-via-else-is_storage}

pub returns-in_err-next-clause-only : goal.returns-in_err-next-clause-only
returns-in_err-next-clause-only g c = λ m l hop.
    let by = hop_by _ _ _ _ _ _ _ _ m l _ c.device-device.ensures hop in
    let only = c.other_end.ensures.only m by.links in
    let none = c.in_err-next.was in cc

pub get-gate-requires : goal.get-gate-requires
get-gate-requires g c =
    let named = named_at _ _ _ c.requires.well_formed c.device-device.ensures in rw c.requires.state named.0

pub kind-requires : goal.kind-requires
kind-requires g c =
    let named = named_at _ _ _ c.requires.well_formed c.device-device.ensures in
    links_within _ c.device-device.result c.args.end.node.0 _ named c.in_ok-next.ensures.linked

pub bounds-on_path-next : goal.bounds-on_path-next
bounds-on_path-next g c =
    let named = named_at _ _ _ c.requires.well_formed c.device-device.ensures in
    rw c.requires.on_path (links_within _ c.device-device.result c.args.end.node.0 _ named c.in_ok-next.ensures.linked)

pub bounds-floor-next : goal.bounds-floor-next
bounds-floor-next g c =
    let named = named_at _ _ _ c.requires.well_formed c.device-device.ensures in
    rw c.requires.floor (links_within _ c.device-device.result c.args.end.node.0 _ named c.in_ok-next.ensures.linked)

pub returns-then-floor-next-clause-some : goal.returns-then-floor-next-clause-some
returns-then-floor-next-clause-some g c =
    let named = named_at _ _ _ c.requires.well_formed c.device-device.ensures in
    let within = links_within _ c.device-device.result c.args.end.node.0 _ named c.in_ok-next.ensures.linked in
    record {
      device = c.device-device.result;
      is_device = c.device-device.ensures;
      links = c.in_ok-next.ensures.linked;
      storage = subst (λ k. k ≢ Input) (sym (get_or_from_slice_get _ c.in_ok-next.next.0 c.kind.result Input c.kind.ensures)) (c.is_storage.ensures.0 c.if-is_storage.true);
      unmarked = unmarked_at c.args.on_path.now c.in_ok-next.next.0 (rw c.requires.on_path within) c.if-not-on_path-next.true;
      passes = subst (PassesAt c.args.kind c.device-device.result.kind) c.get-gate.ensures (c.passes.ensures.0 c.if-passes.true);
      strength = c.min-strength.ensures;
      allowed = c.if-floor-next.true;
    }

pub returns-else-is_storage-clause-only : goal.returns-else-is_storage-clause-only
returns-else-is_storage-clause-only g c = λ m l hop.
    let by = hop_by _ _ _ _ _ _ _ _ m l _ c.device-device.ensures hop in
    let same = same_node c.other_end.result m c.in_ok-next.next (c.other_end.ensures.only m by.links) c.in_ok-next.was in
    let storage : c.kind.result ≢ Input =
    subst (λ k. k ≢ Input) (ap (kind_at (g.N.Network.circuit c.args.net.now)) same ∙ get_or_from_slice_get _ c.in_ok-next.next.0 c.kind.result Input c.kind.ensures) by.storage in
    let passes : PassesAt c.args.kind c.device-device.result.kind c.get-gate.result =
    subst (PassesAt c.args.kind c.device-device.result.kind) (sym c.get-gate.ensures) by.passes in
    let allowed : get_or c.args.floor.now c.in_ok-next.next.0 0 ≤ l = subst (λ x. get_or c.args.floor.now x 0 ≤ l) same by.allowed in
    let unmarked : get_or c.args.on_path.now c.in_ok-next.next.0 false ≡ false =
    subst (λ x. get_or c.args.on_path.now x false ≡ false) same (get_or_from_slice_get c.args.on_path.now m false false by.unmarked) in
    let strength = by.strength in
    let left = c.min-strength.ensures in
    absurd (elim c.else-is_storage.branch [
      | else-is_storage-via-then-is_storage+then-not-on_path-next+then-passes+else-floor-next w ↦ let over = w.if-floor-next.false in omega arith
      | else-is_storage-via-then-is_storage+then-not-on_path-next+else-passes w ↦ let closed = w.if-passes.false in let passing = w.passes.ensures.1 passes in cc
      | else-is_storage-via-then-is_storage+else-not-on_path-next w ↦ let marked = w.if-not-on_path-next.false in cc
      | else-is_storage-via-else-is_storage w ↦ let input = w.if-is_storage.false in let is = c.is_storage.ensures.1 storage in cc
    ])
