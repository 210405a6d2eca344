use Rattle.std.proofs.Common.{◌≡◌, true, false, length, subst, arith, rules}
use Rattle.std.specs.Prelude.{IsSomeAnd, slice_get}
use Rattle.ca_linked.specs.Linked.{is_scan_path}
use Rattle.ca_linked.specs.declared.parts.PortBit.{PortBit}
use Rattle.ca_scan.specs.code.Kept.{IsRun}
use Rattle.ca_scan.proofs.FollowLemmas.{no_input, off_path_from, port_net_drives, empty_run_from}
use Rattle.ca_scan.proofs.follow.chain_at.Goals as goal

pub returns-then-not-port_is_input : goal.returns-then-not-port_is_input
returns-then-not-port_is_input c =
    let output : c.port_is_input.result ≡ false = search rules in
    no_input c.args.chip.now c.args.p
    (subst (λ b. IsSomeAnd (slice_get c.args.chip.now.ports c.args.p) (λ (port : PortBit). port.is_input ≡ b)) output c.port_is_input.ensures)

pub returns-then-not-is_scan_path : goal.returns-then-not-is_scan_path
returns-then-not-is_scan_path c =
    let off : is_scan_path c.args.chip.now c.port_net-net.result.0 ≡ false = search rules in
    off_path_from c.args.chip.now c.args.p c.port_net-net.result.0 c.port_net-net.ensures off

pub follow-requires-clause-driven : goal.follow-requires-clause-driven
follow-requires-clause-driven c =
    let input : c.port_is_input.result ≡ true = search rules in
    port_net_drives c.args.chip.now c.args.p c.port_net-net.result.0 c.port_is_input.result input c.port_net-net.ensures c.port_is_input.ensures

pub returns-then-len-eq0 : goal.returns-then-len-eq0
returns-then-len-eq0 c =
    let chip = c.args.chip.now in
    let net = c.port_net-net.result.0 in
    let count = c.len.ensures in
    let test = c.if-len-eq0.true in
    let none : length c.in-Some.chain ≡ 0 = omega (arith, count, test) in
    empty_run_from chip c.args.p net c.in-Some.chain c.port_net-net.ensures none (subst (IsRun chip net) c.in-Some.is c.in_ok-chain.ensures)
