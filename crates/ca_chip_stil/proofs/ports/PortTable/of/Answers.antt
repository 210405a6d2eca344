use Rattle.std.proofs.Common.{◌≡◌, ◌+◌, ◌-◌, ◌∙◌, replicate, ap, subst, arith}
use Rattle.std.specs.Prelude.{None}
use Rattle.ca_chip_stil.specs.code.Kept.{AreFirstPorts}
use Rattle.ca_chip_stil.proofs.PortLemmas.{ports_none, ports_more}
use Rattle.ca_chip_stil.proofs.ports.PortTable.of.Goals as goal

pub ports-init : goal.ports-init
ports-init c = record {
  within = omega (arith, c.ports-left.ensures);
  are = ports_none c.args.chip.now c.args.input c.ports-left.result (omega (arith, c.ports-left.ensures)) _
      (c.in_ok-no_ports.ensures ∙ ap (λ count. replicate count None) c.nets.ensures);
}

pub ports-preserved : goal.ports-preserved
ports-preserved c =
    let chip = c.args.chip.now in
    let some = c.ports-test.true in
    let next : c.ports.left ≡ c.ports.left - 1 + 1 = omega arith in
    record {
      within = let before = c.ports.invariant.within in omega arith;
      are = ports_more chip c.args.input (c.ports.left - 1) c.ports.table c.set.new.self c.set.ensures
          (subst (λ n. AreFirstPorts chip c.args.input n c.ports.table) next c.ports.invariant.are);
    }
