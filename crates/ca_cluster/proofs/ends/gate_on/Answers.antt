use Rattle.std.proofs.Common.{inl, inr, subst}
use Rattle.ca_linked.specs.declared.parts.Source.{Source}
use Rattle.ca_linked.specs.Linked.{Drives}
use Rattle.ca_cluster.proofs.EndLemmas.{driver_here, driver_scan, driver_port, driver_constant}
use Rattle.ca_cluster.proofs.ends.gate_on.Goals as goal

pub returns-then-is_library : goal.returns-then-is_library
returns-then-is_library c =
    driver_here c.args.chip.now c.wired.ensures c.args.net.0 c.in-FromPin.w _
    (subst (λ (s : Source). Drives c.args.chip.now c.args.net.0 s) c.in-FromPin.is c.driver.ensures)
    (c.is_library.ensures.0 c.if-is_library.true)

pub returns-else-is_library : goal.returns-else-is_library
returns-else-is_library c =
    driver_scan c.args.chip.now c.wired.ensures c.args.net.0 c.in-FromPin.w _
    (subst (λ (s : Source). Drives c.args.chip.now c.args.net.0 s) c.in-FromPin.is c.driver.ensures)
    (λ is. let holds = c.is_library.ensures.1 is in let fails = c.if-is_library.false in cc)

pub returns-in-FromPort : goal.returns-in-FromPort
returns-in-FromPort c = elim c.in-FromPort.is [
  | inl port ↦
      driver_port c.args.chip.now c.wired.ensures c.args.net.0 port.0
      (subst (λ (s : Source). Drives c.args.chip.now c.args.net.0 s) port.1 c.driver.ensures)
  | inr constant ↦
      driver_constant c.args.chip.now c.wired.ensures c.args.net.0 constant.0
      (subst (λ (s : Source). Drives c.args.chip.now c.args.net.0 s) constant.1 c.driver.ensures)
]
