use Rattle.std.proofs.Common.{◌≤◌, List, length, subst}
use Rattle.ca_cell.specs.declared.raw.RawDevice.{RawDevice}
use Rattle.ca_cell.proofs.RuleLemmas.{keeps_all}
use Rattle.ca_cell.proofs.check.driven_channel.Goals as goal

pub returns-clause-kept : goal.returns-clause-kept
returns-clause-kept c =
    let past = subst (λ (devices : List RawDevice). length devices ≤ c.loop-i.i) c.as_slice-devices.ensures c.loop-i-test.false in
    keeps_all c.args.raw.now c.loop-i.i past c.requires.counts c.loop-i.invariant
