use Rattle.ca_scan.proofs.OffLemmas.{chains_more}
use Rattle.ca_scan.proofs.whole.chains_of.Goals as goal

pub loop-p-preserved : goal.loop-p-preserved
loop-p-preserved c =
    chains_more c.args.chip.now c.loop-p.p c.loop-p.chains c.in_ok-chain_at.field-0 c.push_chain.new.chains c.loop-p.invariant c.in_ok-chain_at.ensures
    c.in_ok-push_chain.ensures
