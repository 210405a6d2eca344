use Rattle.ca_chip_stil.proofs.ChainLemmas.{run_at}
use Rattle.ca_chip_stil.proofs.chains.chains_of.Goals as goal

pub chain_of-requires-clause-run : goal.chain_of-requires-clause-run
chain_of-requires-clause-run c =
    run_at c.args.chip.now c.args.chains.now c.as_slice-chains.result.now c.loop-k.k _ c.requires.chains
    c.as_slice-chains.ensures c.loop-k-test.true c.index-chains-k.is
