use Rattle.std.proofs.Common.{◌∙◌, ap₂}
use Rattle.std.proofs.lemmas.Option.{slice_get-get_or}
use Rattle.ca_names.specs.Names.{with_name}
use Rattle.ca_wiring.proofs.PinLemmas.{cells_more}
use Rattle.ca_wiring.proofs.judged.cells_of.Goals as goal

pub loop-k-preserved : goal.loop-k-preserved
loop-k-preserved c =
    let lt = c.loop-k-test.true in
    (c.in_ok-add.ensures {u = tt}).names ∙ ap₂ with_name c.as_bytes.ensures c.loop-k.invariant
    ∙ cells_more c.args.scan.now c.requires c.loop-k.k _ (slice_get-get_or c.args.scan.now c.loop-k.k c.index-scan-k.result lt)
