use Rattle.std.proofs.Common.{◌∙◌, sym, ap, subst}
use Rattle.ca_flat.specs.Chip.{Chip}
use Rattle.ca_view.specs.Linked.{place_in}
use Rattle.ca_examiner.specs.code.Ends.{IsFirstOpposite}
use Rattle.ca_examiner.proofs.LeaveLemmas.{view_of, outputs_within}
use Rattle.ca_examiner.proofs.DetectLemmas.{detecting_is}
use Rattle.ca_examiner.proofs.detect.detecting_output.Goals as goal

pub first_opposite-requires-clause-within : goal.first_opposite-requires-clause-within
first_opposite-requires-clause-within g c = outputs_within c.args.chip.now.core (place_in c.args.chip.now.ranks)
    (g.V.NetWaves.seen c.args.waves.now).chip c.args.outputs.now c.linked.ensures.linked.is_chip c.requires.seen.same c.requires.outputs

pub returns : goal.returns
returns g c =
    let rank = place_in c.args.chip.now.ranks in
    let seen = g.V.NetWaves.seen c.args.waves.now in
    detecting_is rank seen c.args.defect (view_of c.args.chip.now.core rank seen c.args.defect c.linked.ensures.linked.is_chip c.requires.seen c.exact.ensures)
    c.first_opposite.result (subst (λ o. IsFirstOpposite seen o c.first_opposite.result)
    (c.requires.outputs ∙ sym (ap (λ (x : Chip). x.outputs) c.requires.seen.same)) c.first_opposite.ensures)
