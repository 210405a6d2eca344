use Rattle.std.proofs.Common.{◌<◌, List, None, length, sym, subst}
use Rattle.ca_net.specs.declared.trit.Trit.{Trit}
use Rattle.ca_benches.specs.Benches.{Joined}
use Rattle.std.specs.Prelude.{slice_index}
use Rattle.ca_credit.specs.Detection.{IsNetEnd}
use Rattle.ca_benches.proofs.benches.BenchesSimulator.good_end.Goals as goal

pub good_end-requires : goal.good_end-requires
good_end-requires g c = subst (λ (v : Joined). c.args.output < length v.chip.outputs) (sym c.self.view_is) c.requires

pub returns : goal.returns
returns g c =
    subst (λ (v : Joined). IsNetEnd v.chip None v.bits (slice_index v.chip.outputs c.args.output) c.good_end.result) c.self.view_is
    c.good_end.ensures
