use Rattle.std.proofs.Common.{length, ◌∙◌, ap, subst, sym}
use Rattle.std.specs.Prelude.{None}
use Rattle.ca_sim.specs.Current.{IsSimulated, none_due}
use Rattle.ca_sim.proofs.networks.Networks.keep.Goals as goal

pub returns : goal.returns
returns c =
    let core = c.args.chip.now.core in
    record {
      count = ap length c.copy.ensures ∙ c.requires.bits;
      simulated = subst (λ list. IsSimulated core None list none_due c.take_over.new.self) (sym c.copy.ensures)
          (subst (IsSimulated core None c.args.self.now.bits none_due) (sym c.take_over.ensures) c.requires.rest.simulated);
    }
