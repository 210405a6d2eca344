use Rattle.std.proofs.Common.{◌≡◌, length, replicate, refl, sym, ◌∙◌, ap, subst, None}
use Rattle.std.proofs.lemmas.List.{length-replicate}
use Rattle.ca_net.specs.declared.trit.Trit.TheVariants.{X}
use Rattle.ca_flat.specs.Pair.{bit_count}
use Rattle.ca_flat.specs.Codes.{unset_pair}
use Rattle.ca_view.specs.Linked.{place_in}
use Rattle.ca_sim.specs.code.Network.{IsUnderway}
use Rattle.ca_sim.specs.declared.network.Network.{Network}
use Rattle.ca_sim.proofs.SimLemmas.{followed_ready, unset_good, followed_faulty}
use Rattle.ca_sim.proofs.networks.Networks.unset.Goals as goal

pub turn-requires-clause-ready : goal.turn-requires-clause-ready
turn-requires-clause-ready c = followed_ready c.args.chip.now.core (place_in c.args.chip.now.ranks) c.args.aim c.args.self.now.bits
    (unset_pair c.args.chip.now.core) c.args.unset.now c.args.self.now.faulty _ c.requires.rest.faulty c.requires.unset c.take_over-2.ensures refl

pub returns-clause-bits : goal.returns-clause-bits
returns-clause-bits c = c.forget.ensures ∙ ap (λ n. replicate n X) c.requires.rest.bits

pub returns-clause-underway : goal.returns-clause-underway
returns-clause-underway c =
    let core = c.args.chip.now.core in
    let place_of = place_in c.args.chip.now.ranks in
    let good : Network = record { waves = c.take_over.new.self; due = c.args.self.now.good.due } in
    let faulty : Network = record { waves = c.take_over-2.new.self; due = c.args.self.now.faulty.due } in
    let bits_are : c.forget.new.bits ≡ unset_pair core = c.forget.ensures ∙ ap (λ n. replicate n X) c.requires.rest.bits in
    record {
      bits = ap length bits_are ∙ length-replicate (bit_count core) X;
      good = subst (λ bits. IsUnderway core place_of None bits good) (sym bits_are)
          (unset_good core place_of c.args.self.now.bits c.args.unset.now c.args.self.now.good good c.requires.rest.good c.requires.unset c.take_over.ensures refl);
      faulty = subst (λ bits. IsUnderway core place_of c.args.aim bits c.turn.new.self) (sym bits_are)
          (followed_faulty core place_of c.args.aim (unset_pair core) c.args.unset.now faulty c.turn.new.self c.requires.unset c.take_over-2.ensures c.turn.ensures);
    }
