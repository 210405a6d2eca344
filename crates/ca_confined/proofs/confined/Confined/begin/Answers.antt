use Rattle.std.proofs.Common.{◌≡◌, ◌∙◌, length, replicate, ap, sym, subst, None}
use Rattle.std.proofs.lemmas.List.{length-replicate}
use Rattle.ca_net.specs.declared.trit.Trit.TheVariants.{X}
use Rattle.ca_flat.specs.Pair.{bit_count}
use Rattle.ca_flat.specs.Codes.{unset_pair}
use Rattle.ca_view.specs.Linked.{IsAim, place_in}
use Rattle.ca_sim.specs.Seen.{Seen}
use Rattle.ca_sim.specs.code.Network.{IsUnderway}
use Rattle.ca_sim.proofs.Keeping.{aim_listed}
use Rattle.ca_sim.proofs.SimLemmas.{followed_faulty}
use Rattle.ca_confined.specs.code.Kept.{IsConfined}
use Rattle.ca_confined.proofs.ConfinedLemmas.{twin_in, twin_given, confined_at_rest, confined_settled}
use Rattle.ca_confined.proofs.confined.Confined.begin.Goals as goal

pub settle-requires-clause-listed : goal.settle-requires-clause-listed
settle-requires-clause-listed c =
    aim_listed c.self.inside.chip.now.core (place_in c.self.inside.chip.now.ranks) c.args.aim
    (subst (λ (s : Seen). IsAim s.chip (place_in s.places) c.args.aim) (sym c.self.view_is) c.requires.aim)

pub settle-requires-clause-twin : goal.settle-requires-clause-twin
settle-requires-clause-twin c = λ x is.
    let core = c.self.inside.chip.now.core in
    let place_of = place_in c.self.inside.chip.now.ranks in
    let scope = c.turn_to.new.scope.places in
    twin_given core place_of scope _ x is (twin_in core place_of (unset_pair core) scope c.restore.new.network
    (confined_at_rest core place_of None (unset_pair core) scope c.restore.new.network c.restore.ensures.rest))

pub invariant_of-self : goal.invariant_of-self
invariant_of-self c =
    let inside = c.self.inside in
    let core = inside.chip.now.core in
    let place_of = place_in inside.chip.now.ranks in
    let kept = c.self.invariant in
    let scope = c.turn_to.new.scope.places in
    let bits_are : c.forget.new.bits ≡ unset_pair core = c.forget.ensures ∙ ap (λ n. replicate n X) kept.count in
    let under : IsUnderway core place_of c.args.aim (unset_pair core) c.turn.new.self =
    followed_faulty core place_of c.args.aim (unset_pair core) inside.unset c.restore-2.new.network c.turn.new.self kept.unset_are c.restore-2.ensures.waves c.turn.ensures in
    record {
      linked = kept.linked;
      pinned = kept.pinned;
      aim_is = subst (λ (s : Seen). IsAim s.chip (place_in s.places) c.args.aim) (sym c.self.view_is) c.requires.aim;
      count = ap length bits_are ∙ length-replicate (bit_count core) X;
      good_is = subst (λ bits. IsConfined core place_of None bits scope c.restore.new.network) (sym bits_are)
          (confined_at_rest core place_of None (unset_pair core) scope c.restore.new.network c.restore.ensures.rest);
      faulty_is = subst (λ bits. IsConfined core place_of c.args.aim bits scope c.settle.new.network) (sym bits_are)
          (confined_settled core place_of c.args.aim (unset_pair core) scope c.turn.new.self c.settle.new.network under c.settle.ensures.settled);
      unset_are = kept.unset_are;
      room = c.turn_to.ensures.room;
      scope_of = c.turn_to.ensures.scope;
      scope_at = c.turn_to.ensures.at;
    }
