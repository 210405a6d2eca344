use Rattle.std.proofs.Common.{◌≡◌, ◌*◌, ◌∙◌, length, replicate, ap, sym, subst, None}
use Rattle.std.proofs.lemmas.List.{length-replicate}
use Rattle.ca_net.specs.declared.trit.Trit.TheVariants.{X}
use Rattle.ca_flat.specs.Pair.{bit_count}
use Rattle.ca_flat.specs.Codes.{unset_pair}
use Rattle.ca_view.specs.Linked.{place_in}
use Rattle.ca_sim.specs.code.Current.{AreUnset}
use Rattle.ca_confined.specs.code.Kept.{IsConfined}
use Rattle.ca_confined.proofs.ConfinedLemmas.{unset_of, confined_at_rest}
use Rattle.ca_confined.proofs.confined.Confined.reserve.Goals as goal

pub invariant_of-result : goal.invariant_of-result
invariant_of-result c =
    let core = c.args.chip.now.core in
    let places = c.args.chip.now.ranks in
    let place_of = place_in places in
    let scope = c.in_ok-reserve.field-0.places in
    let bits_are : c.in_ok-unknown.field-0 ≡ unset_pair core = c.in_ok-unknown.ensures ∙ ap (λ k. replicate (2 * k) X) c.input_count.ensures in
    let good = unset_of core places c.args.sim.now c.in_ok-good.good c.requires c.in_ok-good.ensures in
    let faulty = unset_of core places c.args.sim.now c.in_ok-faulty.faulty c.requires c.in_ok-faulty.ensures in
    record {
      linked = c.linked.ensures.linked;
      pinned = c.linked.ensures.pinned;
      aim_is = tt;
      count = ap length bits_are ∙ length-replicate (bit_count core) X;
      good_is = subst (λ bits. IsConfined core place_of None bits scope c.in_ok-good.good) (sym bits_are)
          (confined_at_rest core place_of None (unset_pair core) scope c.in_ok-good.good good);
      faulty_is = subst (λ bits. IsConfined core place_of None bits scope c.in_ok-faulty.faulty) (sym bits_are)
          (confined_at_rest core place_of None (unset_pair core) scope c.in_ok-faulty.faulty faulty);
      unset_are = subst (AreUnset core) (sym (c.unset-3.view_is ∙ c.in_ok-unset.ensures)) good.simulated;
      room = c.in_ok-reserve.ensures;
      scope_of = tt;
      scope_at = tt;
    }

pub returns-clause-pair : goal.returns-clause-pair
returns-clause-pair c = c.in_ok-unknown.ensures ∙ ap (λ k. replicate (2 * k) X) c.input_count.ensures
