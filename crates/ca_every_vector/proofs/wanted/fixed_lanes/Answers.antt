use Rattle.std.proofs.Common.{◌≡◌, ◌∙◌, length, inl, inr, sym, ap, subst, arith}
use Rattle.std.proofs.lemmas.Bool.{cases_eq, cases_lt}
use Rattle.std.proofs.lemmas.List.{get_or-set_same, get_or-set_other, get_or_past}
use Rattle.ca_net.specs.declared.trit.Trit.TheVariants.{X}
use Rattle.ca_net.specs.State.{value_at}
use Rattle.ca_planes.specs.Trits.{state_in, trit_in}
use Rattle.ca_planes.proofs.ValueLemmas.{length-values_in}
use Rattle.ca_every_vector.specs.code.Lanes.{values_of}
use Rattle.ca_every_vector.proofs.wanted.fixed_lanes.Goals as goal

pub loop-net-preserved : goal.loop-net-preserved
loop-net-preserved c =
    let old = c.loop-net.block in
    let net = c.loop-net.net in
    let nodes = c.loop-net.invariant.nodes in
    record {
      nodes = record {
        zeros = c.set.ensures.zeros ∙ nodes.zeros;
        ones = c.set.ensures.ones ∙ nodes.ones;
      };
      same = λ lane low n less.
          let long : length (state_in old lane) ≡ length c.args.fixed.now =
          length-values_in old.zeros.items old.ones.items lane (nodes.ones ∙ sym nodes.zeros) ∙ nodes.zeros in
          elim (cases_eq n net) [
            | inl e ↦ subst (λ k. values_of c.set.new.self lane k ≡ value_at c.args.fixed.now k) (sym e)
                (ap (λ list. value_at list net) (c.set.ensures.states lane)
                ∙ get_or-set_same (state_in old lane) net (trit_in c.in_all.result lane) X (omega (arith, long))
                ∙ c.in_all.ensures lane low ∙ c.at.ensures)
            | inr other ↦ ap (λ list. value_at list n) (c.set.ensures.states lane)
                ∙ get_or-set_other (state_in old lane) net n (trit_in c.in_all.result lane) X other
                ∙ c.loop-net.invariant.same lane low n (omega (arith, other))
          ];
    }

pub returns : goal.returns
returns c =
    let block = c.loop-net.block in
    let nodes = c.loop-net.invariant.nodes in
    let fixed = c.requires in
    record {
      nodes = record { zeros = nodes.zeros ∙ fixed.room; ones = nodes.ones ∙ fixed.room };
      each = λ lane low.
          let long : length (state_in block lane) ≡ length c.args.fixed.now =
          length-values_in block.zeros.items block.ones.items lane (nodes.ones ∙ sym nodes.zeros) ∙ nodes.zeros in
          record {
            room = long ∙ fixed.room;
            each = λ net. elim (cases_lt net (length c.args.fixed.now)) [
              | inl low_net ↦ c.loop-net.invariant.same lane low net (let past = c.loop-net-test.false in omega arith) ∙ fixed.each net
              | inr past ↦ get_or_past (state_in block lane) net X (omega (arith, long)) ∙ sym (get_or_past c.args.fixed.now net X past) ∙ fixed.each net
            ];
          };
    }
