use Rattle.ca_view.specs.Linked.{place_in}
use Rattle.ca_every_vector.proofs.TableLemmas.{table_is}
use Rattle.ca_every_vector.proofs.TriedLemmas.{none_marked}
use Rattle.ca_every_vector.proofs.every_vector.EveryVector.new.Goals as goal

pub invariant_of-result-2 : goal.invariant_of-result-2
invariant_of-result-2 c = record {
  first = table_is c.args.chip.now.core (place_in c.args.chip.now.ranks) c.in_ok-firsts.firsts.items c.in_ok-lasts.lasts.items c.in_ok-firsts.ensures c.in_ok-lasts.ensures;
  second = λ formed u tried. absurd (none_marked c.new-2.result.items u c.new-2.ensures.items tried);
}
