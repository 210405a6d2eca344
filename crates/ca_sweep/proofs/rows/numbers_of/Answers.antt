use Rattle.std.proofs.Common.{◌∷◌, [], ap, length, ◌∙◌, arith, length-append}
use Rattle.ca_view.specs.Linked.{place_in}
use Rattle.ca_view.specs.Places.{cell_number}
use Rattle.ca_sweep.proofs.RowLemmas.{numbers_more}
use Rattle.ca_sweep.proofs.rows.numbers_of.Goals as goal

pub loop-u-preserved : goal.loop-u-preserved
loop-u-preserved c =
    let was = c.loop-u.invariant in
    record {
      count = ap length c.in_ok-push.ensures.items
          ∙ (let l = length-append c.loop-u.numbers.items (c.number_at.result ∷ []) in let room = was.count in omega arith);
      each = numbers_more c.args.chip.now.core (place_in c.args.chip.now.ranks) (cell_number c.args.chip.now.chip) c.loop-u.u c.number_at.result
          c.loop-u.numbers.items c.push.new.self.items was.count was.each c.in_ok-push.ensures.items c.number_at.ensures;
    }
