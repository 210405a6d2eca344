use Rattle.std.proofs.Common.{◌≡◌, ◌^◌, ◌-◌, true, false, sym, ◌∙◌}
use Rattle.ca_planes.proofs.BitLemmas.{in_all}
use Rattle.ca_view.specs.Linked.{place_in}
use Rattle.ca_view.specs.Places.{cell_number}
use Rattle.ca_sweep.proofs.LaneFindLemmas.{seen_more}
use Rattle.ca_sweep.proofs.lane_find.find_wanted.Goals as goal

pub returns-else-wanted-u-clause-seen : goal.returns-else-wanted-u-clause-seen
returns-else-wanted-u-clause-seen c =
    let core = c.args.chip.now.core in
    seen_more core (place_in c.args.chip.now.ranks) (cell_number c.args.chip.now.chip) c.linked.ensures.linked c.args.goods.now c.args.seen.now.items c.put_three.new.seen.items
    c.args.u (2 ^ 64 - 1) (2 ^ 64 - 1) (2 ^ 64 - 1) c.requires.placed c.requires.seen c.put_three.ensures
    (λ lane within unset. let e : true ≡ false = sym (in_all lane within) ∙ unset in absurd cc)
    (λ lane within unset. let e : true ≡ false = sym (in_all lane within) ∙ unset in absurd cc)
    (λ lane within unset. let e : true ≡ false = sym (in_all lane within) ∙ unset in absurd cc)
