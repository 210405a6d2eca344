use Rattle.std.proofs.Common.{rules, ◌≡◌, ◌<◌, ◌+◌, ◌∙◌, Bool, List, ap, length, subst, sym}
use Rattle.std.proofs.lemmas.List.Elements.{All-get_or}
use Rattle.ca_flat.specs.Pair.{bit_count}
use Rattle.ca_credit.specs.Defects.{Task}
use Rattle.ca_credit.proofs.lanes.keep_pairs_from.Goals as goal

pub keep-requires : goal.keep-requires
keep-requires g c =
    let task = g.S.Simulator.task c.args.sim.now in
    let lt : c.args.from + c.loop-k.k < length c.args.pairs.now = search rules in
    subst (λ (pair : List Bool). length pair ≡ bit_count task.chip) (sym c.index-pairs-from.is)
    (All-get_or (λ (pair : List Bool). length pair ≡ bit_count task.chip) c.args.pairs.now (c.args.from + c.loop-k.k) c.index-pairs-from.result lt c.requires.bits)
    ∙ ap (λ (of : Task). bit_count of.chip) (sym c.loop-k.invariant.task)
