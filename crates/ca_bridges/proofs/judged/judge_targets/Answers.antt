use Rattle.std.proofs.Common.{◌≤◌, ◌∙◌, List, length, sym, subst, arith}
use Rattle.std.specs.List.{All}
use Rattle.ca_view.specs.Core.{rank_of}
use Rattle.ca_targets.specs.declared.target.Cluster.{Cluster}
use Rattle.ca_credit.specs.declared.limit.TheConstants.{MOST_PAIRS}
use Rattle.ca_bridges.specs.Numbers.{IsFound, IsStationOf, AreNumbered}
use Rattle.ca_bridges.specs.code.Parts.{StandsInFor, IsGoodFor}
use Rattle.ca_bridges.proofs.NumberLemmas.{all_entries, few_numbers}
use Rattle.ca_targets.specs.Targets.{AreTargetsOf}
use Rattle.ca_bridges.proofs.PartLemmas.{clusters_stand, targets_found, task_is, aims_within, pairs_whole}
use Rattle.ca_bridges.proofs.JudgedLemmas.{are_good}
use Rattle.ca_bridges.proofs.judged.judge_targets.Goals as goal

pub number_shorts-requires-clause-found : goal.number_shorts-requires-clause-found
number_shorts-requires-clause-found g c =
    let all = c.args.all.now in
    subst (λ (clusters : List Cluster). All (IsFound clusters) all.targets) (sym c.deref.ensures.value)
    (targets_found c.args.chip.now c.args.bridges.now all.targets all.clusters.items c.requires.targets)

pub generated-requires-clause-stand_in : goal.generated-requires-clause-stand_in
generated-requires-clause-stand_in g c =
    let all = c.args.all.now in
    let chip = c.args.chip.now in
    subst (λ (clusters : List Cluster). All (StandsInFor chip) clusters) (sym c.deref-2.ensures.value)
    (clusters_stand chip (rank_of chip) c.args.bridges.now all.targets all.clusters.items (c.core_is_chip.ensures chip c.wired.ensures) c.requires.targets)

pub generated-requires-clause-stations : goal.generated-requires-clause-stations
generated-requires-clause-stations g c =
    let stations = c.in_ok-numbers.field-0.stations in
    subst (λ (clusters : List Cluster). All (IsStationOf clusters) stations) (c.deref.ensures.value ∙ sym c.deref-2.ensures.value)
    (all_entries (IsStationOf c.deref.result.now) stations c.in_ok-numbers.ensures.stations)

pub generated-requires-clause-few : goal.generated-requires-clause-few
generated-requires-clause-few g c =
    let all = c.args.all.now in
    let one_each = c.in_ok-numbers.ensures.one_each in
    let few = few_numbers all.targets (length all.targets) c.in_ok-numbers.field-0.numbers c.in_ok-numbers.ensures.numbers in
    let as_many = c.requires.targets.one_each in
    let at_most = c.requires.few in
    omega (arith, one_each, few, as_many, at_most)

pub aims_at-requires : goal.aims_at-requires
aims_at-requires g c =
    aims_within c.args.chip.now c.args.budget c.deref-2.result.now c.in_ok-numbers.field-0 c.in_ok-pairs.field-0
    c.in_ok-numbers.ensures.one_each c.in_ok-pairs.ensures

pub returns-clause-good : goal.returns-clause-good
returns-clause-good g c =
    let all = c.args.all.now in
    let chip = c.args.chip.now in
    let budget = c.args.budget in
    let clusters = all.clusters.items in
    let numbered = c.in_ok-numbers.field-0 in
    let made = c.in_ok-pairs.field-0 in
    let are : AreNumbered all.targets clusters (length all.targets) numbered =
    subst (λ (known : List Cluster). AreNumbered all.targets known (length all.targets) numbered) c.deref.ensures.value c.in_ok-numbers.ensures in
    let of : IsGoodFor chip budget clusters numbered.stations made =
    subst (λ (known : List Cluster). IsGoodFor chip budget known numbered.stations made) c.deref-2.ensures.value c.in_ok-pairs.ensures in
    are_good chip (rank_of chip) budget c.args.bridges.now all.targets clusters numbered.numbers of.task made.pairs made.aims made.verdicts
    c.in_ok-places.places c.in_ok-words.words (c.core_is_chip.ensures chip c.wired.ensures) c.requires.targets are.numbers
    (task_is chip budget all.targets clusters numbered made are of) of.good c.in_ok-words.ensures c.in_ok-places.ensures
    c.one_cluster.ensures c.cluster_is_one.ensures c.good_targets_are_bridges.ensures

pub returns-clause-whole : goal.returns-clause-whole
returns-clause-whole g c =
    let all = c.args.all.now in
    let chip = c.args.chip.now in
    let made = c.in_ok-pairs.field-0 in
    pairs_whole chip (rank_of chip) c.args.budget c.args.bridges.now all.targets c.deref-2.result.now c.in_ok-numbers.field-0 made
    (c.core_is_chip.ensures chip c.wired.ensures)
    (subst (λ (known : List Cluster). AreTargetsOf chip c.args.bridges.now all.targets known) (sym c.deref-2.ensures.value) c.requires.targets)
    (subst (λ (known : List Cluster). AreNumbered all.targets known (length all.targets) c.in_ok-numbers.field-0)
    (c.deref.ensures.value ∙ sym c.deref-2.ensures.value) c.in_ok-numbers.ensures) c.in_ok-pairs.ensures
