use Rattle.std.proofs.Common.{◌≡◌, ◌∙◌, ap, subst, Some}
use Rattle.std.specs.Prelude.{slice_get}
use Rattle.std.proofs.lemmas.Option.{get_or_from_slice_get}
use Rattle.std.proofs.lemmas.List.Elements.{All-get_or}
use Rattle.ca_targets.specs.declared.target.Target.{Target}
use Rattle.ca_targets.specs.declared.target.Target.TheVariants as kind
use Rattle.ca_targets.specs.declared.target.Cluster.{Cluster}
use Rattle.ca_bridges.specs.Numbers.{IsFound}
use Rattle.ca_bridges.proofs.NumberLemmas.{numbered_more}
use Rattle.ca_bridges.proofs.numbers.add_short.Goals as goal

pub returns-in_ok-push-2 : goal.returns-in_ok-push-2
returns-in_ok-push-2 c =
    let targets = c.args.targets.now in
    let clusters = c.args.clusters.now in
    let here : slice_get targets c.args.place ≡ Some (kind.Short c.in-Short.part c.in-Short.at) =
    c.get.ensures ∙ ap (λ (t : Target). Some t) c.in-Short.is in
    let found : IsFound clusters (kind.Short c.in-Short.part c.in-Short.at) =
    subst (IsFound clusters) (get_or_from_slice_get targets c.args.place _ _ here)
    (All-get_or (IsFound clusters) targets c.args.place (kind.Short c.in-Short.part c.in-Short.at) c.requires.within c.requires.found) in
    let same = get_or_from_slice_get clusters c.in-Short.part found.0 c.index-clusters-part.result found.1 in
    numbered_more targets clusters c.args.place c.args.numbered.now c.requires.before
    (record { part = c.in-Short.part; place = c.in-Short.at; defect = c.get-defect.result })
    (record { numbers = c.push.new.self; stations = c.push-in-Short.new.self }) here
    (record {
      cluster = found.0;
      is_cluster = found.1;
      is_short = subst (λ (cluster : Cluster). slice_get cluster.shorts c.in-Short.at ≡ Some c.get-defect.result) same c.get-defect.ensures;
    }) c.in_ok-push.ensures.ok c.in_ok-push-2.ensures.ok
