use Rattle.std.proofs.Common.{◌<◌, length, set, arith, refl, ◌∙◌, ap, subst, false, length-set}
use Rattle.std.specs.Prelude.{not}
use Rattle.std.specs.List.{count_by}
use Rattle.std.proofs.lemmas.Option.{slice_get_within}
use Rattle.ca_net.proofs.Hops.{marks_fall, unmark}
use Rattle.ca_net.proofs.SpreadTurns.{Explored-kept, Explored-raised, Explored-done, Explored-turn}
use Rattle.ca_net.proofs.SpreadTurns.{Explored-no_turn, Explored-count}
use Rattle.ca_net.proofs.search.+spread.Goals as goal
use Rattle.ca_net.proofs.search.+spread.Goals.{then-reached-at, else-reached-at, in-Some, in_default}

pub loop-i-init : goal.loop-i-init
loop-i-init g t c = record {
  same = refl;
  explored = elim c.if-reached-at.branch [
    | then-reached-at w ↦ rw w.reached-is (Explored-raised _ _ _ _ _ _ _ c.args.reached.now (rw c.requires.reached c.requires.end) w.if-reached-at.true)
    | else-reached-at w ↦ rw w.reached-is (Explored-kept _ _ _ _ _ _ _ c.args.reached.now w.if-reached-at.false)
  ];
}

pub spread-requires : goal.spread-requires
spread-requires g t c κs within =
    let m = marks_fall c.loop-i.on_path c.in-Some.next.node.0 c.in-Some.ensures.some.unmarked in
    let b : c.in-Some.next.node.0 < length c.loop-i.on_path = slice_get_within c.loop-i.on_path c.in-Some.next.node.0 false c.in-Some.ensures.some.unmarked in
    (omega (arith, m, c.decreases, ap (count_by not) c.loop-i.invariant.same), (within, (c.requires.state, (c.requires.floor, (length-set _ _ _ ∙ c.loop-i.auto.on_path ∙ c.requires.on_path, (c.loop-i.auto.reached ∙ c.if-reached-at.auto.reached ∙ c.requires.reached, subst (λ n. c.in-Some.next.node.0 < n) (c.loop-i.auto.on_path ∙ c.requires.on_path) b))))))

pub loop-i-preserved : goal.loop-i-preserved
loop-i-preserved g t c = elim c.match-hop.branch [
  | in-Some w ↦ record {
    same = w.on_path-is ∙ ap (λ xs. set xs w.in-Some.next.node.0 false) w.spread.ensures.on_path ∙ unmark c.loop-i.on_path w.in-Some.next.node.0 w.in-Some.ensures.some.unmarked ∙ c.loop-i.invariant.same;
    explored = rw w.reached-is (Explored-turn _ _ _ _ _ _ _ c.loop-i.on_path c.loop-i.i w.in-Some.next.node.0 w.in-Some.next.strength c.args.reached.now c.loop-i.reached w.spread.new.reached c.loop-i.invariant.same w.in-Some.ensures.some w.in-Some.ensures.only c.loop-i.invariant.explored w.spread.ensures.explores);
  }
  | in_default w ↦ record {
    same = w.on_path-is ∙ c.loop-i.invariant.same;
    explored = rw w.reached-is (Explored-no_turn _ _ _ _ _ _ _ c.loop-i.on_path c.loop-i.i c.args.reached.now c.loop-i.reached c.loop-i.invariant.same (λ n l h. let z = w.in_default.is in let y = c.hop.ensures.only n l h in cc) c.loop-i.invariant.explored);
  }
]

pub returns-clause-explores : goal.returns-clause-explores
returns-clause-explores g t c =
    Explored-done _ _ _ _ _ _ _ c.args.reached.now c.loop-i.reached (Explored-count _ _ _ _ _ _ _ c.loop-i.i _ c.args.reached.now c.loop-i.reached (omega (arith, c.loop-i-test.false, c.device_count-i-end.ensures.count, c.loop-i.auto.i-end)) c.loop-i.invariant.explored)
