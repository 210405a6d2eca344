use Rattle.std.proofs.Common.{◌≤◌, false, sym, ◌∙◌, ap, replicate, subst}
use Rattle.ca_net.specs.declared.trit.Trit.TheVariants.{Zero, One}
use Rattle.ca_net.proofs.Gives.{gives_start, gives_skip, gives_other, gives_all}
use Rattle.ca_net.proofs.response.storage_response.Goals as goal
use Rattle.ca_net.proofs.response.storage_response.Goals.{then-reaches_from+in-Zero, then-reaches_from+in-One}
use Rattle.ca_net.proofs.response.storage_response.Goals.{then-reaches_from+in-X, else-reaches_from}

pub loop-root-init : goal.loop-root-init
loop-root-init g c = record {
  unmarked = c.find_strongest.ensures.on_path ∙ c.fill-3.ensures.after (λ y e. e) ∙ ap (λ n. replicate n false) c.requires.on_path;
  zero = gives_start _ _ c.args.node.0 Zero;
  one = gives_start _ _ c.args.node.0 One;
}

pub loop-root-preserved : goal.loop-root-preserved
loop-root-preserved g c = elim c.if-reaches_from.branch [
  | then-reaches_from+in-Zero w ↦
      let v = sym w.get.ensures ∙ w.in-Zero.is in
      let r = c.reaches_from.ensures.reaches.0 w.if-reaches_from.true in
      record {
        unmarked = c.reaches_from.ensures.on_path ∙ c.loop-root.invariant.unmarked;
        zero = rw w.gives_zero-is (gives_skip _ _ c.args.node.0 Zero c.loop-root.root c.loop-root.gives_zero (λ _. v) c.loop-root.invariant.zero);
        one = rw w.gives_one-is (gives_other _ _ c.args.node.0 One c.loop-root.root r (λ e. cc));
      }
  | then-reaches_from+in-One w ↦
      let v = sym w.get.ensures ∙ w.in-One.is in
      let r = c.reaches_from.ensures.reaches.0 w.if-reaches_from.true in
      record {
        unmarked = c.reaches_from.ensures.on_path ∙ c.loop-root.invariant.unmarked;
        zero = rw w.gives_zero-is (gives_other _ _ c.args.node.0 Zero c.loop-root.root r (λ e. cc));
        one = rw w.gives_one-is (gives_skip _ _ c.args.node.0 One c.loop-root.root c.loop-root.gives_one (λ _. v) c.loop-root.invariant.one);
      }
  | then-reaches_from+in-X w ↦
      let v = sym w.get.ensures ∙ w.in-X.is in
      let r = c.reaches_from.ensures.reaches.0 w.if-reaches_from.true in
      record {
        unmarked = c.reaches_from.ensures.on_path ∙ c.loop-root.invariant.unmarked;
        zero = rw w.gives_zero-is (gives_other _ _ c.args.node.0 Zero c.loop-root.root r (λ e. cc));
        one = rw w.gives_one-is (gives_other _ _ c.args.node.0 One c.loop-root.root r (λ e. cc));
      }
  | else-reaches_from w ↦
      let f = w.if-reaches_from.false in
      record {
        unmarked = c.reaches_from.ensures.on_path ∙ c.loop-root.invariant.unmarked;
        zero = rw w.gives_zero-is (gives_skip _ _ c.args.node.0 Zero c.loop-root.root c.loop-root.gives_zero (λ r. let e = c.reaches_from.ensures.reaches.1 r in cc) c.loop-root.invariant.zero);
        one = rw w.gives_one-is (gives_skip _ _ c.args.node.0 One c.loop-root.root c.loop-root.gives_one (λ r. let e = c.reaches_from.ensures.reaches.1 r in cc) c.loop-root.invariant.one);
      }
]

pub returns-then-gives_zero : goal.returns-then-gives_zero
returns-then-gives_zero g c =
    let le = subst (λ n. n ≤ c.loop-root.root) c.node_count-root-end.ensures.count c.loop-root-test.false in
    gives_all _ _ c.args.node.0 Zero c.loop-root.root c.loop-root.gives_zero le c.if-gives_zero.true c.loop-root.invariant.zero

pub returns-then-gives_one : goal.returns-then-gives_one
returns-then-gives_one g c =
    let le = subst (λ n. n ≤ c.loop-root.root) c.node_count-root-end.ensures.count c.loop-root-test.false in
    gives_all _ _ c.args.node.0 One c.loop-root.root c.loop-root.gives_one le c.if-gives_one.true c.loop-root.invariant.one

pub returns-else-gives_one : goal.returns-else-gives_one
returns-else-gives_one g c = (c.loop-root.invariant.zero.some c.if-gives_zero.false, c.loop-root.invariant.one.some c.if-gives_one.false)
