use Rattle.std.proofs.Common.{ℕ, List, ◌∙◌, ap, drop, length, sym, subst}
use Rattle.ca_sweep.specs.Tables.{AreMarks}
use Rattle.ca_sweep.proofs.ClearLemmas.{marks_by}
use Rattle.ca_every_vector.specs.code.Inside.{AreTriedMarks}
use Rattle.ca_every_vector.specs.code.Masks.{AreMore}
use Rattle.ca_every_vector.specs.code.Region.{IsTried}
use Rattle.ca_every_vector.proofs.TableLemmas.{taken}
use Rattle.ca_every_vector.proofs.TriedLemmas.{is_tried_more}
use Rattle.ca_every_vector.proofs.wanted.add_region.Goals as goal

pub returns-then-not-all : goal.returns-then-not-all
returns-then-not-all c =
    let core = c.args.chip.now.core in
    let wide = c.begin_all.new.wide in
    let old = c.begin_all.new.wide.masks.items in
    let new = c.try_lanes.new.masks in
    let kept = c.begin_all.ensures in
    let done = c.in_ok-all.ensures in
    let is = taken c.begin_all.new.wide.masks.len new (drop (length new) old) (done.more.room ∙ c.deref_mut.ensures.len) in
    record {
      masks_room = ap length is ∙ done.more.room ∙ ap length c.deref_mut.ensures.value ∙ kept.masks_room;
      tried_are = subst (λ (masks : List ℕ). AreTriedMarks core masks wide.tried.items) (sym is)
          (marks_by core (IsTried core old) (IsTried core new) wide.tried.items kept.tried_are
          (λ u tried. is_tried_more core u old new (subst (λ (list : List ℕ). AreMore list new) c.deref_mut.ensures.value done.more) tried));
      fixed_are = kept.fixed_are;
      nodes = done.nets;
      other_nodes = done.other_nets;
      values_are = done.values;
      others_are = done.others;
      room = done.room;
    }

pub mark-requires-clause-tried : goal.mark-requires-clause-tried
mark-requires-clause-tried c =
    let core = c.args.chip.now.core in
    let wide = c.begin_all.new.wide in
    let old = c.begin_all.new.wide.masks.items in
    let new = c.try_lanes.new.masks in
    let done = c.in_ok-all.ensures in
    subst (λ (masks : List ℕ). AreMarks core (IsTried core masks) c.deref_mut-2.result.now) (sym (c.as_slice-3.ensures.value
    ∙ taken c.begin_all.new.wide.masks.len new (drop (length new) old) (done.more.room ∙ c.deref_mut.ensures.len)))
    (subst (AreMarks core (IsTried core new)) (sym c.deref_mut-2.ensures.value)
    (marks_by core (IsTried core old) (IsTried core new) wide.tried.items c.begin_all.ensures.tried_are
    (λ u tried. is_tried_more core u old new (subst (λ (list : List ℕ). AreMore list new) c.deref_mut.ensures.value done.more) tried)))
