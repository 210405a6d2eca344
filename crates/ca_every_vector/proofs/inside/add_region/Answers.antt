use Rattle.std.proofs.Common.{ℕ, List, ◌∙◌, drop, length, sym, subst}
use Rattle.ca_sweep.specs.Tables.{AreMarks}
use Rattle.ca_sweep.proofs.ClearLemmas.{marks_by}
use Rattle.ca_every_vector.specs.code.Masks.{AreMore}
use Rattle.ca_every_vector.specs.code.Region.{IsTried}
use Rattle.ca_every_vector.proofs.TableLemmas.{taken}
use Rattle.ca_every_vector.proofs.TriedLemmas.{is_tried_more}
use Rattle.ca_every_vector.proofs.inside.add_region.Goals as goal

pub mark-requires-clause-tried : goal.mark-requires-clause-tried
mark-requires-clause-tried c =
    let core = c.args.chip.now.core in
    let old = c.args.inside.now.masks.items in
    let new = c.try_region.new.masks in
    subst (λ (masks : List ℕ). AreMarks core (IsTried core masks) c.deref_mut-4.result.now) (sym (c.as_slice-3.ensures.value ∙ taken c.args.inside.now.masks.len new (drop (length new) old)
    (c.in_ok-try_region.ensures.more.room ∙ c.deref_mut-3.ensures.len)))
    (subst (AreMarks core (IsTried core new)) (sym c.deref_mut-4.ensures.value)
    (marks_by core (IsTried core old) (IsTried core new) c.args.inside.now.tried.items c.requires.kept.tried_are
    (λ u tried. is_tried_more core u old new (subst (λ (list : List ℕ). AreMore list new) c.deref_mut-3.ensures.value c.in_ok-try_region.ensures.more) tried)))
