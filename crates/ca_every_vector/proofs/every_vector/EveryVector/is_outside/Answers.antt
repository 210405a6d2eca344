use Rattle.std.proofs.Common.{◌≡◌, ◌<◌, true, length, sym, subst, arith, Some, None}
use Rattle.std.specs.List.{All}
use Rattle.std.proofs.lemmas.List.{get_or_read}
use Rattle.std.proofs.lemmas.List.Elements.{All-contains}
use Rattle.ca_net.specs.Circuit.{IsWellFormed}
use Rattle.ca_flat.specs.Chip.{IsDefectIn}
use Rattle.ca_flat.specs.Flat.{flat}
use Rattle.ca_flat.specs.Rows.{ListsExposingRows}
use Rattle.ca_flat.specs.Detection.{IsUntestable}
use Rattle.ca_view.specs.Linked.{place_in}
use Rattle.ca_sweep.specs.Tables.{is_marked}
use Rattle.ca_every_vector.specs.code.Inside.{IsLastOut}
use Rattle.ca_every_vector.specs.code.Masks.{mask_at}
use Rattle.ca_every_vector.proofs.every_vector.EveryVector.is_outside.Goals as goal

pub returns : goal.returns
returns c =
    let defect = c.args.defect in
    let own : c.self.inside.chip.now.core ≡ c.args.self.now = c.self.view_is in
    let defect_is = subst (λ x. IsDefectIn x c.args.defect) (sym own) c.requires.defect in
    let formed = subst (λ x. IsWellFormed (flat x None)) (sym own) c.requires.good_is in
    let lists = subst (λ x. ListsExposingRows x c.args.defect c.args.rows.now) (sym own) c.requires.rows in
    let fits : c.args.defect.instance < length c.self.inside.lasts.items = let l = c.len.ensures in let f = c.if-u-len.false in omega arith in
    let last : c.index.result.now ≡ mask_at c.self.inside.lasts.items c.args.defect.instance =
    get_or_read c.self.inside.lasts.items c.args.defect.instance c.index.result.now fits c.index.ensures 0 in
    λ is.
    let out = subst (λ m. All (IsLastOut m) c.args.rows.now) last (c.are_lasts_out.ensures is) in
    let inside = c.self.invariant.second formed c.args.defect.instance (subst (λ m. is_marked m c.args.defect.instance ≡ true) c.deref.ensures.value (c.is_marked.ensures c.if-not-is_marked.false))
    (subst (λ m. is_marked m c.args.defect.instance ≡ true) c.deref-else-not-is_marked.ensures.value (c.is_marked-else-not-is_marked.ensures c.if-not-is_marked-2.false)) in
    subst (λ x. IsUntestable x c.args.defect) own
    (c.outside_is_untestable.ensures c.self.inside.chip.now.core (place_in c.self.inside.chip.now.ranks) c.args.defect (mask_at c.self.inside.lasts.items c.args.defect.instance)
    (record {
      chip_is = c.linked.ensures.linked.is_chip;
      defect_is = defect_is;
      good_is = formed;
      faulty_is = subst (λ x. IsWellFormed (flat x (Some c.args.defect))) (sym own) c.requires.faulty_is;
    })
    inside.0 inside.1
    (λ row exposing. All-contains (IsLastOut (mask_at c.self.inside.lasts.items c.args.defect.instance)) c.args.rows.now row out ((lists row).1 exposing)))
