use Rattle.std.proofs.Common.{◌≡◌, ◌<◌, length, sym, subst, arith, Some, None}
use Rattle.std.specs.List.{All}
use Rattle.std.proofs.lemmas.List.{get_or_read}
use Rattle.std.proofs.lemmas.List.Elements.{All-contains}
use Rattle.ca_net.specs.Circuit.{IsWellFormed}
use Rattle.ca_flat.specs.Chip.{IsDefectIn}
use Rattle.ca_flat.specs.Flat.{flat}
use Rattle.ca_flat.specs.Rows.{ListsExposingRows}
use Rattle.ca_flat.specs.Detection.{IsUntestable}
use Rattle.ca_view.specs.Linked.{place_in}
use Rattle.ca_every_vector.specs.code.Masks.{mask_at, IsRowOut}
use Rattle.ca_every_vector.proofs.every_vector.EveryVector.is_impossible.Goals as goal

pub returns : goal.returns
returns c =
    let defect = c.args.defect in
    let u = c.args.defect.instance in
    let own : c.self.inside.chip.now.core ≡ c.args.self.now = c.self.view_is in
    let defect_is = subst (λ x. IsDefectIn x c.args.defect) (sym own) c.requires.defect in
    let placed : 0 < place_in c.self.inside.chip.now.ranks c.args.defect.instance = let rank = c.rank.ensures in let some = c.if-rank-eq0.false in omega arith in
    let lists = subst (λ x. ListsExposingRows x c.args.defect c.args.rows.now) (sym own) c.requires.rows in
    let first_fits : c.args.defect.instance < length c.self.inside.firsts.items = let l = c.len.ensures in let f = c.if-u-len.false in omega arith in
    let last_fits : c.args.defect.instance < length c.self.inside.lasts.items = let l = c.len-else-u-len.ensures in let f = c.if-u-len-2.false in omega arith in
    let first : c.index.result.now ≡ mask_at c.self.inside.firsts.items c.args.defect.instance =
    get_or_read c.self.inside.firsts.items c.args.defect.instance c.index.result.now first_fits c.index.ensures 0 in
    let last : c.index-2.result.now ≡ mask_at c.self.inside.lasts.items c.args.defect.instance =
    get_or_read c.self.inside.lasts.items c.args.defect.instance c.index-2.result.now last_fits c.index-2.ensures 0 in
    λ is.
    let out = subst (λ m. All (IsRowOut (mask_at c.self.inside.firsts.items c.args.defect.instance) m) c.args.rows.now) last
    (subst (λ m. All (IsRowOut m c.index-2.result.now) c.args.rows.now) first (c.are_all_out.ensures is)) in
    subst (λ x. IsUntestable x c.args.defect) own
    (c.impossible_is_untestable.ensures c.self.inside.chip.now.core (place_in c.self.inside.chip.now.ranks) c.args.defect
    (mask_at c.self.inside.firsts.items c.args.defect.instance) (mask_at c.self.inside.lasts.items c.args.defect.instance)
    (record {
      chip_is = c.linked.ensures.linked.is_chip;
      defect_is = defect_is;
      good_is = subst (λ x. IsWellFormed (flat x None)) (sym own) c.requires.good_is;
      faulty_is = subst (λ x. IsWellFormed (flat x (Some c.args.defect))) (sym own) c.requires.faulty_is;
    })
    (c.self.invariant.first (subst (λ x. IsWellFormed (flat x None)) (sym own) c.requires.good_is) c.args.defect.instance (record { known = defect_is.known; placed = placed }) first_fits last_fits)
    (λ row exposing. All-contains (IsRowOut (mask_at c.self.inside.firsts.items c.args.defect.instance) (mask_at c.self.inside.lasts.items c.args.defect.instance)) c.args.rows.now row out
    ((lists row).1 exposing)))
