use Rattle.std.proofs.Common.{◌∙◌, length, sym, ap, subst}
use Rattle.ca_levels.proofs.ResponseLemmas.{written_back}
use Rattle.ca_row_block.specs.Masks.{AreMasks}
use Rattle.ca_row_block.proofs.room.RowRoom.reserve.Goals as goal

pub returns : goal.returns
returns c =
    let masks = written_back c.find_masks.new.masks c.in_ok-masks.masks.items c.in_ok-masks.masks.len (sym c.deref_mut.ensures.len ∙ sym c.find_masks.auto.masks) in
    record {
      vectors = record {
        from = c.in_ok-reserve-2.ensures;
        to = c.in_ok-reserve-3.ensures;
        mask_count = ap length masks ∙ c.find_masks.ensures.room;
        masks = subst AreMasks (sym masks) c.find_masks.ensures.masks;
      };
      limits = c.in_ok-reserve.ensures;
    }
