use Rattle.std.proofs.Common.{◌≡◌, ◌+◌, ◌*◌, ◌∙◌, sym, ap, subst, arith}
use Rattle.ca_net.specs.Limits.{IsFirstLimit}
use Rattle.ca_cell.specs.declared.raw.RawCell.{RawCell}
use Rattle.ca_cell.specs.Raw.{is_input, role_count}
use Rattle.ca_cell.specs.Exposes.{pin_vector}
use Rattle.ca_cell.specs.Row.{vector_of}
use Rattle.ca_planes.specs.Trits.{state_in}
use Rattle.ca_row_block.specs.Rows.{last_of}
use Rattle.ca_row_block.specs.code.Loaded.{IsLoadedTo, rails_and}
use Rattle.ca_row_block.proofs.DigitLemmas.{last_vector}
use Rattle.ca_row_block.proofs.RowLemmas.{first_of_state, pin_count}
use Rattle.ca_row_block.proofs.room.RowRoom.load.Goals as goal

pub returns : goal.returns
returns g c =
    let raw = g.N.CellNet.subcircuit c.args.net.now in
    let net = g.N.Network.circuit c.args.net.now in
    let nodes = c.cell.ensures.nodes in
    let pins : c.inputs-inputs.result ≡ role_count is_input raw.pins =
    c.inputs-inputs.ensures.count ∙ ap (λ (held : RawCell). role_count is_input held.pins) c.cell.ensures.same in
    record {
      vectors = record {
        from = record { zeros = c.load_rows.ensures.zeros ∙ c.requires.vectors.from.zeros; ones = c.load_rows.ensures.ones ∙ c.requires.vectors.from.ones };
        to = c.requires.vectors.to;
        mask_count = c.requires.vectors.mask_count;
        masks = c.requires.vectors.masks;
      };
      limits = c.settle_firsts.ensures.kept;
      firsts = λ inputs lane count low.
          let same : inputs ≡ role_count is_input raw.pins = omega (arith, count, pin_count raw net nodes) in
          let number : 0 * 64 + lane ≡ lane = omega arith in
          let there = subst (λ k. IsLoadedTo (2 + k) (rails_and (last_of k (0 * 64 + lane))) (state_in c.load_rows.new.block lane)) pins
          (c.load_rows.ensures.loaded lane (omega (arith, low))) in
          let loaded = subst (λ m. IsLoadedTo (2 + role_count is_input raw.pins) (rails_and (last_of (role_count is_input raw.pins) m)) (state_in c.load_rows.new.block lane))
          number there in
          let first = first_of_state raw net (last_of (role_count is_input raw.pins) lane) (state_in c.load_rows.new.block lane)
          (state_in c.settle_firsts.new.work.firsts lane) nodes loaded (c.settle_firsts.ensures.firsts lane (omega (arith, low))) in
          subst (λ k. IsFirstLimit net (pin_vector net (vector_of k lane)) (state_in c.settle_firsts.new.work.firsts lane)) (sym same)
          (subst (λ v. IsFirstLimit net (pin_vector net v) (state_in c.settle_firsts.new.work.firsts lane)) (last_vector (role_count is_input raw.pins) lane) first);
    }
