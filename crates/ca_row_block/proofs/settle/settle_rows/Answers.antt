use Rattle.std.proofs.Common.{◌≡◌, ◌+◌, ◌*◌, ◌<◌, ◌≤◌, ◌∙◌, sym, ap, subst, arith}
use Rattle.ca_net.specs.Limits.{IsFirstLimit}
use Rattle.ca_planes.specs.declared.block.Block.{Block}
use Rattle.ca_planes.specs.Trits.{state_in}
use Rattle.ca_cell.specs.declared.raw.RawCell.{RawCell}
use Rattle.ca_cell.specs.Raw.{is_input, role_count}
use Rattle.ca_cell.specs.Exposes.{pin_vector}
use Rattle.ca_cell.specs.Row.{vector_of}
use Rattle.ca_response.specs.Outputs.{output_node}
use Rattle.ca_row_block.specs.Rows.{first_of, last_of}
use Rattle.ca_row_block.specs.code.Loaded.{IsLoadedTo, rails_and}
use Rattle.ca_row_block.proofs.RowLemmas.{inputs_loaded, output_within, first_of_vector, pin_count}
use Rattle.ca_row_block.proofs.DigitLemmas.{source_vector, source_within}
use Rattle.ca_block.specs.Limits.{source_lane}
use Rattle.ca_row_block.proofs.settle.settle_rows.Goals as goal

pub returns-clause-rows : goal.returns-clause-rows
returns-clause-rows g c lane low output v lt =
    let raw = g.N.CellNet.subcircuit c.args.net.now in
    let net = g.N.Network.circuit c.args.net.now in
    let number = c.args.block * 64 + lane in
    let inputs : c.inputs-inputs.result ≡ role_count is_input raw.pins =
    c.inputs-inputs.ensures.count ∙ ap (λ (held : RawCell). role_count is_input held.pins) c.cell.ensures.same in
    let firsts = subst (λ count. IsLoadedTo (2 + count) (rails_and (first_of count number)) (state_in c.load_rows.new.block lane)) inputs
    (c.load_rows.ensures.loaded lane low) in
    let lasts = subst (λ count. IsLoadedTo (2 + count) (rails_and (last_of count number)) (state_in c.load_rows-2.new.block lane)) inputs
    (c.load_rows-2.ensures.loaded lane low) in
    c.settle_block.ensures.ends lane low (pin_vector net (first_of (role_count is_input raw.pins) number)) (pin_vector net (last_of (role_count is_input raw.pins) number))
    (output_node raw output) v (inputs_loaded raw net (first_of (role_count is_input raw.pins) number) (state_in c.load_rows.new.block lane) c.cell.ensures.nodes firsts)
    (inputs_loaded raw net (last_of (role_count is_input raw.pins) number) (state_in c.load_rows-2.new.block lane) c.cell.ensures.nodes lasts)
    (output_within raw net output c.cell.ensures.nodes lt)

pub settle_block-requires-clause-firsts : goal.settle_block-requires-clause-firsts
settle_block-requires-clause-firsts g c lane low =
    let raw = g.N.CellNet.subcircuit c.args.net.now in
    let net = g.N.Network.circuit c.args.net.now in
    let pins = role_count is_input raw.pins in
    let number = c.args.block * 64 + lane in
    let under : lane < 64 = omega (arith, low) in
    let nodes = c.cell.ensures.nodes in
    let inputs : c.inputs-inputs.result ≡ role_count is_input raw.pins =
    c.inputs-inputs.ensures.count ∙ ap (λ (held : RawCell). role_count is_input held.pins) c.cell.ensures.same in
    let few : role_count is_input raw.pins ≤ 6 = omega (arith, inputs, c.inputs-inputs.ensures.few) in
    let firsts = subst (λ count. IsLoadedTo (2 + count) (rails_and (first_of count number)) (state_in c.load_rows.new.block lane)) inputs
    (c.load_rows.ensures.loaded lane (omega (arith, low))) in
    let source = source_lane pins c.args.block lane in
    let held = state_in c.args.room.now.work.firsts source in
    let kept = c.requires.firsts pins source (pin_count raw net nodes) (source_within pins c.args.block lane) in
    let first = first_of_vector raw net (first_of pins number) (state_in c.load_rows.new.block lane) held nodes firsts
    (subst (λ v. IsFirstLimit net (pin_vector net v) held) (source_vector pins c.args.block lane few under) kept) in
    subst (λ count. IsFirstLimit net (state_in c.load_rows.new.block lane) (state_in c.args.room.now.work.firsts (source_lane count c.args.block lane))) (sym inputs) first

pub returns-clause-room : goal.returns-clause-room
returns-clause-room g c =
    let net = g.N.Network.circuit c.args.net.now in
    let vectors = c.requires.vectors in
    record {
      vectors = record {
        from = record { zeros = c.load_rows.ensures.zeros ∙ vectors.from.zeros; ones = c.load_rows.ensures.ones ∙ vectors.from.ones };
        to = record { zeros = c.load_rows-2.ensures.zeros ∙ vectors.to.zeros; ones = c.load_rows-2.ensures.ones ∙ vectors.to.ones };
        mask_count = vectors.mask_count;
        masks = vectors.masks;
      };
      limits = c.settle_block.ensures.kept;
      firsts = λ inputs lane count low.
          subst (λ (b : Block). IsFirstLimit net (pin_vector net (vector_of inputs lane)) (state_in b lane)) (sym c.settle_block.ensures.same)
          (c.requires.firsts inputs lane count low);
    }
