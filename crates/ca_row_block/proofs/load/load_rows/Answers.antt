use Rattle.std.proofs.Common.{◌∙◌, ◌+◌, ◌*◌, ◌<◌, length, refl, ap, arith}
use Rattle.std.specs.Prelude.{slice_set}
use Rattle.ca_planes.specs.Trits.{state_in}
use Rattle.ca_planes.proofs.BitLemmas.{in_all, in_none}
use Rattle.ca_block.proofs.StateLemmas.{is_state}
use Rattle.ca_row_block.specs.Masks.{has_digit}
use Rattle.ca_row_block.specs.code.Digits.{is_value}
use Rattle.ca_row_block.specs.code.Loaded.{side_of}
use Rattle.ca_row_block.proofs.DigitLemmas.{rails_loaded, loaded_more}
use Rattle.ca_row_block.proofs.load.load_rows.Goals as goal

pub loop-place-init : goal.loop-place-init
loop-place-init c = record {
  zeros = c.set-2.ensures.zeros ∙ c.set.ensures.zeros;
  ones = c.set-2.ensures.ones ∙ c.set.ensures.ones;
  loaded = λ lane low.
      let one = c.ones_in.ensures lane (omega (arith, low)) ∙ ap is_value (in_all lane low) in
      let zero = c.ones_in-2.ensures lane (omega (arith, low)) ∙ ap is_value (in_none lane) in
      let room = is_state (length c.args.block.now.zeros.items) c.args.block.now lane (record { zeros = refl; ones = c.requires.room }) in
      rails_loaded (side_of c.args.side c.args.inputs (c.args.number * 64 + lane)) (state_in c.args.block.now lane) (state_in c.set.new.self lane)
      (state_in c.set-2.new.self lane) (omega (arith, room, c.requires.nodes))
      (c.set.ensures.states lane ∙ ap (slice_set (state_in c.args.block.now lane) 0) one)
      (c.set-2.ensures.states lane ∙ ap (slice_set (state_in c.set.new.self lane) 1) zero);
}

pub loop-place-preserved : goal.loop-place-preserved
loop-place-preserved c =
    let before = c.loop-place.invariant in
    let place = c.loop-place.place in
    let lt : place < c.args.inputs = omega (arith, c.loop-place-test.true) in
    record {
      zeros = c.set-in-loop-place.ensures.zeros ∙ before.zeros;
      ones = c.set-in-loop-place.ensures.ones ∙ before.ones;
      loaded = λ lane low.
          let number = c.args.number * 64 + lane in
          let room = is_state (length c.args.block.now.zeros.items) c.loop-place.block lane
          (record { zeros = before.zeros; ones = before.ones ∙ c.requires.room }) in
          loaded_more c.args.side c.args.inputs number place (state_in c.loop-place.block lane) (state_in c.set-in-loop-place.new.self lane) _ lt
          (omega (arith, room, lt, c.requires.nodes)) (c.set-in-loop-place.ensures.states lane)
          (c.ones_in-in-loop-place.ensures lane (omega (arith, low)) ∙ ap is_value (c.digit_plane.ensures lane (omega (arith, low)))
          ∙ ap (λ digit. is_value (has_digit number digit)) c.row_digit-digit.ensures) (before.loaded lane low);
    }
