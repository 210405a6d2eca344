use Rattle.std.proofs.Common.{◌≡◌, ◌-◌, ◌/◌, ◌%◌, ◌^◌, ◌∙◌, sym, ap, true, false, arith}
use Rattle.ca_cell.specs.Row.{digit_value}
use Rattle.ca_response.specs.Gives.{wave_at}
use Rattle.ca_flat.specs.Chip.{inputs_at, net_of}
use Rattle.ca_examiner.proofs.RowLemmas.{over_more, not_over}
use Rattle.ca_examiner.proofs.rows.is_over.Goals as goal

pub digit-requires : goal.digit-requires
digit-requires g c = let few = c.input_pins-count.ensures.few in omega arith

pub returns-then-not-below : goal.returns-then-not-below
returns-then-not-below g c =
    let seen = g.V.NetWaves.seen c.args.waves.now in
    let count : c.input_pins-count.result.count ≡ inputs_at seen.chip c.args.u = c.input_pins-count.ensures.count ∙ ap (λ x. inputs_at x c.args.u) (sym c.requires.chip) in
    let net : c.pin_net.result ≡ net_of seen.chip c.args.u c.loop-pin.pin = c.pin_net.ensures ∙ ap (λ x. net_of x c.args.u c.loop-pin.pin) (sym c.requires.chip) in (
      λ yes. absurd (let clash : false ≡ true = yes in cc),
      λ over. absurd (not_over seen c.args.end c.args.u c.args.number c.loop-pin.pin c.good.result c.value_at_end-value.result c.digit.result
          (omega arith) (c.good.ensures ∙ ap (wave_at seen.good) net) c.value_at_end-value.ensures
          (c.digit.ensures ∙ ap (λ n. digit_value (c.args.number / 2 ^ (n - 1 - c.loop-pin.pin) % 2)) count)
          (λ below. let clash : true ≡ false = sym (c.below.ensures.1 below) ∙ c.if-not-below.true in cc) over),
    )

pub loop-pin-preserved : goal.loop-pin-preserved
loop-pin-preserved g c =
    let seen = g.V.NetWaves.seen c.args.waves.now in
    let count : c.input_pins-count.result.count ≡ inputs_at seen.chip c.args.u = c.input_pins-count.ensures.count ∙ ap (λ x. inputs_at x c.args.u) (sym c.requires.chip) in
    let net : c.pin_net.result ≡ net_of seen.chip c.args.u c.loop-pin.pin = c.pin_net.ensures ∙ ap (λ x. net_of x c.args.u c.loop-pin.pin) (sym c.requires.chip) in
    over_more seen c.args.end c.args.u c.args.number c.loop-pin.pin c.good.result c.value_at_end-value.result c.digit.result
    (omega arith) (c.good.ensures ∙ ap (wave_at seen.good) net) c.value_at_end-value.ensures
    (c.digit.ensures ∙ ap (λ n. digit_value (c.args.number / 2 ^ (n - 1 - c.loop-pin.pin) % 2)) count)
    (c.below.ensures.0 c.if-not-below.false) c.loop-pin.invariant
