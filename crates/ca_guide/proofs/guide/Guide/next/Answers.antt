use Rattle.std.proofs.Common.{subst, sym}
use Rattle.ca_guide.specs.code.Flood.{IsFloodTo}
use Rattle.ca_view.specs.NetLists.{output_nets}
use Rattle.ca_guide.specs.Seen.{open_area}
use Rattle.ca_guide.specs.PinRows.{IsSomeAllowed, IsNoneAllowed}
use Rattle.ca_guide.specs.Guide.{IsSupport}
use Rattle.ca_guide.specs.code.Guide.{IsUnsetAnswer}
use Rattle.ca_guide.proofs.GuideLemmas.{pins_within, plain_by_rows, plain_by_chain, plain_by_full, branches}
use Rattle.ca_guide.proofs.guide.Guide.next.Goals as goal

pub is_some_row_allowed-requires-clause-pins : goal.is_some_row_allowed-requires-clause-pins
is_some_row_allowed-requires-clause-pins g c =
    pins_within c.args.chip.now.lists (g.V.NetWaves.seen c.args.waves.now) c.input_pins.result.now c.requires.covers
    c.input_pins.ensures.within

pub returns-then-not-is_some_row_allowed-clause-step : goal.returns-then-not-is_some_row_allowed-clause-step
returns-then-not-is_some_row_allowed-clause-step g c shows =
    let seen = g.V.NetWaves.seen c.args.waves.now in
    plain_by_rows c.args.chip.now.core c.args.defect c.args.chip.now.lists seen c.linked.ensures.nets
    shows c.requires.defect c.args.rows.now c.requires.rows
    (subst (λ pins. IsNoneAllowed seen.good pins c.args.rows.now) c.input_pins.ensures.same
    (c.is_some_row_allowed.ensures.none c.if-not-is_some_row_allowed.true))

pub returns-then-not-reaches_output-clause-step : goal.returns-then-not-reaches_output-clause-step
returns-then-not-reaches_output-clause-step g c shows =
    let lists = c.args.chip.now.lists in
    let seen = g.V.NetWaves.seen c.args.waves.now in
    plain_by_chain c.args.chip.now.core c.args.defect lists seen c.linked.ensures.nets
    shows c.requires.defect c.args.rows.now c.requires.rows c.reaches_output.new.found.members
    (subst (λ is_end. IsFloodTo is_end lists.onward (open_area lists seen) (output_nets lists c.args.defect.instance) c.reaches_output.new.found.members)
    c.if-not-reaches_output.true c.reaches_output.ensures.reaches)

pub returns-in-None-clause-step : goal.returns-in-None-clause-step
returns-in-None-clause-step g c shows =
    let seen = g.V.NetWaves.seen c.args.waves.now in
    let chip = c.args.chip.now.core in
    plain_by_full chip c.args.defect c.args.chip.now.lists seen c.linked.ensures.nets
    shows c.requires.defect c.args.rows.now c.requires.rows c.self.inside.support.members
    (subst (λ guide. IsSupport chip c.args.defect guide.support) (sym c.self.view_is) c.requires.support) c.requires.is_open
    (subst (IsUnsetAnswer c.self.inside.support.members seen.bits) c.in-None.is c.unset_bit.ensures)

pub returns-in-Some-clause-step : goal.returns-in-Some-clause-step
returns-in-Some-clause-step g c shows =
    let lists = c.args.chip.now.lists in
    let seen = g.V.NetWaves.seen c.args.waves.now in
    let chip = c.args.chip.now.core in
    branches chip c.args.defect lists seen c.linked.ensures.nets
    shows c.requires.defect c.args.rows.now c.requires.rows c.self.inside.support.members
    (subst (λ guide. IsSupport chip c.args.defect guide.support) (sym c.self.view_is) c.requires.support) c.requires.is_open
    c.in-Some.bit (subst (IsUnsetAnswer c.self.inside.support.members seen.bits) c.in-Some.is c.unset_bit.ensures)
    (subst (λ pins. IsSomeAllowed seen.good pins c.args.rows.now) c.input_pins.ensures.same
    (c.is_some_row_allowed.ensures.some c.if-not-is_some_row_allowed.false))
    (subst (λ is_end. IsFloodTo is_end lists.onward (open_area lists seen) (output_nets lists c.args.defect.instance) c.reaches_output.new.found.members)
    c.if-not-reaches_output.false c.reaches_output.ensures.reaches)
