use Rattle.std.proofs.Common.{◌≡◌, ◌<◌, ◌∙◌, length, ap, ap₂, sym, subst, arith}
use Rattle.ca_lanes.specs.Plane.{lane_of}
use Rattle.ca_lanes.specs.Choice.{choice_at, choices_of}
use Rattle.ca_lanes.specs.code.Set.{set_choice}
use Rattle.ca_lanes.proofs.FrameLemmas.{nets_written}
use Rattle.ca_lanes.proofs.planes.Planes.set_frames.Goals as goal

pub returns-clause-first : goal.returns-clause-first
returns-clause-first c lane net known =
    let old = c.args.self.now.firsts in
    let written = nets_written c.set_frame.new.nets old.items old.len (sym c.deref_mut.ensures.len ∙ sym c.set_frame.ensures.count) in
    let count : length c.set_frame.new.nets ≡ length old.items = c.set_frame.ensures.count ∙ ap length c.deref_mut.ensures.value in
    ap (λ list. choice_at (choices_of list lane) net) written
    ∙ c.set_frame.ensures.set lane net (subst (λ n. net < n) (sym count) known)
    ∙ ap₂ (λ ins cs. set_choice ins cs c.args.pairs.now 0 (lane_of c.args.loaded lane) lane net) c.deref.ensures.value c.deref-2.ensures.value

pub returns-clause-last : goal.returns-clause-last
returns-clause-last c lane net known =
    let old = c.args.self.now.lasts in
    let written = nets_written c.set_frame-2.new.nets old.items old.len (sym c.deref_mut-2.ensures.len ∙ sym c.set_frame-2.ensures.count) in
    let count : length c.set_frame-2.new.nets ≡ length c.args.self.now.firsts.items =
    c.set_frame-2.ensures.count ∙ ap length c.deref_mut-2.ensures.value ∙ sym c.args.self.now.one_of_each in
    let bit : c.len-count.result ≡ length c.args.netlist.now.inputs.items = omega (arith, c.len-count.ensures) in
    ap (λ list. choice_at (choices_of list lane) net) written
    ∙ c.set_frame-2.ensures.set lane net (subst (λ n. net < n) (sym count) known)
    ∙ ap₂ (λ ins cs. set_choice ins cs c.args.pairs.now c.len-count.result (lane_of c.args.loaded lane) lane net) c.deref-3.ensures.value c.deref-4.ensures.value
    ∙ ap (λ b. set_choice c.args.netlist.now.inputs.items c.args.netlist.now.constants.items c.args.pairs.now b (lane_of c.args.loaded lane) lane net) bit
