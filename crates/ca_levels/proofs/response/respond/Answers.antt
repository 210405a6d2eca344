use Rattle.std.proofs.Common.{◌≡◌, ◌∙◌, ◌-◌, length, sym, ap, subst, arith}
use Rattle.ca_net.specs.declared.scale.TheConstants.{INPUT}
use Rattle.ca_planes.specs.Trits.{state_in}
use Rattle.ca_levels.specs.code.Reached.{AreReached, AreNotOnes, IsSpreadTo}
use Rattle.ca_levels.specs.Levels.{with_devices}
use Rattle.ca_levels.proofs.ResponseLemmas.{some_well_formed, written_back, none_reached, spread_none, responses_of, kept_as, zeros_as}
use Rattle.std.proofs.lemmas.List.{length-replicate}
use Rattle.ca_levels.proofs.response.respond.Goals as goal

pub loop-above-init : goal.loop-above-init
loop-above-init g c =
    let whole = g.N.Network.circuit c.args.net.now in
    let net = with_devices whole c.args.devices.now in
    let well_formed = some_well_formed whole c.args.devices.now c.node_count-nodes.ensures.well_formed c.requires.devices in
    let levels = c.args.levels.now in
    let room = c.requires.levels.room in
    let not_ones = written_back c.find_not_ones.new.not_ones levels.not_ones.items levels.not_ones.len (sym c.deref_mut.ensures.len ∙ sym c.find_not_ones.auto.not_ones) in
    let potential = c.fill.ensures.items (λ y e. e) ∙ zeros_as _ _ (omega (arith, levels.potential.ok.0, room.potential)) in
    let definite = c.fill-2.ensures.items (λ y e. e) ∙ zeros_as _ _ (omega (arith, levels.definite.ok.0, room.definite)) in
    let stronger = c.fill-3.ensures.items (λ y e. e) ∙ zeros_as _ _ (omega (arith, levels.stronger.ok.0, room.stronger)) in
    let zeros = c.fill-4.ensures.items (λ y e. e) ∙ zeros_as _ _ (omega (arith, c.args.out.now.zeros.ok.0, c.requires.out.zeros)) in
    let ones = c.fill-5.ensures.items (λ y e. e) ∙ zeros_as _ _ (omega (arith, c.args.out.now.ones.ok.0, c.requires.out.ones)) in
    record {
      loaded = record {
        holds = record {
          room = record {
            own = room.own;
            not_ones = ap length not_ones ∙ c.find_not_ones.auto.not_ones ∙ ap length c.deref_mut.ensures.value ∙ room.not_ones;
            stronger = ap length stronger ∙ length-replicate (length net.nodes) 0;
            potential = ap length potential ∙ length-replicate (length whole.devices) 0;
            definite = ap length definite ∙ length-replicate (length whole.devices) 0;
            given_room = room.given_room;
            carried_room = room.carried_room;
            all = room.all;
            none = room.none;
          };
          own = c.requires.levels.own;
          given = c.requires.levels.given;
          carried = c.requires.levels.carried;
        };
        not_ones = subst (AreNotOnes c.args.from.now) (sym not_ones) c.find_not_ones.ensures;
      };
      room = record { zeros = ap length zeros ∙ length-replicate (length net.nodes) 0; ones = ap length ones ∙ length-replicate (length net.nodes) 0 };
      reached = λ lane low. none_reached net well_formed (state_in c.args.from.now lane) lane c.fill-3.new.self.items c.fill-4.new.self.items c.fill-5.new.self.items
          stronger zeros ones;
      spread = spread_none net well_formed c.args.from.now _ _ (length whole.devices) potential definite stronger zeros ones;
    }

pub loop-above-preserved : goal.loop-above-preserved
loop-above-preserved g c =
    let whole = g.N.Network.circuit c.args.net.now in
    let net = with_devices whole c.args.devices.now in
    record {
      loaded = c.descend.ensures.loaded;
      room = c.descend.ensures.room;
      reached = subst (λ k. AreReached net c.args.from.now k c.descend.new.levels c.descend.new.out) (omega (arith, c.loop-above-test.true)) c.descend.ensures.reached;
      spread = subst (λ k. IsSpreadTo c.args.devices.now c.args.from.now k c.descend.new.levels c.descend.new.out) (omega (arith, c.loop-above-test.true)) c.descend.ensures.spread;
    }

pub returns-clause-responses : goal.returns-clause-responses
returns-clause-responses g c lane low =
    let whole = g.N.Network.circuit c.args.net.now in
    let net = with_devices whole c.args.devices.now in
    let before = c.loop-above.invariant in
    let end : INPUT - c.loop-above.above ≡ 0 = omega (arith, c.loop-above-test.false) in
    let levels = c.loop-above.levels in
    let out = c.loop-above.out in
    let reached = subst (λ k. AreReached net c.args.from.now k levels out) end before.reached in
    rw (
      written_back c.keep_inputs.new.out out.zeros.items out.zeros.len (sym c.deref_mut-2.ensures.len ∙ sym c.keep_inputs.auto.out),
      written_back c.keep_inputs-2.new.out out.ones.items out.ones.len (sym c.deref_mut-3.ensures.len ∙ sym c.keep_inputs-2.auto.out),
    )
    (responses_of net (some_well_formed whole c.args.devices.now c.node_count-nodes.ensures.well_formed c.requires.devices) c.args.from.now levels.own.items levels.stronger.items out.zeros.items out.ones.items
    c.keep_inputs.new.out c.keep_inputs-2.new.out lane c.requires.from before.loaded.holds.room.own before.loaded.holds.own
    (c.keep_inputs.auto.out ∙ ap length c.deref_mut-2.ensures.value ∙ before.room.zeros) (c.keep_inputs-2.auto.out ∙ ap length c.deref_mut-3.ensures.value ∙ before.room.ones) (reached lane (omega (arith, low)))
    (kept_as c.deref.ensures.value c.deref-2.ensures.value c.deref_mut-2.ensures.value c.keep_inputs.ensures)
    (kept_as c.deref-3.ensures.value c.deref-4.ensures.value c.deref_mut-3.ensures.value c.keep_inputs-2.ensures))

pub descend-requires-clause-well_formed : goal.descend-requires-clause-well_formed
descend-requires-clause-well_formed g c =
    some_well_formed (g.N.Network.circuit c.args.net.now) c.args.devices.now c.node_count-nodes.ensures.well_formed c.requires.devices
