use Rattle.std.proofs.Common.{◌≡◌, ◌<◌, ◌+◌, ◌∙◌, ap, subst, arith, length, slice_set}
use Rattle.ca_net.specs.State.{value_at}
use Rattle.ca_sim.proofs.Loading.{IsLoadedTo, loaded_more, loaded_all}
use Rattle.ca_sim.proofs.networks.Networks.feed_all.Goals as goal

pub loop-input-preserved : goal.loop-input-preserved
loop-input-preserved g c =
    let core = c.args.chip.now.core in
    let pair = g.B.Bits.bits c.args.bits.now in
    let bits = c.loop-input.self.bits in
    let input = c.loop-input.input in
    let lt : input < length core.inputs = subst (λ k. input < k) c.input_count-inputs.ensures c.loop-input-test.true in
    let last_is : c.value-in-loop-input.result ≡ value_at pair (length core.inputs + input) =
    c.value-in-loop-input.ensures ∙ ap (λ k. value_at pair (k + input)) c.input_count-inputs.ensures in
    let next_is : c.feed.new.self.bits ≡ slice_set (slice_set bits input (value_at pair input)) (length core.inputs + input) (value_at pair (length core.inputs + input)) =
    c.feed.ensures.bits ∙ ap (λ v. slice_set (slice_set bits input v) (length core.inputs + input) c.value-in-loop-input.result) c.value.ensures
    ∙ ap (slice_set (slice_set bits input (value_at pair input)) (length core.inputs + input)) last_is in
    record {
      loaded = loaded_more core pair bits c.feed.new.self.bits input lt next_is c.loop-input.invariant.loaded;
      count = c.feed.ensures.count;
      ready = c.feed.ensures.ready;
      good = λ under. c.feed.ensures.good (c.loop-input.invariant.good under);
      faulty = c.feed.ensures.faulty ∙ c.loop-input.invariant.faulty;
    }

pub returns-clause-bits : goal.returns-clause-bits
returns-clause-bits g c =
    let core = c.args.chip.now.core in
    let pair = g.B.Bits.bits c.args.bits.now in
    loaded_all core pair c.loop-input.self.bits c.requires.count
    (subst (IsLoadedTo core pair c.loop-input.self.bits) (let e : c.loop-input.input ≡ length core.inputs = omega (arith, c.input_count-inputs.ensures) in e) c.loop-input.invariant.loaded)
