use Rattle.std.proofs.Common.{◌≡◌, ◌<◌, arith, below_more, ap, sym, ◌∙◌, length, true, false, inl, inr, refl}
use Rattle.std.specs.Prelude.{slice_index_or}
use Rattle.std.proofs.lemmas.Bool.{cases_lt}
use Rattle.std.proofs.lemmas.List.{get_or_past}
use Rattle.ca_net.specs.State.{value_at}
use Rattle.ca_flat.specs.Codes.{bit_trit}
use Rattle.ca_sweep.specs.Seen.{trits_in}
use Rattle.ca_sweep.proofs.LaneLemmas.{trit_here}
use Rattle.ca_sweep.proofs.lane_sweep.agree.Goals as goal

pub loop-net-preserved : goal.loop-net-preserved
loop-net-preserved c =
    below_more (λ net. slice_index_or c.args.pinned.now net false ≡ true → value_at (trits_in c.args.ones.now c.args.lane) net ≡ value_at c.args.lasts.now net) c.loop-net.net
    c.loop-net.invariant
    (λ on. trit_here c.args.ones.now c.args.lane c.loop-net.net c.loop-net-test.true ∙ ap bit_trit (sym c.has.ensures) ∙ c.if-not-is_same.ensures refl on ∙ c.get.ensures)

pub returns : goal.returns
returns c = λ all net pinned.
    let end = c.loop-net-test.false in
    let within : net < length c.args.pinned.now = elim (cases_lt net (length c.args.pinned.now)) [
      | inl low ↦ low
      | inr past ↦ let e : false ≡ true = sym (get_or_past c.args.pinned.now net false past) ∙ pinned in absurd cc
    ] in
    c.loop-net.invariant net (let p = c.requires.pinned in omega arith) pinned
