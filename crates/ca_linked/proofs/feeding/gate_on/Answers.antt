use Rattle.std.proofs.Common.{ap, sym, ◌∙◌}
use Rattle.ca_linked.specs.Drivers.{first_instance}
use Rattle.ca_linked.specs.declared.drivers.Sources.{Sources}
use Rattle.ca_linked.proofs.FeedingLemmas.{gate_there, scan_there, none_there, instance_within}
use Rattle.ca_linked.proofs.feeding.gate_on.Goals as goal

pub part-requires : goal.part-requires
part-requires c =
    let reported = sym (ap (λ (s : Sources). first_instance s.first) c.get.ensures) ∙ sym c.instance.ensures ∙ c.in-Some.is in
    instance_within c.args.draft.now c.args.net c.args.drivers.now (c.requires.single.each c.args.net c.requires.within) c.in-Some.w reported

pub returns-then-is_gate : goal.returns-then-is_gate
returns-then-is_gate c =
    let reported = sym (ap (λ (s : Sources). first_instance s.first) c.get.ensures) ∙ sym c.instance.ensures ∙ c.in-Some.is in
    gate_there c.args.draft.now c.args.net c.args.drivers.now (c.requires.single.each c.args.net c.requires.within) c.in-Some.w c.part.result.now reported c.part.ensures
    (c.is_gate.ensures.0 c.if-is_gate.true)

pub returns-else-is_gate : goal.returns-else-is_gate
returns-else-is_gate c =
    let reported = sym (ap (λ (s : Sources). first_instance s.first) c.get.ensures) ∙ sym c.instance.ensures ∙ c.in-Some.is in
    scan_there c.args.draft.now c.args.net c.args.drivers.now (c.requires.single.each c.args.net c.requires.within) c.in-Some.w c.part.result.now reported c.part.ensures
    (λ is. let holds = c.is_gate.ensures.1 is in let fails = c.if-is_gate.false in cc)

pub returns-in-None : goal.returns-in-None
returns-in-None c =
    let reported = sym (ap (λ (s : Sources). first_instance s.first) c.get.ensures) ∙ sym c.instance.ensures ∙ c.in-None.is in
    none_there c.args.draft.now c.args.net c.args.drivers.now (c.requires.single.each c.args.net c.requires.within) reported
