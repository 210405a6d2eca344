use Rattle.std.proofs.Common.{◌≡◌, ◌∙◌, sym, rules}
use Rattle.ca_scan.specs.code.Kept.{tally_at}
use Rattle.ca_scan.proofs.FollowLemmas.{not_two, is_two, is_out, no_taker, taken}
use Rattle.ca_scan.proofs.follow.next_step.Goals as goal

pub returns-then-get-ne2 : goal.returns-then-get-ne2
returns-then-get-ne2 c =
    not_two c.args.chip.now c.args.joints.now c.requires.joints c.args.net.0 c.wired.ensures c.requires.on_path
    (λ two. c.if-get-ne2.true (c.get.ensures ∙ two))

pub returns-then-get-ne0 : goal.returns-then-get-ne0
returns-then-get-ne0 c =
    let two : tally_at c.args.joints.now.ends c.args.net.0 ≡ 2 = search rules in (
      is_two c.args.chip.now c.args.joints.now c.requires.joints c.args.net.0 c.wired.ensures c.requires.on_path two,
      is_out c.args.chip.now c.args.joints.now c.requires.joints c.args.net.0 (λ none. c.if-get-ne0.true (c.get-2.ensures ∙ none)),
    )

pub returns-in-None : goal.returns-in-None
returns-in-None c =
    let none : tally_at c.args.joints.now.outs c.args.net.0 ≡ 0 = search rules in
    no_taker c.args.chip.now c.args.joints.now c.requires.joints c.args.net.0 none (sym c.get-3.ensures ∙ c.in-None.is)

pub returns-in-Some : goal.returns-in-Some
returns-in-Some c =
    let two : tally_at c.args.joints.now.ends c.args.net.0 ≡ 2 = search rules in (
      is_two c.args.chip.now c.args.joints.now c.requires.joints c.args.net.0 c.wired.ensures c.requires.on_path two,
      taken c.args.chip.now c.args.joints.now c.requires.joints c.args.net.0 c.in-Some.u (sym c.get-3.ensures ∙ c.in-Some.is),
    )
