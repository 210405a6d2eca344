use Rattle.std.proofs.Common.{ℕ, List, [], ◌∷◌, ◌++◌, ◌∙◌, ap, arith}
use Rattle.std.specs.Prelude.{Some, None}
use Rattle.ca_view.proofs.PinLemmas.{inverted_within, inverted_are}
use Rattle.ca_view.proofs.pins.scan_outputs.Goals as goal

pub get-requires : goal.get-requires
get-requires c =
    let within = inverted_within c.args.chip.now c.wired.ensures c.args.u.0 c.in-Some.net c.requires.scan c.in-Some.ensures in
    let room = c.requires.numbers.room in
    omega arith

pub returns-in-None : goal.returns-in-None
returns-in-None c =
    inverted_are c.args.chip.now c.wired.ensures c.args.u.0 None _ c.requires.scan c.in-None.ensures c.new.ensures.items

pub returns : goal.returns
returns c =
    inverted_are c.args.chip.now c.wired.ensures c.args.u.0 (Some c.in-Some.net) _ c.requires.scan c.in-Some.ensures
    (c.in_ok-push.ensures.items ∙ ap (λ (l : List ℕ). l ++ c.get.result ∷ []) c.new-nets.ensures.items
    ∙ ap (λ n. n ∷ []) (c.get.ensures ∙ c.requires.numbers.each c.in-Some.net
    (inverted_within c.args.chip.now c.wired.ensures c.args.u.0 c.in-Some.net c.requires.scan c.in-Some.ensures)))
