use Rattle.std.proofs.Common.{List, ap, ◌∙◌, ◌++◌}
use Rattle.std.proofs.lemmas.Result.{on_ok_weaker}
use Rattle.ca_stil_form.specs.Frame.{Member}
use Rattle.ca_stil_form.specs.Grammar.{pieces}
use Rattle.ca_stil_form.specs.Pattern.{steady}
use Rattle.ca_stil_read.proofs.Appending.{after_five}
use Rattle.ca_stil_read.proofs.plan.push_capture_of.Goals as goal

pub returns : goal.returns
returns c =
    on_ok_weaker c.push_all_steady-2.result
    (λ last. after_five _ _ _ _ _ _ c.in_ok-push_fixed.ensures c.in_ok-push_all_steady.ensures c.in_ok-push_fixed-2.ensures
    c.in_ok-push_fixed-3.ensures
    (last ∙ ap (λ (members : List Member). c.push_fixed-3.new.due ++ (pieces (steady 48) members).tokens) c.in_ok-loads.ensures))
    c.push_all_steady-2.ensures
