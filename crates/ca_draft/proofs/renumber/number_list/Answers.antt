use Rattle.std.proofs.Common.{◌∙◌, ap, ap₂, sym, ◌++◌, [], ◌∷◌, map}
use Rattle.std.specs.Prelude.{take}
use Rattle.std.proofs.lemmas.List.{map-append}
use Rattle.ca_linked.proofs.EndLemmas.{take_more}
use Rattle.ca_draft.specs.code.OnWires.{number_of}
use Rattle.ca_draft.proofs.renumber.number_list.Goals as goal

pub loop-k-preserved : goal.loop-k-preserved
loop-k-preserved c =
    let number = number_of c.args.table.now.numbers in
    (c.in_ok-push.ensures {u = tt}).ok ∙ ap₂ (λ l n. l ++ n ∷ []) c.loop-k.invariant c.number.ensures
    ∙ sym (map-append number (take c.loop-k.k c.args.wires.now) (c.get.result ∷ []))
    ∙ ap (map number) (sym (take_more c.args.wires.now c.loop-k.k c.get.result c.get.ensures))
