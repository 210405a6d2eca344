use Rattle.std.proofs.Common.{◌++◌, ◌∷◌, [], ◌∙◌, List, take, sym, ap}
use Rattle.std.proofs.lemmas.List.{take_more}
use Rattle.std.proofs.lemmas.Option.{slice_get_within, get_or_from_slice_get}
use Rattle.ca_flat.specs.declared.chip_defect.ChipDefect.{ChipDefect}
use Rattle.ca_bridges.proofs.parts.copied.Goals as goal

pub loop-place-preserved : goal.loop-place-preserved
loop-place-preserved c =
    let shorts = c.args.shorts.now in
    let place = c.loop-place.place in
    let short = c.get.result in
    c.in_ok-push.ensures.ok ∙ ap (λ (front : List ChipDefect). front ++ short ∷ []) c.loop-place.invariant
    ∙ ap (λ (last : ChipDefect). take place shorts ++ last ∷ []) (sym (get_or_from_slice_get shorts place short short c.get.ensures))
    ∙ sym (take_more shorts place short (slice_get_within shorts place short c.get.ensures))
