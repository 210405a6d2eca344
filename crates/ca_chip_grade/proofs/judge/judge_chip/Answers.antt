use Rattle.std.proofs.Common.{◌≡◌, Bool, List, length, subst, sym}
use Rattle.std.specs.List.{All}
use Rattle.ca_net.specs.declared.trit.Trit.{Trit}
use Rattle.ca_linked.specs.Linked.{LinkedChip}
use Rattle.ca_view.specs.Core.{core_of}
use Rattle.ca_flat.specs.Pair.{bit_count}
use Rattle.ca_chip_grade.proofs.FitLemmas.{bits_fit, values_fit}
use Rattle.ca_chip_grade.proofs.judge.judge_chip.Goals as goal

pub judged_over-found-requires-clause-bits : goal.judged_over-found-requires-clause-bits
judged_over-found-requires-clause-bits c =
    subst (λ (given : LinkedChip). All (λ (pair : List Bool). length pair ≡ bit_count (core_of given)) c.args.pairs.now)
    (sym (c.in_ok-view.ensures).chip_is) (bits_fit c.args.chip.now c.args.chains.now c.args.pairs.now c.args.expected.now c.requires)

pub judged_over-found-requires-clause-values : goal.judged_over-found-requires-clause-values
judged_over-found-requires-clause-values c =
    subst (λ (given : LinkedChip). All (λ (values : List Trit). length values ≡ length (core_of given).outputs) c.args.expected.now)
    (sym (c.in_ok-view.ensures).chip_is) (values_fit c.args.chip.now c.args.chains.now c.args.pairs.now c.args.expected.now c.requires)
