use Rattle.std.proofs.Common.{◌∙◌, sym, ap, subst, List, ℕ, ◌<◌, ◌^◌, length, rules}
use Rattle.std.specs.List.{All}
use Rattle.ca_stil_form.specs.Tokens.{tokens_of}
use Rattle.ca_stil_form.specs.Whole.{stil_form}
use Rattle.ca_stil_form.proofs.StilLemmas.{stil_exact}
use Rattle.ca_stil_form.proofs.ReadingLemmas.{read_written}
use Rattle.ca_stil_read.specs.declared.pair.TextPair.{TextPair}
use Rattle.ca_stil_pairs.specs.Chip.{order_of}
use Rattle.ca_stil_pairs.specs.code.Places.{IsPairFor}
use Rattle.ca_stil_pairs.specs.code.File.{IsMadeFrom}
use Rattle.ca_stil_pairs.proofs.OrderLemmas.{chains_within}
use Rattle.ca_stil_pairs.proofs.WholeLemmas.{other_chip, text_pairs_for, file_is}
use Rattle.ca_stil_pairs.proofs.read.file_in.Goals as goal

pub returns-then-not-is_of_chip-clause-cause : goal.returns-then-not-is_of_chip-clause-cause
returns-then-not-is_of_chip-clause-cause c =
    other_chip c.args.chip.now c.args.bytes.now c.args.text.now c.requires.reads
    (sym c.is_of_chip.ensures ∙ c.if-not-is_of_chip.true)

pub made_of-requires-clause-pairs : goal.made_of-requires-clause-pairs
made_of-requires-clause-pairs c =
    let small : length c.as_slice-2.result.now < 2 ^ 64 = search rules in
    subst (λ (given : List TextPair). All (IsPairFor c.args.chip.now) given) (sym c.as_slice-3.ensures)
    (text_pairs_for c.args.chip.now c.args.bytes.now c.args.text.now c.requires.reads
    (read_written stil_form stil_exact (tokens_of c.args.bytes.now) c.requires.reads.value c.requires.reads.reads).allowed
    (sym c.is_of_chip.ensures ∙ c.if-not-is_of_chip.false)
    (subst (λ (given : List ℕ). length given < 2 ^ 64) (c.as_slice-2.ensures ∙ c.in_ok-order.ensures ∙ ap order_of c.as_slice.ensures) small))

pub returns-clause-ok : goal.returns-clause-ok
returns-clause-ok c =
    let small : length c.as_slice-2.result.now < 2 ^ 64 = search rules in
    file_is c.args.chip.now c.args.bytes.now c.args.text.now c.in_ok-file.file c.requires.reads c.requires.covered
    (chains_within c.args.chip.now c.requires.covered)
    (read_written stil_form stil_exact (tokens_of c.args.bytes.now) c.requires.reads.value c.requires.reads.reads).allowed
    (sym c.is_of_chip.ensures ∙ c.if-not-is_of_chip.false)
    (subst (λ (given : List ℕ). length given < 2 ^ 64) (c.as_slice-2.ensures ∙ c.in_ok-order.ensures ∙ ap order_of c.as_slice.ensures) small)
    (subst (λ (given : List TextPair). IsMadeFrom c.args.chip.now given c.in_ok-file.file) c.as_slice-3.ensures c.in_ok-file.ensures)
