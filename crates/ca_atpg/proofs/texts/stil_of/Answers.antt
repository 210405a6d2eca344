use Rattle.std.proofs.Common.{◌≡◌, Bool, List, map, sym, ap, subst, ◌∙◌}
use Rattle.ca_net.specs.declared.trit.Trit.{Trit}
use Rattle.ca_stil.specs.Text.{stil_text}
use Rattle.ca_chip_stil.specs.ChipStil.{stil_chip, AreOfChip}
use Rattle.ca_atpg.proofs.AtpgLemmas.{are_of_chip, is_stil, same_pairs, same_values, on_ok}
use Rattle.ca_atpg.specs.Atpg.{IsStil}
use Rattle.ca_atpg.proofs.texts.stil_of.Goals as goal

pub write_chip_stil-requires : goal.write_chip_stil-requires
write_chip_stil-requires c =
    let chip = c.args.chip.now in
    let chains = c.args.chains.now in
    let one : map (λ (pair : List Bool). pair) c.as_slice.result.now ≡ c.args.pairs.now =
    ap (map (λ (pair : List Bool). pair)) c.as_slice.ensures ∙ same_pairs chip chains c.args.pairs.now c.args.expected.now in
    let other : map (λ (values : List Trit). values) c.as_slice-2.result.now ≡ c.args.expected.now =
    ap (map (λ (values : List Trit). values)) c.as_slice-2.ensures ∙ same_values chip chains c.args.pairs.now c.args.expected.now in
    subst (λ (l : List (List Bool)). AreOfChip chip chains l (map (λ (values : List Trit). values) c.as_slice-2.result.now)) (sym one)
    (subst (λ (l : List (List Trit)). AreOfChip chip chains c.args.pairs.now l) (sym other)
    (are_of_chip chip chains c.args.pairs.now c.args.expected.now c.requires.chains c.requires.whole c.requires.expected))

pub returns : goal.returns
returns c =
    let chip = c.args.chip.now in
    let chains = c.args.chains.now in
    let one : map (λ (pair : List Bool). pair) c.as_slice.result.now ≡ c.args.pairs.now =
    ap (map (λ (pair : List Bool). pair)) c.as_slice.ensures ∙ same_pairs chip chains c.args.pairs.now c.args.expected.now in
    let other : map (λ (values : List Trit). values) c.as_slice-2.result.now ≡ c.args.expected.now =
    ap (map (λ (values : List Trit). values)) c.as_slice-2.ensures ∙ same_values chip chains c.args.pairs.now c.args.expected.now in
    on_ok c.write_chip_stil.result _ (IsStil chip chains c.args.pairs.now) (λ text is.
    is_stil chip chains c.args.pairs.now c.args.expected.now c.requires.expected text
    (is ∙ ap (λ (l : List (List Bool)). stil_text (stil_chip chip chains) l (map (λ (values : List Trit). values) c.as_slice-2.result.now)) one
    ∙ ap (λ (l : List (List Trit)). stil_text (stil_chip chip chains) c.args.pairs.now l) other)) c.write_chip_stil.ensures.exact
