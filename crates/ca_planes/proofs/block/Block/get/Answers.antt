use Rattle.std.proofs.Common.{◌≡◌, ◌∙◌, arith, ap, sym, get_or}
use Rattle.std.proofs.lemmas.List.{get_or_read}
use Rattle.ca_planes.specs.Trits.{value_in}
use Rattle.ca_planes.proofs.ValueLemmas.{value_at-values_in}
use Rattle.ca_planes.proofs.block.Block.get.Goals as goal

pub returns : goal.returns
returns c lane =
    let zeros = c.args.self.now.zeros.items in
    let ones = c.args.self.now.ones.items in
    let zero : c.index.result.now ≡ get_or zeros c.args.node 0 = get_or_read zeros c.args.node c.index.result.now c.requires.node c.index.ensures 0 in
    let one : c.index-2.result.now ≡ get_or ones c.args.node 0 =
    get_or_read ones c.args.node c.index-2.result.now (omega (arith, c.requires.node, c.requires.room)) c.index-2.ensures 0 in
    ap (λ z. value_in z c.index-2.result.now lane) zero ∙ ap (λ o. value_in (get_or zeros c.args.node 0) o lane) one
    ∙ sym (value_at-values_in zeros ones lane c.args.node c.requires.room c.requires.node)
