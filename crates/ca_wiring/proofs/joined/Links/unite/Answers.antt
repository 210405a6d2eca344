use Rattle.std.proofs.Common.{arith}
use Rattle.ca_wiring.proofs.ForestLemmas.{root_no_later, united}
use Rattle.ca_wiring.proofs.joined.Links.unite.Goals as goal

pub link-requires-clause-a : goal.link-requires-clause-a
link-requires-clause-a c =
    let le = root_no_later c.find-left.new.self c.find-left.ensures.shortens.back c.args.join.left c.find-left.result c.find-left.ensures.root in
    let within = c.requires.within.0 in
    omega (arith, c.find-left.ensures.shortens.count, c.find-right.ensures.shortens.count)

pub link-requires-clause-b : goal.link-requires-clause-b
link-requires-clause-b c =
    let le = root_no_later c.find-right.new.self c.find-right.ensures.shortens.back c.args.join.right c.find-right.result c.find-right.ensures.root in
    let within = c.requires.within.1 in
    omega (arith, c.find-left.ensures.shortens.count, c.find-right.ensures.shortens.count)

pub returns : goal.returns
returns c =
    united c.args.join c.args.self.now c.find-left.new.self c.find-right.new.self c.link.new.self c.find-left.result c.find-right.result
    c.find-left.ensures.shortens c.find-right.ensures.shortens c.find-left.ensures.root c.find-right.ensures.root
    (let le = root_no_later c.find-left.new.self c.find-left.ensures.shortens.back c.args.join.left c.find-left.result c.find-left.ensures.root in
    let within = c.requires.within.0 in
    omega (arith, c.find-left.ensures.shortens.count, c.find-right.ensures.shortens.count))
    (let le = root_no_later c.find-right.new.self c.find-right.ensures.shortens.back c.args.join.right c.find-right.result c.find-right.ensures.root in
    let within = c.requires.within.1 in
    omega (arith, c.find-left.ensures.shortens.count, c.find-right.ensures.shortens.count))
    c.link.ensures
