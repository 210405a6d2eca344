use Rattle.std.proofs.Common.{◌++◌, ◌∷◌, [], ◌∙◌, ap, arith, List, Bool}
use Rattle.ca_pair.proofs.BitLemmas.{bit_added}
use Rattle.ca_pair.proofs.pair.Pair.push.Goals as goal

pub returns-clause-ok : goal.returns-clause-ok
returns-clause-ok c =
    bit_added c.self.inside.words.items c.put.new.words.items c.self.inside.len c.args.bit c.put.ensures.here
    (λ k lt. c.put.ensures.others k (λ e. absurd (omega arith)) ∙ c.in_ok-make_room.ensures.same k lt)
    ∙ ap (λ (bits : List Bool). bits ++ c.args.bit ∷ []) c.self.view_is
