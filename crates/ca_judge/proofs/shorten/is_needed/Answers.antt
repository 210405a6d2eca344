use Rattle.std.proofs.Common.{rules, ◌≡◌, ◌<◌, length, sym, subst}
use Rattle.ca_flat.specs.Pair.{IsShown}
use Rattle.ca_judge.proofs.AttemptLemmas.{set_again}
use Rattle.ca_judge.proofs.shorten.is_needed.Goals as goal

-- the bit is what it was
is_again : (c : goal.After-set-2) → c.set-2.new.self.pair ≡ c.args.confined.now.pair
is_again c =
    let within : c.in-Branch.bit < length c.args.confined.now.pair = search rules in
    set_again _ _ _ _ _ _ within c.set.ensures.pair c.set-2.ensures.pair c.bit-value.ensures

pub returns-clause-needed : goal.returns-clause-needed
returns-clause-needed c = λ is. is_again c

pub returns-clause-shown : goal.returns-clause-shown
returns-clause-shown c =
    subst (IsShown c.args.aimed.now.view.now.core c.args.aimed.now.defect) (sym (is_again c)) c.requires.shown
