use Rattle.std.proofs.Common.{◌+◌, [], Some, None, sym, ◌∙◌, arith, get_or}
use Rattle.std.proofs.lemmas.Option.{slice_get-get_or}
use Rattle.ca_cert.proofs.SoughtLemmas.{tried_more, tried_all, tried_as, stay_more, next_as, pair_keeps_on}
use Rattle.ca_cert.proofs.detection.Sought.look_with.Goals as goal

pub places-preserved : goal.places-preserved
places-preserved g c =
    let first = g.T.Examiner.examined c.args.tester.now in
    let before = g.T.Examiner.examined c.places.tester in
    let now = g.T.Examiner.examined c.next.new.self in
    let list = g.T.Tester.listed c.args.tester.now in
    let now_list = g.T.Tester.listed c.next.new.self in
    let pairs = c.args.pairs.now in
    let bits = get_or pairs c.args.pair [] in
    let is_pair = slice_get-get_or pairs c.args.pair [] c.requires.within in
    let was = c.places.invariant in
    let keeps = pair_keeps_on first before now was.kept c.next.ensures.kept in
    let list_is = c.next.ensures.listed ∙ was.list in
    let next = next_as before now (g.T.Tester.listed c.places.tester) now_list c.places.self.left c.places.from (Some c.in-Some.place) c.next.ensures.kept c.next.ensures.listed c.in-Some.ensures.next in
    let tried = tried_as first.chip now.chip list now_list pairs c.args.pair c.places.from c.places.self keeps.chip.chip list_is was.tried in
    record {
      tried = tried_as now.chip first.chip now_list list pairs c.args.pair (c.in-Some.place + 1) c.look_at.new.self (sym keeps.chip.chip) (sym list_is)
          (tried_more now now_list pairs c.args.pair c.places.from bits is_pair (keeps.pair ∙ c.requires.pair bits is_pair) c.places.self tried
          c.in-Some.place next c.look_at.new.self c.look_at.ensures.looked);
      stay = stay_more now now_list c.args.pair c.in-Some.place c.args.self.now c.places.self c.look_at.new.self c.look_at.ensures.looked
          (let size = was.tried.size in let lt = was.tried.within c.in-Some.place next.1 in omega arith) was.stay;
      kept = pair_keeps_on first now (g.T.Examiner.examined c.look_at.new.tester) keeps c.look_at.ensures.kept;
      list = c.look_at.ensures.list ∙ list_is;
      within = let lt = was.tried.within c.in-Some.place next.1 in omega arith;
    }

pub returns-clause-sought : goal.returns-clause-sought
returns-clause-sought g c =
    let first = g.T.Examiner.examined c.args.tester.now in
    let before = g.T.Examiner.examined c.places.tester in
    let now = g.T.Examiner.examined c.next.new.self in
    let list = g.T.Tester.listed c.args.tester.now in
    let now_list = g.T.Tester.listed c.next.new.self in
    let pairs = c.args.pairs.now in
    let bits = get_or pairs c.args.pair [] in
    let is_pair = slice_get-get_or pairs c.args.pair [] c.requires.within in
    let was = c.places.invariant in
    let keeps = pair_keeps_on first before now was.kept c.next.ensures.kept in
    let list_is = c.next.ensures.listed ∙ was.list in
    tried_as now.chip first.chip now_list list pairs (c.args.pair + 1) 0 c.places.self (sym keeps.chip.chip) (sym list_is)
    (tried_all now now_list pairs c.args.pair c.places.from bits is_pair (keeps.pair ∙ c.requires.pair bits is_pair) c.places.self
    (tried_as first.chip now.chip list now_list pairs c.args.pair c.places.from c.places.self keeps.chip.chip list_is was.tried)
    (next_as before now (g.T.Tester.listed c.places.tester) now_list c.places.self.left c.places.from None c.next.ensures.kept c.next.ensures.listed c.in_default.ensures.next))
