use Rattle.std.proofs.Common.{◌∙◌, arith, ap}
use Rattle.std.specs.List.{filter, range_with_len}
use Rattle.ca_cluster.specs.code.Members.{is_marked}
use Rattle.ca_cluster.proofs.MemberLemmas.{listed_more}
use Rattle.ca_cluster.proofs.members.listed.Goals as goal

pub is_marked-requires : goal.is_marked-requires
is_marked-requires c = c.requires c.loop-k.k (let e = c.parts-k-end.ensures in let lt = c.loop-k-test.true in omega arith)

pub loop-k-preserved : goal.loop-k-preserved
loop-k-preserved c =
    listed_more (is_marked c.args.marks.now) c.loop-k.k c.is_marked.result c.loop-k.list c.push_if.new.list c.is_marked.ensures c.loop-k.invariant (c.in_ok-push_if.ensures {u = tt})

pub returns : goal.returns
returns c =
    c.loop-k.invariant
    ∙ ap (λ n. filter (is_marked c.args.marks.now) (range_with_len 0 n))
    (let e = c.parts-k-end.ensures in let past = c.loop-k-test.false in let end = c.loop-k.auto.k-end in omega arith)
