use Rattle.ca_cluster.proofs.ClusterLemmas.{in_hand, holds, short_made}
use Rattle.ca_cluster.proofs.short.short_for.Goals as goal

pub seat-one-requires-clause-hand : goal.seat-one-requires-clause-hand
seat-one-requires-clause-hand c =
    in_hand c.args.chip.now c.wired.ensures c.args.bridge c.requires.known c.requires.inside c.args.members.now c.requires.are c.args.made.now c.args.last.0 c.requires.merged c.requires.keeps

pub seat-one-requires-clause-inside : goal.seat-one-requires-clause-inside
seat-one-requires-clause-inside c =
    (holds c.args.chip.now c.wired.ensures c.args.bridge c.requires.known c.requires.inside c.args.members.now c.requires.are c.requires.keeps).low

pub seat-other-requires-clause-hand : goal.seat-other-requires-clause-hand
seat-other-requires-clause-hand c =
    in_hand c.args.chip.now c.wired.ensures c.args.bridge c.requires.known c.requires.inside c.args.members.now c.requires.are c.args.made.now c.args.last.0 c.requires.merged c.requires.keeps

pub seat-other-requires-clause-inside : goal.seat-other-requires-clause-inside
seat-other-requires-clause-inside c =
    (holds c.args.chip.now c.wired.ensures c.args.bridge c.requires.known c.requires.inside c.args.members.now c.requires.are c.requires.keeps).high

pub short_between-requires : goal.short_between-requires
short_between-requires c =
    in_hand c.args.chip.now c.wired.ensures c.args.bridge c.requires.known c.requires.inside c.args.members.now c.requires.are c.args.made.now c.args.last.0 c.requires.merged c.requires.keeps

pub returns : goal.returns
returns c =
    short_made c.args.chip.now c.args.bridge c.args.members.now c.args.last.0 c.seat-one.result c.seat-other.result c.short_between.result
    c.requires.merged.place c.seat-one.ensures c.seat-other.ensures c.short_between.ensures
