use Rattle.std.proofs.Common.{◌+◌, drop, sym, subst, arith}
use Rattle.ca_read_code.specs.code.CodeEnd.{IsEnd}
use Rattle.ca_read_code.specs.code.Walk.{IsStride}
use Rattle.ca_read_code.proofs.TurnLemmas.{aim_of, aim_on}
use Rattle.ca_read_code.proofs.ReadLemmas.{reading_begins, drop_at, drop_all, read_more, read_falls, read_ends, read_all, last_by, more_by}
use Rattle.ca_read_code.proofs.read.read.Goals as goal

pub loop-place-init : goal.loop-place-init
loop-place-init g c =
    let old = g.E.Examiner.examined c.args.examiner.now in
    let new = g.E.Examiner.examined c.clear.new.self in
    let begins = reading_begins old new c.args.code.now c.new-decisions.result.items c.clear.ensures c.new-decisions.ensures.items in
    record { aim = aim_of old new _ c.clear.ensures; follows = begins.0; reads = begins.1 }

pub returns-in-Falls-clause-end : goal.returns-in-Falls-clause-end
returns-in-Falls-clause-end g c =
    let old = g.E.Examiner.examined c.loop-place.examiner in
    let new = g.E.Examiner.examined c.read_token.new.examiner in
    read_falls old new c.args.code.now (drop c.loop-place.place c.args.code.now) (drop (c.loop-place.place + 1) c.args.code.now) c.get.result
    c.loop-place.decisions.items c.read_token.new.decisions.items c.read_token.ensures.aim c.loop-place.invariant.reads
    (drop_at c.args.code.now c.loop-place.place c.get.result c.get.ensures)
    (subst (IsStride c.get.result old new c.loop-place.decisions.items c.read_token.new.decisions.items) c.in-Falls.is c.in_ok-read_token.ensures.stride)

pub returns-in-Ends-clause-end : goal.returns-in-Ends-clause-end
returns-in-Ends-clause-end g c =
    let old = g.E.Examiner.examined c.loop-place.examiner in
    let new = g.E.Examiner.examined c.read_token.new.examiner in
    subst (IsEnd new c.args.code.now) (sym c.end_at.ensures)
    (read_ends old new c.args.code.now (drop c.loop-place.place c.args.code.now) (drop (c.loop-place.place + 1) c.args.code.now) c.get.result
    c.loop-place.decisions.items c.read_token.new.decisions.items _ c.read_token.ensures.aim c.loop-place.invariant.reads
    (drop_at c.args.code.now c.loop-place.place c.get.result c.get.ensures)
    (subst (IsStride c.get.result old new c.loop-place.decisions.items c.read_token.new.decisions.items) c.in-Ends.is c.in_ok-read_token.ensures.stride)
    (last_by c.args.code.now (c.loop-place.place + 1) c.len.result c.len.ensures)
    (more_by c.args.code.now (c.loop-place.place + 1) c.len.result c.len.ensures (omega (arith, c.loop-place-test.true, c.len-place-end.ensures))))

pub loop-place-preserved : goal.loop-place-preserved
loop-place-preserved g c =
    let old = g.E.Examiner.examined c.loop-place.examiner in
    let new = g.E.Examiner.examined c.read_token.new.examiner in
    let stride = subst (IsStride c.get.result old new c.loop-place.decisions.items c.read_token.new.decisions.items) c.in-Goes.is c.in_ok-read_token.ensures.stride in
    record {
      aim = aim_on (g.E.Examiner.examined c.args.examiner.now) old new c.loop-place.invariant.aim c.read_token.ensures.aim;
      follows = stride.0;
      reads = read_more old new c.args.code.now (drop c.loop-place.place c.args.code.now) (drop (c.loop-place.place + 1) c.args.code.now) c.get.result
          c.loop-place.decisions.items c.read_token.new.decisions.items c.read_token.ensures.aim c.loop-place.invariant.reads
          (drop_at c.args.code.now c.loop-place.place c.get.result c.get.ensures) stride;
    }

pub returns-clause-end : goal.returns-clause-end
returns-clause-end g c =
    read_all (g.E.Examiner.examined c.loop-place.examiner) c.args.code.now (drop c.loop-place.place c.args.code.now) c.loop-place.decisions.items
    c.loop-place.invariant.reads
    (drop_all c.args.code.now c.loop-place.place (omega (arith, c.loop-place-test.false, c.len-place-end.ensures)))
