use Rattle.std.proofs.Common.{Some, refl}
use Rattle.ca_flow.specs.declared.finished.Finished.{Finished}
use Rattle.ca_flow.specs.Fault.{Outside}
use Rattle.ca_flow.proofs.EndLemmas.{printed_ends, unwritten_ends, refused_ends}
use Rattle.ca_flow.proofs.finished.finish.Goals as goal

pub returns-in-Ok-write_out-clause-ends : goal.returns-in-Ok-write_out-clause-ends
returns-in-Ok-write_out-clause-ends g c = λ words fits asked.
    let before : Outside = record {
      files = g.S.Store.files c.args.store.now;
      store_faults = g.S.Store.faults c.args.store.now;
      sink_faults = g.W.Sink.faults c.args.out.now;
      bytes = g.W.Sink.bytes c.args.out.now;
    } in
    let after : Outside = record {
      files = g.S.Store.files c.write_out.new.store;
      store_faults = g.S.Store.faults c.write_out.new.store;
      sink_faults = g.W.Sink.faults c.print_done.new.out;
      bytes = g.W.Sink.bytes c.print_done.new.out;
    } in
    printed_ends words before after c.args.work.done c.args.work.file c.args.work.second c.print_done.result fits asked c.print_done.ensures.done
    c.print_done.ensures.status c.in-Ok.text c.in-Ok.ensures (c.in-Ok-write_out.ensures).ok (c.in-Ok-write_out.ensures).count.quiet
    c.print_done.ensures.count c.print_done.ensures.ends

pub returns-clause-ends : goal.returns-clause-ends
returns-clause-ends g c = λ words fits asked.
    let before : Outside = record {
      files = g.S.Store.files c.args.store.now;
      store_faults = g.S.Store.faults c.args.store.now;
      sink_faults = g.W.Sink.faults c.args.out.now;
      bytes = g.W.Sink.bytes c.args.out.now;
    } in
    let after : Outside = record {
      files = g.S.Store.files c.write_out.new.store;
      store_faults = g.S.Store.faults c.write_out.new.store;
      sink_faults = g.W.Sink.faults c.args.out.now;
      bytes = g.W.Sink.bytes c.args.out.now;
    } in
    let end : Finished = record { status = c.status.result; fault = Some c.in-Err.fault; done = Some c.args.work.done } in
    unwritten_ends words before after c.args.work.done c.args.work.file c.args.work.second end fits asked refl c.status.ensures c.in-Err.fault refl
    (c.in-Err.ensures).cause (c.in-Err.ensures).count.later refl refl

pub returns-in_default-clause-ends : goal.returns-in_default-clause-ends
returns-in_default-clause-ends g c = λ words fits asked.
    let before : Outside = record {
      files = g.S.Store.files c.args.store.now;
      store_faults = g.S.Store.faults c.args.store.now;
      sink_faults = g.W.Sink.faults c.args.out.now;
      bytes = g.W.Sink.bytes c.args.out.now;
    } in
    refused_ends words before c.args.work.done c.refused.result c.refused.ensures.fault c.refused.ensures.status
    c.refused.ensures.done
