use Rattle.std.proofs.Common.{rules, map, inl, inr, List, ℕ, ◌≡◌, ◌∙◌, Some, refl, sym, subst}
use Rattle.std.specs.Prelude.{IfSome}
use Rattle.std.specs.String.{string_bytes}
use Rattle.std.proofs.lemmas.Option.{same_Some}
use Rattle.ca_fault.specs.declared.fault.Fault.TheVariants.{BadWords}
use Rattle.ca_flow.specs.Fault.{Outside, IsWorkCause, IsCause}
use Rattle.ca_flow.specs.Finished.{Writes}
use Rattle.ca_flow.specs.Ends.{IsAsked}
use Rattle.ca_flow.specs.code.Work.{EndsWork}
use Rattle.ca_flow.proofs.CompleteLemmas.{completes}
use Rattle.ca_flow.proofs.EndLemmas.{refused_answer, refused_asked, refused_prints, refused_writes}
use Rattle.ca_flow.proofs.EndLemmas.{read_is_not_written, work_asked, work_cause, work_has_words}
use Rattle.ca_flow.proofs.WordsLemmas.{no_words_work}
use Rattle.ca_flow.proofs.top.run.Goals as goal

pub returns-in-Err-clause-ends : goal.returns-in-Err-clause-ends
returns-in-Err-clause-ends g c =
    let words : List (List ℕ) = map string_bytes c.args.words.now in
    let before : Outside = record {
      files = g.S.Store.files c.args.store.now;
      store_faults = g.S.Store.faults c.args.store.now;
      sink_faults = g.W.Sink.faults c.args.out.now;
      bytes = g.W.Sink.bytes c.args.out.now;
    } in
    let after : Outside = record {
      files = g.S.Store.files c.work_of.new.store;
      store_faults = g.S.Store.faults c.work_of.new.store;
      sink_faults = g.W.Sink.faults c.args.out.now;
      bytes = g.W.Sink.bytes c.args.out.now;
    } in
    let end = c.refused-in-Err.result in
    let is = c.refused-in-Err.ensures.fault in
    let status = c.refused-in-Err.ensures.status in
    let none = c.refused-in-Err.ensures.done in
    let work : IsWorkCause words before.files before.store_faults after.store_faults c.in-Err.fault =
    (c.in-Err.ensures).cause words (c.in-Some.ensures).found in
    let cause : IfSome end.fault (IsCause words before after) = rw is (inr (inl work)) in
    let answer = refused_answer words end c.in-Err.fault is status none (c.in-Err.ensures).no_sink
    (read_is_not_written words before.files before.store_faults after.store_faults c.in-Err.fault work) in
    record {
      answer = answer;
      asked = refused_asked words end c.in-Err.fault is status none before.files;
      prints = refused_prints words end c.in-Err.fault is status none before.bytes;
      writes = subst (λ files. Writes words end before.files files) (sym (c.in-Err.ensures).store.kept)
          (refused_writes words end c.in-Err.fault is status none before.files);
      cause = cause;
      complete = completes words before after end answer cause;
      of_store = rw is (c.in-Err.ensures).store.reported;
      of_sink = search rules;
    }

pub returns-in-Ok-clause-ends : goal.returns-in-Ok-clause-ends
returns-in-Ok-clause-ends g c =
    let words : List (List ℕ) = map string_bytes c.args.words.now in
    let before : Outside = record {
      files = g.S.Store.files c.args.store.now;
      store_faults = g.S.Store.faults c.args.store.now;
      sink_faults = g.W.Sink.faults c.args.out.now;
      bytes = g.W.Sink.bytes c.args.out.now;
    } in
    let mid : Outside = record {
      files = g.S.Store.files c.work_of.new.store;
      store_faults = g.S.Store.faults c.work_of.new.store;
      sink_faults = g.W.Sink.faults c.args.out.now;
      bytes = g.W.Sink.bytes c.args.out.now;
    } in
    let after : Outside = record {
      files = g.S.Store.files c.finish.new.store;
      store_faults = g.S.Store.faults c.finish.new.store;
      sink_faults = g.W.Sink.faults c.finish.new.out;
      bytes = g.W.Sink.bytes c.finish.new.out;
    } in
    let work = c.in-Ok.work in
    let asked = (c.in-Ok.ensures).asked words (c.in-Some.ensures).found in
    let same : mid ≡ before = rw ((c.in-Ok.ensures).store.kept, (c.in-Ok.ensures).store.quiet) refl in
    let whole : EndsWork words mid after work.done c.finish.result =
    c.finish.ensures.ends words ((c.in-Ok.ensures).file words (c.in-Some.ensures).found)
    (subst (λ files. IsAsked words files work.done) (sym (c.in-Ok.ensures).store.kept) asked) in
    let ends : EndsWork words before after work.done c.finish.result =
    subst (λ state. EndsWork words state after work.done c.finish.result) same whole in
    let cause = work_cause words before after c.finish.result.fault ends.cause in
    record {
      answer = ends.answer;
      asked = work_asked words before.files work.done c.finish.result.done ends.same asked;
      prints = ends.prints;
      writes = ends.writes;
      cause = cause;
      complete = completes words before after c.finish.result ends.answer cause;
      of_store = ends.of_store;
      of_sink = ends.of_sink;
    }

pub returns-in-Ok-clause-uncalled : goal.returns-in-Ok-clause-uncalled
returns-in-Ok-clause-uncalled g c = λ bad.
    let words : List (List ℕ) = map string_bytes c.args.words.now in
    let mid : Outside = record {
      files = g.S.Store.files c.work_of.new.store;
      store_faults = g.S.Store.faults c.work_of.new.store;
      sink_faults = g.W.Sink.faults c.args.out.now;
      bytes = g.W.Sink.bytes c.args.out.now;
    } in
    let after : Outside = record {
      files = g.S.Store.files c.finish.new.store;
      store_faults = g.S.Store.faults c.finish.new.store;
      sink_faults = g.W.Sink.faults c.finish.new.out;
      bytes = g.W.Sink.bytes c.finish.new.out;
    } in
    let work = c.in-Ok.work in
    let asked = (c.in-Ok.ensures).asked words (c.in-Some.ensures).found in
    let whole : EndsWork words mid after work.done c.finish.result =
    c.finish.ensures.ends words ((c.in-Ok.ensures).file words (c.in-Some.ensures).found)
    (subst (λ files. IsAsked words files work.done) (sym (c.in-Ok.ensures).store.kept) asked) in
    absurd (work_has_words words mid after c.finish.result.fault whole.cause bad)

pub returns-in-Err-clause-uncalled : goal.returns-in-Err-clause-uncalled
returns-in-Err-clause-uncalled g c = λ bad.
    let words : List (List ℕ) = map string_bytes c.args.words.now in
    let is : Some c.in-Err.fault ≡ Some BadWords = sym c.refused-in-Err.ensures.fault ∙ bad in
    absurd (no_words_work words (g.S.Store.files c.args.store.now) (g.S.Store.faults c.args.store.now)
    (g.S.Store.faults c.work_of.new.store) c.in-Err.fault ((c.in-Err.ensures).cause words (c.in-Some.ensures).found)
    (same_Some c.in-Err.fault BadWords is))
