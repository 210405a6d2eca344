use Rattle.std.proofs.Common.{rules, refl, Some, ◌∙◌, sym, ap, subst, Bool}
use Rattle.ca_store.specs.code.Reading.{IsEnd}
use Rattle.ca_store.proofs.Gathers.{read_of}
use Rattle.ca_store.proofs.reading.read_file.Goals as goal

pub returns-then-is_whole-clause-ok : goal.returns-then-is_whole-clause-ok
returns-then-is_whole-clause-ok g c = record {
  within = search rules;
  all = λ reported is_reported.
      let read = read_of _ _ c.args.name.now _ c.args.limit _ _ c.in_ok-open.ensures.ok c.in_ok-open.ensures.kept
      c.in-Ok.ensures.read reported is_reported in
      let at_end = subst (λ (b : Bool). IsEnd b c.args.limit c.read_open.new.text read.0) c.if-is_whole.true read.2 in
      read.1 ∙ ap Some (sym at_end);
}

pub returns-in-Ok-clause-cause : goal.returns-in-Ok-clause-cause
returns-in-Ok-clause-cause g c = record {
  past = λ reported is_reported.
      let read = read_of _ _ c.args.name.now _ c.args.limit _ _ c.in_ok-open.ensures.ok c.in_ok-open.ensures.kept
      c.in-Ok.ensures.read reported is_reported in
      rw read.1 (subst (λ (b : Bool). IsEnd b c.args.limit c.read_open.new.text read.0) c.if-is_whole.false read.2);
  one_more = refl;
  quiet = search rules;
}
